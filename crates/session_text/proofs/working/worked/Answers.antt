use Rattle.std.proofs.Common.{refl}
use Rattle.sheet.specs.View.{sheet_of}
use Rattle.rules.specs.Standing.{unopened}
use Rattle.table.specs.Standing.{Fits}
use Rattle.session_text.proofs.Outcomes.{worked_through, worked_refused}
use Rattle.session_text.proofs.working.worked.Goals as goal

pub returns-in-Ok-clause-worked : goal.returns-in-Ok-clause-worked
returns-in-Ok-clause-worked c =
    let s = sheet_of c.args.sheet in
    worked_through s c.args.limit (Fits c.new-table.result) _ _ _ _ refl c.in-Ok.ensures.opened c.in-Ok.ensures.promised (λ at comes. c.counts.ensures s c.args.limit at (c.in-Ok.ensures.left at comes))

pub returns-clause-worked : goal.returns-clause-worked
returns-clause-worked c =
    let s = sheet_of c.args.sheet in
    let played = c.make_all.ensures.played s c.args.limit unopened (c.in-Err.ensures.refused s c.args.limit) in
    worked_refused s c.args.limit (Fits c.new-table.result) _ _ _ _ c.in-Err.fault played.0 refl (c.new-table.ensures.fits c.requires) c.in-Err.ensures.opened played.1 (c.counts-in-Err.ensures s c.args.limit played.0 played.2)
