use Rattle.std.proofs.Common.{◌≡◌, rules}
use Rattle.sheet.specs.View.{sheet_of}
use Rattle.folding.specs.Outcome.{CutsMade}
use Rattle.folding.proofs.Cuts.{form_made, form_covers_all}
use Rattle.folding.proofs.forming.form.Goals as goal

pub returns-clause-covers : goal.returns-clause-covers
returns-clause-covers c =
    let s = sheet_of c.args.sheet.now in
    let rs = c.args.bank.now in
    let n = c.args.count.now.terms in
    let n' = c.or_restored.new.self.terms in
    let kept : n' ≡ c.cut-low.new.count.terms = search rules in
    let low : CutsMade s rs n c.args.row.now c.args.height c.cut-low.new.bank n' c.in_ok-low.low = rw kept (search rules) in
    let made = form_made s rs n c.args.row.now c.args.height c.cut-low.new.bank n' c.in_ok-low.low c.trim_row.result (c.is_sound.ensures.0 c.if-not-is_sound.false) low c.trim_row.ensures.trimmed c.trim_row.ensures.inside in
    form_covers_all s rs n c.args.row.now c.args.height c.cut-low.new.bank n' c.trim_row.result made
