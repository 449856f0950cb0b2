use Rattle.std.proofs.Common.{ap, ◌∙◌}
use Rattle.rules.specs.Standing.{opening}
use Rattle.sheet.specs.View.{sheet_of}
use Rattle.verdict_text.specs.Checked.SheetLine.{worked}
use Rattle.verdict_text.specs.Lines.{line_of}
use Rattle.verdict_text.proofs.Saying.{if_ok}
use Rattle.verdict_text.proofs.table_line.Goals as goal

pub returns-in-Ok : goal.returns-in-Ok
returns-in-Ok c =
    let s = sheet_of c.args.sheet in
    let opened = c.in-Ok.ensures.opened in
    let end = c.work_through-outcome.ensures.worked s 64 (opening s) opened.1 in
    let counted = c.counts.ensures s 64 end.after end.stands in
    if_ok c.outcome_line.result _ _ (λ text is. worked opened.0.3 end.calls end.answers c.work_through-outcome.result end.after end.works (is ∙ ap (line_of c.work_through-outcome.result) counted)) c.outcome_line.ensures
