use Rattle.std.proofs.Common.{sym, ◌∙◌}
use Rattle.table.proofs.Marking.{mark_there, mark_absent}
use Rattle.table.proofs.table.Table.mark.Goals as goal

pub returns-in_err-place-clause-mark : goal.returns-in_err-place-clause-mark
returns-in_err-place-clause-mark c = λ s limit at stands. c.from_residual.ensures ∙ sym (mark_absent c.args.self.now s limit at stands c.args.branch c.in_err-place.ensures)

pub returns-clause-mark : goal.returns-clause-mark
returns-clause-mark c = λ s limit at stands. sym (mark_there c.args.self.now s limit at stands c.args.branch c.in_ok-place.place c.in_ok-place.ensures)
