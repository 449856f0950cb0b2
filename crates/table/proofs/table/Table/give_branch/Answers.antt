use Rattle.std.proofs.Common.{refl, ap}
use Rattle.std.proofs.lemmas.Result.{err_from_is_err_and}
use Rattle.rules.specs.declared.Mark.TheVariants.{Waiting}
use Rattle.rules.specs.Standing.{marked}
use Rattle.table.specs.declared.mark.Event.TheVariants.{GiveBack}
use Rattle.table.proofs.Marking.{offered, not_offered, marks_changed}
use Rattle.table.proofs.table.Table.give_branch.Goals as goal

pub returns-in_err-place-clause-performs : goal.returns-in_err-place-clause-performs
returns-in_err-place-clause-performs c = λ s limit at stands.
    let p = err_from_is_err_and c.from_residual.result c.from_residual.ensures.1 in
    let w = not_offered c.args.self.now s limit at stands c.args.branch GiveBack Waiting (λ x. refl) c.in_err-place.field-0.0 c.in_err-place.ensures in
    rw (p.1, p.2, w.0) (at, (w.1, refl), stands)

pub returns-clause-performs : goal.returns-clause-performs
returns-clause-performs c = λ s limit at stands.
    let t = c.args.self.now in
    let b = c.args.branch in
    let m = c.in_ok-place.mark in
    let w = offered t s limit at stands b GiveBack Waiting (λ x. refl) c.in_ok-place.place m c.in_ok-place.ensures in (
      marked at b m,
      (w.0, tt, ap (marked at b) w.1),
      record { opened = stands.opened; rows = stands.rows; marks = marks_changed t s limit at stands b c.in_ok-place.place c.in_ok-place.ensures.0 m; terms = stands.terms },
    )
