use Rattle.std.proofs.Common.{refl, sym, ap}
use Rattle.std.proofs.lemmas.Result.{err_from_is_err_and}
use Rattle.rules.specs.declared.Branch.{Branch}
use Rattle.rules.specs.Standing.{marked}
use Rattle.table.proofs.Marking.{mark_absent, marks_changed, taken, not_taken}
use Rattle.table.proofs.table.Table.take.Goals as goal

pub returns-in_default-clause-performs : goal.returns-in_default-clause-performs
returns-in_default-clause-performs c = λ s limit at stands.
    let b : Branch = record { row = c.args.row; number = c.args.number } in
    (at, (mark_absent c.args.self.now s limit at stands b c.in_default.ensures, refl), stands)

pub returns-in_err-self-clause-performs : goal.returns-in_err-self-clause-performs
returns-in_err-self-clause-performs c = λ s limit at stands.
    let b : Branch = record { row = c.args.row; number = c.args.number } in
    let p = err_from_is_err_and c.from_residual.result c.from_residual.ensures.1 in
    rw (p.1, p.2) (at, (not_taken c.args.self.now s limit at stands b c.in-Some.place c.in_err-self.field-0.0 c.in-Some.ensures (sym c.in_err-self.ensures), refl), stands)

pub returns-clause-performs : goal.returns-clause-performs
returns-clause-performs c = λ s limit at stands.
    let t = c.args.self.now in
    let b : Branch = record { row = c.args.row; number = c.args.number } in
    let p = c.in-Some.ensures in
    let w = taken t s limit at stands b c.in-Some.place c.in_ok-self.field-0 p (sym c.in_ok-self.ensures) in (
      marked at b c.in_ok-self.field-0,
      (w.0, refl, ap (marked at b) w.1),
      record { opened = stands.opened; rows = stands.rows; marks = marks_changed t s limit at stands b c.in-Some.place p c.in_ok-self.field-0; terms = stands.terms },
    )
