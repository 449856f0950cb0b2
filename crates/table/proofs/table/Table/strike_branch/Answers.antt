use Rattle.std.proofs.Common.{refl, ap, subst, slice_index_or}
use Rattle.std.proofs.lemmas.Result.{err_from_is_err_and}
use Rattle.sheet.specs.System.{System}
use Rattle.rows.specs.Records.{row_in}
use Rattle.rules.specs.declared.Mark.TheVariants.{Struck}
use Rattle.rules.specs.Standing.{marked}
use Rattle.table.specs.declared.mark.Event.TheVariants.{Strike}
use Rattle.table.specs.Memory.{no_row}
use Rattle.table.specs.Offers.{Refuted}
use Rattle.table.proofs.Marking.{offered, not_offered, marks_changed}
use Rattle.table.proofs.Following.{fitting, fits, fitting_more}
use Rattle.table.proofs.Offering.{same, row_here, rows_kept, terms_kept, struck, not_struck}
use Rattle.table.proofs.Following.{extends_kept}
use Rattle.table.proofs.table.Table.strike_branch.Goals as goal

pub returns-in_err-place-clause-performs : goal.returns-in_err-place-clause-performs
returns-in_err-place-clause-performs c = λ s limit at stands.
    let p = err_from_is_err_and c.from_residual.result c.from_residual.ensures.1 in
    let w = not_offered c.args.self.now s limit at stands c.args.branch Strike Struck (λ x. refl) c.in_err-place.field-0.0 c.in_err-place.ensures in
    rw (p.1, p.2, w.0) (at, (w.1, refl), stands)

pub invariant_of-self-2 : goal.invariant_of-self-2
invariant_of-self-2 c =
    let t = c.args.self.now in
    let f = fitting t.sheet c.in-Some.sheet c.in-Some.is _ _ _ _ _ _ _ t.fits in
    record {
      fits = fits t.sheet c.in-Some.sheet c.in-Some.is _ _ _ _ _ _ _
          (fitting_more _ _ _ _ _ _ _ _ _ _ _ _ f (extends_kept _ _ _ _ f.bank c.refute.ensures.kept) c.refute.auto.bank refl c.refute.auto.labels);
    }

pub returns-in-Ok-clause-performs : goal.returns-in-Ok-clause-performs
returns-in-Ok-clause-performs c = λ s limit at stands.
    let t = c.args.self.now in
    let b = c.args.branch in
    let m = c.in_ok-place.mark in
    let w = offered t s limit at stands b Strike Struck (λ x. refl) c.in_ok-place.place m c.in_ok-place.ensures in
    let here = row_here t s limit at stands c.in-Some.sheet c.in-Some.is b.row c.in_ok-place.ensures.0.there.row in
    let answer = subst
    (λ (x : System). Refuted x (row_in x t.bank.now (slice_index_or t.rows.now b.row no_row)) b.number at.terms c.refute.result)
    (same t s limit at stands c.in-Some.sheet c.in-Some.is) (c.refute.ensures.answer at.terms stands.terms) in
    let u = struck s at b _ here c.in-Ok.joins (rw c.in-Ok.is at answer) in (
      marked at b m,
      ((w.0, u.0), u.1, ap (marked at b) w.1),
      record {
        opened = stands.opened;
        rows = rows_kept t s limit at stands c.in-Some.sheet c.in-Some.is c.refute.new.bank c.refute.new.count.terms c.refute.ensures.kept;
        marks = marks_changed t s limit at stands b c.in_ok-place.place c.in_ok-place.ensures.0 m;
        terms = terms_kept t s limit at stands c.in-Some.sheet c.in-Some.is c.refute.new.bank c.refute.new.count.terms c.refute.ensures.kept;
      },
    )

pub returns-in-Err-clause-performs : goal.returns-in-Err-clause-performs
returns-in-Err-clause-performs c = λ s limit at stands.
    let t = c.args.self.now in
    let b = c.args.branch in
    let w = offered t s limit at stands b Strike Struck (λ x. refl) c.in_ok-place.place c.in_ok-place.mark c.in_ok-place.ensures in
    let here = row_here t s limit at stands c.in-Some.sheet c.in-Some.is b.row c.in_ok-place.ensures.0.there.row in
    let answer = subst
    (λ (x : System). Refuted x (row_in x t.bank.now (slice_index_or t.rows.now b.row no_row)) b.number at.terms c.refute.result)
    (same t s limit at stands c.in-Some.sheet c.in-Some.is) (c.refute.ensures.answer at.terms stands.terms) in (
      at,
      (not_struck s at b _ here w.0 c.in-Err.fault (rw c.in-Err.is at answer), refl),
      record {
        opened = stands.opened;
        rows = rows_kept t s limit at stands c.in-Some.sheet c.in-Some.is c.refute.new.bank c.refute.new.count.terms c.refute.ensures.kept;
        marks = stands.marks;
        terms = terms_kept t s limit at stands c.in-Some.sheet c.in-Some.is c.refute.new.bank c.refute.new.count.terms c.refute.ensures.kept;
      },
    )
