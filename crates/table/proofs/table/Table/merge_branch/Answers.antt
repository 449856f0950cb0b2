use Rattle.std.proofs.Common.{◌≤◌, length, refl, sym, ap, ◌∙◌, subst, slice_index_or, length-set, arith}
use Rattle.std.proofs.lemmas.Option.{none-some, slice_get_past}
use Rattle.std.proofs.lemmas.Result.{err_from_is_err_and}
use Rattle.sheet.specs.System.{System}
use Rattle.rows.specs.Records.{row_in}
use Rattle.rules.specs.declared.Mark.TheVariants.{Merged}
use Rattle.rules.specs.Standing.{marked}
use Rattle.table.specs.declared.mark.Event.TheVariants.{Merge}
use Rattle.table.specs.Memory.{no_row}
use Rattle.table.specs.Offers.{Covered}
use Rattle.table.proofs.Marking.{offered, not_offered, marks_changed, rows_many}
use Rattle.table.proofs.Following.{fitting, fits, fitting_more}
use Rattle.table.proofs.Offering.{same, row_here, high, not_high, rows_kept, terms_kept, merged, not_merged}
use Rattle.table.proofs.Following.{extends_kept}
use Rattle.table.proofs.table.Table.merge_branch.Goals as goal

pub returns-in_err-place-clause-performs : goal.returns-in_err-place-clause-performs
returns-in_err-place-clause-performs c = λ s limit at stands.
    let p = err_from_is_err_and c.from_residual.result c.from_residual.ensures.1 in
    let w = not_offered c.args.self.now s limit at stands c.args.branch Merge Merged (λ x. refl) c.in_err-place.field-0.0 c.in_err-place.ensures in
    rw (p.1, p.2, w.0) (at, (w.1, refl), stands)

pub returns-then-target-self-clause-performs : goal.returns-then-target-self-clause-performs
returns-then-target-self-clause-performs c = λ s limit at stands.
    let t = c.args.self.now in
    let w = offered t s limit at stands c.args.branch Merge Merged (λ x. refl) c.in_ok-place.place c.in_ok-place.mark c.in_ok-place.ensures in
    let past : length at.rows ≤ c.args.target = omega (arith, rows_many t s limit at stands, c.if-target-self.true) in
    (at, ((w.0, slice_get_past at.rows c.args.target past), refl), stands)

pub returns-then-height-sheet-clause-performs : goal.returns-then-height-sheet-clause-performs
returns-then-height-sheet-clause-performs c = λ s limit at stands.
    let t = c.args.self.now in
    let sheet = c.in-Some.sheet in
    let w = offered t s limit at stands c.args.branch Merge Merged (λ x. refl) c.in_ok-place.place c.in_ok-place.mark c.in_ok-place.ensures in
    let there = row_here t s limit at stands sheet c.in-Some.is c.args.target c.if-target-self.false in (
      at,
      ((w.0, λ none. none-some _ (sym none ∙ there), high t s limit at stands sheet c.in-Some.is c.args.height c.if-height-sheet.true), refl),
      record { opened = stands.opened; rows = stands.rows; marks = stands.marks; terms = stands.terms },
    )

pub invariant_of-self-2 : goal.invariant_of-self-2
invariant_of-self-2 c =
    let t = c.args.self.now in
    let f = fitting t.sheet c.in-Some.sheet c.in-Some.is _ _ _ _ _ _ _ t.fits in
    record {
      fits = fits t.sheet c.in-Some.sheet c.in-Some.is _ _ _ _ _ _ _
          (fitting_more _ _ _ _ _ _ _ _ _ _ _ _ f (extends_kept _ _ _ _ f.bank c.cover.ensures.kept) c.cover.auto.bank refl c.cover.auto.labels);
    }

pub invariant_of-self-in-Ok : goal.invariant_of-self-in-Ok
invariant_of-self-in-Ok c =
    let t = c.args.self.now in
    let f = fitting t.sheet c.in-Some.sheet c.in-Some.is _ _ _ _ _ _ _ t.fits in
    record {
      fits = fits t.sheet c.in-Some.sheet c.in-Some.is _ _ _ _ _ _ _
          (fitting_more _ _ _ _ _ _ _ _ _ _ _ _ f (extends_kept _ _ _ _ f.bank c.cover.ensures.kept) c.cover.auto.bank (length-set t.marks.now c.in_ok-place.place c.in_ok-place.mark) c.cover.auto.labels);
    }

pub returns-in-Ok-clause-performs : goal.returns-in-Ok-clause-performs
returns-in-Ok-clause-performs c = λ s limit at stands.
    let t = c.args.self.now in
    let b = c.args.branch in
    let m = c.in_ok-place.mark in
    let sheet = c.in-Some.sheet in
    let w = offered t s limit at stands b Merge Merged (λ x. refl) c.in_ok-place.place m c.in_ok-place.ensures in
    let here = row_here t s limit at stands sheet c.in-Some.is b.row c.in_ok-place.ensures.0.there.row in
    let there = row_here t s limit at stands sheet c.in-Some.is c.args.target c.if-target-self.false in
    let within = not_high t s limit at stands sheet c.in-Some.is c.args.height c.if-height-sheet.false in
    let answer = subst
    (λ (x : System). Covered x (row_in x t.bank.now (slice_index_or t.rows.now b.row no_row)) b.number (row_in x t.bank.now (slice_index_or t.rows.now c.args.target no_row)) c.args.height at.terms c.cover.result)
    (same t s limit at stands sheet c.in-Some.is) (c.cover.ensures.answer at.terms stands.terms) in
    let u = merged s at b _ here c.args.target c.args.height _ there within tt (rw c.in-Ok.is at answer) in (
      marked at b m,
      ((w.0, u), tt, ap (marked at b) w.1),
      record {
        opened = stands.opened;
        rows = rows_kept t s limit at stands sheet c.in-Some.is c.cover.new.bank c.cover.new.count.terms c.cover.ensures.kept;
        marks = marks_changed t s limit at stands b c.in_ok-place.place c.in_ok-place.ensures.0 m;
        terms = terms_kept t s limit at stands sheet c.in-Some.is c.cover.new.bank c.cover.new.count.terms c.cover.ensures.kept;
      },
    )

pub returns-in-Err-clause-performs : goal.returns-in-Err-clause-performs
returns-in-Err-clause-performs c = λ s limit at stands.
    let t = c.args.self.now in
    let b = c.args.branch in
    let sheet = c.in-Some.sheet in
    let w = offered t s limit at stands b Merge Merged (λ x. refl) c.in_ok-place.place c.in_ok-place.mark c.in_ok-place.ensures in
    let here = row_here t s limit at stands sheet c.in-Some.is b.row c.in_ok-place.ensures.0.there.row in
    let there = row_here t s limit at stands sheet c.in-Some.is c.args.target c.if-target-self.false in
    let within = not_high t s limit at stands sheet c.in-Some.is c.args.height c.if-height-sheet.false in
    let answer = subst
    (λ (x : System). Covered x (row_in x t.bank.now (slice_index_or t.rows.now b.row no_row)) b.number (row_in x t.bank.now (slice_index_or t.rows.now c.args.target no_row)) c.args.height at.terms c.cover.result)
    (same t s limit at stands sheet c.in-Some.is) (c.cover.ensures.answer at.terms stands.terms) in (
      at,
      (not_merged s at b _ here c.args.target c.args.height _ there within w.0 c.in-Err.fault (rw c.in-Err.is at answer), refl),
      record {
        opened = stands.opened;
        rows = rows_kept t s limit at stands sheet c.in-Some.is c.cover.new.bank c.cover.new.count.terms c.cover.ensures.kept;
        marks = stands.marks;
        terms = terms_kept t s limit at stands sheet c.in-Some.is c.cover.new.bank c.cover.new.count.terms c.cover.ensures.kept;
      },
    )
