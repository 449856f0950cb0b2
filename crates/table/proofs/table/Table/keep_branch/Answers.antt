use Rattle.std.proofs.Common.{◌≡◌, ◌≤◌, ◌<◌, ◌++◌, ◌∷◌, [], true, leb, length, refl, ◌∙◌, subst, slice_index_or, slice_set, length-set, arith}
use Rattle.std.proofs.lemmas.Bool.{leb-true, leb-false}
use Rattle.std.proofs.lemmas.Result.{err_from_is_err_and}
use Rattle.sheet.specs.System.{System}
use Rattle.banks.proofs.Gaining.{holding_own}
use Rattle.rows.specs.Records.{row_in}
use Rattle.rules.specs.declared.Mark.TheVariants.{Kept}
use Rattle.rules.specs.Standing.{marked, all_waiting}
use Rattle.table.specs.declared.mark.Event.TheVariants.{Keep}
use Rattle.table.specs.Memory.{no_row}
use Rattle.table.specs.Offers.{Proposed}
use Rattle.table.proofs.Marking.{offered, not_offered, rows_many}
use Rattle.table.proofs.Following.{fitting, fits, fitting_more, fitting_pushed}
use Rattle.table.proofs.Offering.{same, same_limit, row_here, high, not_high, rows_kept, terms_kept, kept, not_kept}
use Rattle.table.proofs.Growing.{extends_unless_made, marks_room, marks_grown, rows_grown}
use Rattle.table.proofs.table.Table.keep_branch.Goals as goal

pub returns-in_err-place-clause-performs : goal.returns-in_err-place-clause-performs
returns-in_err-place-clause-performs c = λ s limit at stands.
    let p = err_from_is_err_and c.from_residual.result c.from_residual.ensures.1 in
    let w = not_offered c.args.self.now s limit at stands c.args.branch Keep Kept (λ x. refl) c.in_err-place.field-0.0 c.in_err-place.ensures in
    rw (p.1, p.2, w.0) (at, (w.1, refl), stands)

pub returns-then-height-sheet-clause-performs : goal.returns-then-height-sheet-clause-performs
returns-then-height-sheet-clause-performs c = λ s limit at stands.
    let t = c.args.self.now in
    let w = offered t s limit at stands c.args.branch Keep Kept (λ x. refl) c.in_ok-place.place c.in_ok-place.mark c.in_ok-place.ensures in (
      at,
      ((w.0, high t s limit at stands c.in-Some.sheet c.in-Some.is c.args.height c.if-height-sheet.true), refl),
      record { opened = stands.opened; rows = stands.rows; marks = stands.marks; terms = stands.terms },
    )

pub invariant_of-self-2 : goal.invariant_of-self-2
invariant_of-self-2 c =
    let t = c.args.self.now in
    let f = fitting t.sheet c.in-Some.sheet c.in-Some.is _ _ _ _ _ _ _ t.fits in
    record {
      fits = fits t.sheet c.in-Some.sheet c.in-Some.is _ _ _ _ _ _ _
          (fitting_more _ _ _ _ _ _ _ _ _ _ _ _ f (extends_unless_made _ _ _ _ c.propose.result f.bank c.propose.ensures.kept) c.propose.auto.bank refl c.propose.auto.labels);
    }

pub invariant_of-self-in-Ok : goal.invariant_of-self-in-Ok
invariant_of-self-in-Ok c =
    let t = c.args.self.now in
    let f = fitting t.sheet c.in-Some.sheet c.in-Some.is _ _ _ _ _ _ _ t.fits in
    record {
      fits = fits t.sheet c.in-Some.sheet c.in-Some.is _ _ _ _ _ _ _
          (fitting_more _ _ _ _ _ _ _ _ _ _ _ _ f (extends_unless_made _ _ _ _ c.propose.result f.bank c.propose.ensures.kept) c.propose.auto.bank (length-set t.marks.now c.in_ok-place.place c.in_ok-place.mark) c.propose.auto.labels);
    }

pub wait-requires : goal.wait-requires
wait-requires c =
    let t = c.args.self.now in
    let f = fitting t.sheet c.in-Some.sheet c.in-Some.is _ _ _ _ _ _ _ t.fits in
    let made = rw c.in-Ok.is at (c.propose.ensures.proposed _ (holding_own t.bank.now t.count.terms f.bank)) in
    let free : t.used < t.limit = leb-false t.limit t.used made.4 in
    let room = marks_room t.used c.branches-branches.result t.limit free f.limited c.branches-branches.ensures.few in
    let long : length (slice_set t.marks.now c.in_ok-place.place c.in_ok-place.mark) ≡ 4096 = length-set t.marks.now c.in_ok-place.place c.in_ok-place.mark ∙ f.lengths.marks in
    omega (arith, room, long)

pub bounds-self-self : goal.bounds-self-self
bounds-self-self c =
    let t = c.args.self.now in
    let f = fitting t.sheet c.in-Some.sheet c.in-Some.is _ _ _ _ _ _ _ t.fits in
    let made = rw c.in-Ok.is at (c.propose.ensures.proposed _ (holding_own t.bank.now t.count.terms f.bank)) in
    let free : t.used < t.limit = leb-false t.limit t.used made.4 in
    omega (arith, free, f.limited, f.lengths.rows)

pub invariant_of-self-in-Ok-3 : goal.invariant_of-self-in-Ok-3
invariant_of-self-in-Ok-3 c =
    let t = c.args.self.now in
    let f = fitting t.sheet c.in-Some.sheet c.in-Some.is _ _ _ _ _ _ _ t.fits in
    let made = rw c.in-Ok.is at (c.propose.ensures.proposed _ (holding_own t.bank.now t.count.terms f.bank)) in
    let free : t.used < t.limit = leb-false t.limit t.used made.4 in
    let grown = fitting_more _ _ c.propose.new.bank _ _ _ _ _ _ c.wait.new.marks _ c.propose.new.labels f (extends_unless_made _ _ _ _ c.propose.result f.bank c.propose.ensures.kept) c.propose.auto.bank (c.wait.auto.marks ∙ length-set t.marks.now c.in_ok-place.place c.in_ok-place.mark) c.propose.auto.labels in
    record { fits = fits t.sheet c.in-Some.sheet c.in-Some.is _ _ _ _ _ _ _ (fitting_pushed _ _ _ _ _ _ _ _ c.in-Ok.form grown made.6 free) }

pub returns-in-Ok-clause-performs : goal.returns-in-Ok-clause-performs
returns-in-Ok-clause-performs c = λ s limit at stands.
    let t = c.args.self.now in
    let b = c.args.branch in
    let sheet = c.in-Some.sheet in
    let m = c.in_ok-place.mark in
    let rs' = c.propose.new.bank in
    let n' = c.propose.new.count.terms in
    let f = fitting t.sheet sheet c.in-Some.is _ _ _ _ _ _ _ t.fits in
    let e = extends_unless_made _ _ _ _ c.propose.result f.bank c.propose.ensures.kept in
    let w = offered t s limit at stands b Keep Kept (λ x. refl) c.in_ok-place.place m c.in_ok-place.ensures in
    let here = row_here t s limit at stands sheet c.in-Some.is b.row c.in_ok-place.ensures.0.there.row in
    let within = not_high t s limit at stands sheet c.in-Some.is c.args.height c.if-height-sheet.false in
    let answer = subst
    (λ (x : System). Proposed x (row_in x t.bank.now (slice_index_or t.rows.now b.row no_row)) b.number c.args.height (leb t.limit t.used) at.terms rs' n' c.propose.result)
    (same t s limit at stands sheet c.in-Some.is) (c.propose.ensures.proposed at.terms stands.terms) in
    let made = rw c.in-Ok.is at answer in
    let free : t.used < t.limit = leb-false t.limit t.used made.4 in
    let few : length at.rows < limit = omega (arith, free, rows_many t s limit at stands, same_limit t s limit at stands sheet c.in-Some.is) in
    let keeps = kept s at b _ here limit c.args.height (leb t.limit t.used) within rs' n' c.in-Ok.form few made in (
      record { rows = at.rows ++ row_in s rs' c.in-Ok.form ∷ []; marks = (marked at b Kept).marks ++ all_waiting s ∷ []; terms = made.0 },
      ((w.0, (row_in s rs' c.in-Ok.form, made.0, keeps)), tt, (row_in s rs' c.in-Ok.form, made.0, keeps, refl)),
      record {
        opened = stands.opened;
        rows = rows_grown t s limit at stands sheet c.in-Some.is rs' n' c.in-Ok.form e free;
        marks = marks_grown t s limit at stands sheet c.in-Some.is b c.in_ok-place.place m c.branches-branches.result c.wait.new.marks c.in_ok-place.ensures.0 w.1 c.branches-branches.ensures.number c.branches-branches.ensures.few free c.wait.ensures;
        terms = made.5;
      },
    )

pub returns-in-Err-clause-performs : goal.returns-in-Err-clause-performs
returns-in-Err-clause-performs c = λ s limit at stands.
    let t = c.args.self.now in
    let b = c.args.branch in
    let sheet = c.in-Some.sheet in
    let rs' = c.propose.new.bank in
    let n' = c.propose.new.count.terms in
    let w = offered t s limit at stands b Keep Kept (λ x. refl) c.in_ok-place.place c.in_ok-place.mark c.in_ok-place.ensures in
    let here = row_here t s limit at stands sheet c.in-Some.is b.row c.in_ok-place.ensures.0.there.row in
    let within = not_high t s limit at stands sheet c.in-Some.is c.args.height c.if-height-sheet.false in
    let answer = subst
    (λ (x : System). Proposed x (row_in x t.bank.now (slice_index_or t.rows.now b.row no_row)) b.number c.args.height (leb t.limit t.used) at.terms rs' n' c.propose.result)
    (same t s limit at stands sheet c.in-Some.is) (c.propose.ensures.proposed at.terms stands.terms) in
    let full : (leb t.limit t.used ≡ true) → limit ≤ length at.rows = λ is_full.
    (let le : t.limit ≤ t.used = leb-true t.limit t.used is_full in omega (arith, le, rows_many t s limit at stands, same_limit t s limit at stands sheet c.in-Some.is)) in
    let kept = rw c.in-Err.is at c.propose.ensures.kept in (
      at,
      (not_kept s at b _ here limit c.args.height (leb t.limit t.used) within rs' n' w.0 full c.in-Err.fault (rw c.in-Err.is at answer), refl),
      record {
        opened = stands.opened;
        rows = rows_kept t s limit at stands sheet c.in-Some.is rs' n' kept;
        marks = stands.marks;
        terms = terms_kept t s limit at stands sheet c.in-Some.is rs' n' kept;
      },
    )
