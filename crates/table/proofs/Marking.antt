-- The marks of a table and of the standing that it stands for.
use Rattle.std.proofs.Common.{◌≡◌, ◌≢◌, ℕ, zero, suc, Bool, sum, map, ◌+◌, ◌*◌, ◌<◌, ◌≤◌, ◌⊎◌, List, length, take, drop, Some, None, Option, Ok, Err, inl, inr, refl, sym, ap, ◌∙◌, subst, arith}
use Rattle.std.specs.List.{slice_get, count_by}
use Rattle.std.proofs.Math.Nat.{zero-mul}
use Rattle.std.proofs.lemmas.List.{length-map, length-take-le}
use Rattle.std.specs.Prelude.{slice_set}
use Rattle.std.proofs.lemmas.Option.{none-some, same_Some}
use Rattle.fault.specs.declared.TableFault.{TableFault}
use Rattle.fault.specs.declared.TableFault.TheVariants.{NotWaiting, NotOut}
use Rattle.sheet.specs.declared.sheet.Sheet.{Sheet}
use Rattle.sheet.specs.System.{System}
use Rattle.terms.specs.declared.TermRecord.{TermRecord}
use Rattle.rows.specs.declared.row.RowRecord.{RowRecord}
use Rattle.rows.specs.Records.{row_in}
use Rattle.forms.specs.Candidate.{or_none}
use Rattle.rules.specs.declared.Branch.{Branch}
use Rattle.rules.specs.declared.Mark.{Mark}
use Rattle.rules.specs.declared.Mark.TheVariants.{Waiting, Out, Struck, Merged, Kept}
use Rattle.rules.specs.Rules.{IsOut, TakeRefused}
use Rattle.rules.specs.Standing.{Standing, branches, mark_of, marked, marks_with}
use Rattle.table.specs.declared.mark.Event.{Event}
use Rattle.table.specs.declared.table.Table.{Table}
use Rattle.table.specs.Marks.{next_mark, if_out, if_waiting}
use Rattle.table.specs.Memory.{FitsIfOpen, marks_by_row}
use Rattle.table.specs.Places.{branches_in, Absent, IsPlace, mark_at, Turned}
use Rattle.table.specs.Standing.{IsOpenWith, Stands}
use Rattle.table.proofs.Lists.{row_of_marks, reads, writes, no_row_there, no_branch_there, counted}

split : (a b : ℕ) → (a < b) ⊎ (b ≤ a)
split a zero = inr (omega arith)
split zero (suc b) = inl (omega arith)
split (suc a) (suc b) = by (split a b)
  where
    by : (a < b) ⊎ (b ≤ a) → (suc a < suc b) ⊎ (suc b ≤ suc a)
    by (inl h) = inl (omega arith)
    by (inr h) = inr (omega arith)

-- a table with rows has the branches of the sheet
same_branches : (o : Option Sheet) (kept : ℕ) (s : System) (limit : ℕ) (rs : List TermRecord) (n : ℕ) (rows : List RowRecord) (used : ℕ) (marks : List Mark) (work : List ℕ) → IsOpenWith o kept s limit → FitsIfOpen o rs n rows used kept marks work → 0 < used → branches_in o ≡ branches s
same_branches None kept s limit rs n rows used marks work h f p = absurd (omega (arith, f.rows))
same_branches (Some sheet) kept s limit rs n rows used marks work h f p = ap branches h.0

-- what is known of a mark that may become another
pub was_waiting : (mark m : Mark) → if_waiting Out mark ≡ Ok m → (mark ≡ Waiting) × (m ≡ Out)
was_waiting Waiting m e = (refl, cc)
was_waiting Out m e = absurd (cc)
was_waiting Struck m e = absurd (cc)
was_waiting Merged m e = absurd (cc)
was_waiting Kept m e = absurd (cc)

pub was_not_waiting : (mark : Mark) (e : TableFault) → if_waiting Out mark ≡ Err e → (e ≡ NotWaiting) × (mark ≢ Waiting)
was_not_waiting Waiting e h = absurd (cc)
was_not_waiting Out e h = (cc, λ x. absurd (cc))
was_not_waiting Struck e h = (cc, λ x. absurd (cc))
was_not_waiting Merged e h = (cc, λ x. absurd (cc))
was_not_waiting Kept e h = (cc, λ x. absurd (cc))

was_out : (new mark m : Mark) → if_out new mark ≡ Ok m → (mark ≡ Out) × (m ≡ new)
was_out new Out m e = (refl, cc)
was_out new Waiting m e = absurd (cc)
was_out new Struck m e = absurd (cc)
was_out new Merged m e = absurd (cc)
was_out new Kept m e = absurd (cc)

was_not_out : (new mark : Mark) (e : TableFault) → if_out new mark ≡ Err e → (e ≡ NotOut) × (mark ≢ Out)
was_not_out new Out e h = absurd (cc)
was_not_out new Waiting e h = (cc, λ x. absurd (cc))
was_not_out new Struck e h = (cc, λ x. absurd (cc))
was_not_out new Merged e h = (cc, λ x. absurd (cc))
was_not_out new Kept e h = (cc, λ x. absurd (cc))

module _ (t : Table) (s : System) (limit : ℕ) (at : Standing) (stands : Stands s limit t at) (b : Branch) where
  width : 0 < t.used → branches_in t.sheet ≡ branches s
  width p = same_branches t.sheet t.limit s limit t.bank.now t.count.terms t.rows.now t.used t.marks.now t.work.now stands.opened t.fits p

  marks_same : 0 < t.used → marks_by_row (branches_in t.sheet) t.used t.marks.now ≡ at.marks
  marks_same p = ap (λ (w : ℕ). marks_by_row w t.used t.marks.now) (width p) ∙ stands.marks

  -- the mark of a branch that is there
  pub mark_there : (place : ℕ) → IsPlace t b place → mark_of at b ≡ Some (mark_at t place)
  mark_there place p =
      let row : b.row < t.used = p.there.row in
      ap (λ (ms : List (List Mark)). or_none (slice_get ms b.row) (λ xs. slice_get xs b.number)) (sym (marks_same (omega arith)))
      ∙ reads (branches_in t.sheet) t.used t.marks.now b.row b.number place p.there.row p.there.number p.is p.inside

  -- one that is not there has none
  pub mark_absent : Absent t b → mark_of at b ≡ None
  mark_absent away = by (split b.row t.used)
    where
      there : b.row < t.used → (b.number < branches_in t.sheet) ⊎ (branches_in t.sheet ≤ b.number) → mark_of at b ≡ None
      there row (inl number) = absurd (away (record { row = row; number = number }))
      there row (inr past) =
          ap (λ (ms : List (List Mark)). or_none (slice_get ms b.row) (λ xs. slice_get xs b.number)) (sym (marks_same (omega arith)))
          ∙ no_branch_there (branches_in t.sheet) t.used t.marks.now b.row b.number row past

      by : (b.row < t.used) ⊎ (t.used ≤ b.row) → mark_of at b ≡ None
      by (inl row) = there row (split b.number (branches_in t.sheet))
      by (inr past) =
          ap (λ (ms : List (List Mark)). or_none (slice_get ms b.row) (λ xs. slice_get xs b.number)) (sym stands.marks)
          ∙ no_row_there (branches s) t.used t.marks.now b.row b.number past

  -- the marks with the branch's changed
  pub marks_changed : (place : ℕ) → IsPlace t b place → (m : Mark) → marks_by_row (branches s) t.used (slice_set t.marks.now place m) ≡ (marked at b m).marks
  marks_changed place p m =
      let row : b.row < t.used = p.there.row in
      let w = branches_in t.sheet in
      let ms : List Mark = take w (drop (b.row * w) t.marks.now) in
      let same : marks_by_row w t.used t.marks.now ≡ at.marks = marks_same (omega arith) in
      let here : slice_get at.marks b.row ≡ Some ms =
      ap (λ (xs : List (List Mark)). slice_get xs b.row) (sym same) ∙ row_of_marks w t.used t.marks.now b.row row in
      ap (λ (k : ℕ). marks_by_row k t.used (slice_set t.marks.now place m)) (sym (width (omega arith)))
      ∙ (writes w t.used t.marks.now b.row b.number place m row p.there.number p.is
      ∙ (ap (λ (xs : List (List Mark)). slice_set xs b.row (slice_set ms b.number m)) same
      ∙ ap (marks_with at.marks b m) (sym here)))

  -- a branch that an offer found out is out, and becomes what the offer makes of it
  pub offered : (event : Event) (new : Mark) → ((x : Mark) → next_mark event x ≡ if_out new x) → (place : ℕ) (m : Mark) → Turned t b event (Ok (place, m)) → IsOut at b × (m ≡ new)
  offered event new is place m h =
      let w = was_out new (mark_at t place) m (sym (is (mark_at t place)) ∙ h.1) in
      (mark_there place h.0 ∙ ap Some w.0, w.1)

  -- one that it did not is not
  pub not_offered : (event : Event) (new : Mark) → ((x : Mark) → next_mark event x ≡ if_out new x) → (e : TableFault) → Turned t b event (Err e) → (e ≡ NotOut) × (IsOut at b → ⊥)
  not_offered event new is e (inl h) = (h.0, λ out. none-some Out (sym (mark_absent h.1) ∙ out))
  not_offered event new is e (inr h) =
      let w = was_not_out new (mark_at t h.0) e (sym (is (mark_at t h.0)) ∙ h.2) in
      (w.0, λ out. w.1 (same_Some (mark_at t h.0) Out (sym (mark_there h.0 h.1) ∙ out)))

  -- a branch that was taken waited, and is out now
  pub taken : (place : ℕ) (m : Mark) → IsPlace t b place → if_waiting Out (mark_at t place) ≡ Ok m → (mark_of at b ≡ Some Waiting) × (m ≡ Out)
  taken place m p h =
      let w = was_waiting (mark_at t place) m h in
      (mark_there place p ∙ ap Some w.0, w.1)

  pub not_taken : (place : ℕ) (e : TableFault) → IsPlace t b place → if_waiting Out (mark_at t place) ≡ Err e → TakeRefused s at b e
  not_taken place e p h =
      let w = was_not_waiting (mark_at t place) e h in
      let there = mark_there place p in
      subst (TakeRefused s at b) (sym w.0)
      (λ none. none-some (mark_at t place) (sym none ∙ there), λ waits. w.1 (same_Some (mark_at t place) Waiting (sym there ∙ waits)))

module _ (t : Table) (s : System) (limit : ℕ) (at : Standing) (stands : Stands s limit t at) where
  -- counting over the marks in memory is counting over those of the standing
  pub counts : (p : Mark → Bool) → count_by p (take (t.used * branches_in t.sheet) t.marks.now) ≡ sum (map (count_by p) at.marks)
  counts p = by (split 0 t.used)
    where
      by : (0 < t.used) ⊎ (t.used ≤ 0) → count_by p (take (t.used * branches_in t.sheet) t.marks.now) ≡ sum (map (count_by p) at.marks)
      by (inl rows) =
          let same = same_branches t.sheet t.limit s limit t.bank.now t.count.terms t.rows.now t.used t.marks.now t.work.now stands.opened t.fits rows in
          sym (counted p (branches_in t.sheet) t.used t.marks.now)
          ∙ ap (λ (xs : List (List Mark)). sum (map (count_by p) xs)) (ap (λ (w : ℕ). marks_by_row w t.used t.marks.now) same ∙ stands.marks)
      by (inr none) =
          let is : t.used ≡ 0 = omega arith in
          let nothing : t.used * branches_in t.sheet ≡ 0 = ap (λ (n : ℕ). n * branches_in t.sheet) is ∙ zero-mul (branches_in t.sheet) in
          ap (λ (n : ℕ). count_by p (take n t.marks.now)) nothing
          ∙ ap (λ (xs : List (List Mark)). sum (map (count_by p) xs)) (ap (λ (n : ℕ). marks_by_row (branches s) n t.marks.now) (sym is) ∙ stands.marks)

few_rows : (o : Option Sheet) (rs : List TermRecord) (n : ℕ) (rows : List RowRecord) (used limit : ℕ) (marks : List Mark) (work : List ℕ) → FitsIfOpen o rs n rows used limit marks work → used ≤ length rows
few_rows None rs n rows used limit marks work f = omega (arith, f.rows)
few_rows (Some sheet) rs n rows used limit marks work f = omega (arith, f.within, f.limited, f.lengths.rows)

module _ (t : Table) (s : System) (limit : ℕ) (at : Standing) (stands : Stands s limit t at) where
  -- the standing has as many rows
  pub rows_many : length at.rows ≡ t.used
  rows_many =
      let few = few_rows t.sheet t.bank.now t.count.terms t.rows.now t.used t.limit t.marks.now t.work.now t.fits in
      ap length (sym stands.rows) ∙ (length-map (take t.used t.rows.now) (row_in s t.bank.now) ∙ length-take-le t.used t.rows.now few)

-- a table with rows that does not hold has a branch that waits or is out
pub open_or_none : (rows w o : ℕ) → (0 < rows → w ≡ 0 → o ≡ 0 → ⊥) → (rows ≡ 0) ⊎ (0 < w + o)
open_or_none rows w o not = by (split 0 (w + o))
  where
    by : (0 < w + o) ⊎ (w + o ≤ 0) → (rows ≡ 0) ⊎ (0 < w + o)
    by (inl some) = inr some
    by (inr none) = inl (at (split 0 rows))
      where
        at : (0 < rows) ⊎ (rows ≤ 0) → rows ≡ 0
        at (inl some) = absurd (not some (omega arith) (omega arith))
        at (inr no_rows) = omega arith
