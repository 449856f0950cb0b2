-- A table with the form of a branch as one row more.
use Rattle.std.proofs.Common.{◌≡◌, ℕ, ◌+◌, ◌*◌, ◌<◌, ◌≤◌, List, [], ◌∷◌, ◌++◌, length, take, map, replicate, slice_set, Some, Ok, Err, Result, ap, ◌∙◌, subst, arith, length-set}
use Rattle.std.proofs.Math.Nat.{mul-le-mul}
use Rattle.fault.specs.declared.TableFault.{TableFault}
use Rattle.sheet.specs.System.{System}
use Rattle.sheet.specs.declared.sheet.Sheet.{Sheet}
use Rattle.terms.specs.declared.TermRecord.{TermRecord}
use Rattle.terms.specs.Bank.{Bank, Extends}
use Rattle.forms.specs.Rows.{Row}
use Rattle.rows.specs.declared.row.RowRecord.{RowRecord}
use Rattle.rows.specs.Records.{row_in}
use Rattle.rules.specs.declared.Branch.{Branch}
use Rattle.rules.specs.declared.Mark.{Mark}
use Rattle.rules.specs.declared.Mark.TheVariants.{Waiting, Kept}
use Rattle.rules.specs.Standing.{Standing, branches, marked, all_waiting}
use Rattle.table.specs.declared.table.Table.{Table}
use Rattle.table.specs.Memory.{marks_by_row}
use Rattle.table.specs.Offers.{KeptUnlessMade}
use Rattle.table.specs.Places.{branches_in, IsPlace}
use Rattle.table.specs.Standing.{Stands}
use Rattle.table.proofs.Following.{rows_pushed}
use Rattle.table.proofs.Lists.{more_marks}
use Rattle.table.proofs.Marking.{marks_changed}
use Rattle.table.proofs.Offering.{same, fit}
use Rattle.table.proofs.Following.{extends_kept}

pub extends_unless_made : (rs : List TermRecord) (n : ℕ) (rs' : List TermRecord) (n' : ℕ) (made : Result RowRecord TableFault) → Bank rs n → KeptUnlessMade rs n rs' n' made → Extends rs n rs' n'
extends_unless_made rs n rs' n' (Ok r) bank h = h
extends_unless_made rs n rs' n' (Err e) bank h = extends_kept rs rs' n n' bank h

-- the marks of one row more have room
pub marks_room : (used w limit : ℕ) → used < limit → limit ≤ 64 → w ≤ 64 → used * w + w ≤ 4096
marks_room used w limit free few small =
    let below : used + 1 ≤ 64 = omega arith in
    let product : (used + 1) * w ≤ 64 * 64 = mul-le-mul below small in
    let e : (used + 1) * w ≡ used * w + w = grind arith in
    omega arith

-- the marks and the rows of the standing with one row more
module _ (t : Table) (s : System) (limit : ℕ) (at : Standing) (stands : Stands s limit t at) (sheet : Sheet) (is : t.sheet ≡ Some sheet) where
  pub width : (w : ℕ) → w ≡ branches_in t.sheet → w ≡ branches s
  width w h = h ∙ (ap branches_in is ∙ ap branches (same t s limit at stands sheet is))

  pub marks_grown : (b : Branch) (place : ℕ) (m : Mark) (w : ℕ) (marks' : List Mark) → IsPlace t b place → m ≡ Kept → w ≡ branches_in t.sheet → w ≤ 64 → t.used < t.limit → take (t.used * w + w) marks' ≡ take (t.used * w) (slice_set t.marks.now place m) ++ replicate w Waiting → marks_by_row (branches s) (t.used + 1) marks' ≡ (marked at b Kept).marks ++ all_waiting s ∷ []
  marks_grown b place m w marks' p kept number small free waits =
      let f = fit t s limit at stands sheet is in
      let room : t.used * w + w ≤ 4096 = marks_room t.used w t.limit free f.limited small in
      let long : length (slice_set t.marks.now place m) ≡ 4096 = length-set t.marks.now place m ∙ f.lengths.marks in
      let front : t.used * w ≤ length (slice_set t.marks.now place m) = omega arith in
      let e = width w number in
      let grown : marks_by_row w (t.used + 1) marks' ≡ marks_by_row w t.used (slice_set t.marks.now place m) ++ replicate w Waiting ∷ [] =
      more_marks w t.used (slice_set t.marks.now place m) marks' (replicate w Waiting) front waits in
      subst (λ (k : ℕ). marks_by_row k (t.used + 1) marks' ≡ marks_by_row k t.used (slice_set t.marks.now place m) ++ replicate k Waiting ∷ []) e grown
      ∙ ap (λ (xs : List (List Mark)). xs ++ all_waiting s ∷ []) (marks_changed t s limit at stands b place p m ∙ ap (λ (x : Mark). (marked at b x).marks) kept)

  pub rows_grown : (rs' : List TermRecord) (n' : ℕ) (form : RowRecord) → Extends t.bank.now t.count.terms rs' n' → t.used < t.limit → map (row_in s rs') (take (t.used + 1) (slice_set t.rows.now t.used form)) ≡ at.rows ++ row_in s rs' form ∷ []
  rows_grown rs' n' form e free =
      rows_pushed s t.bank.now t.count.terms t.rows.now t.used t.limit t.marks.now t.work.now (fit t s limit at stands sheet is) rs' form e.stays free
      ∙ ap (λ (rows : List Row). rows ++ row_in s rs' form ∷ []) stands.rows
