-- What the calls on a table have come to. Assumes nothing.
use Rattle.std.specs.Prelude.{ℕ, ◌^◌, Bool, true, false, List, [], ◌∷◌, length, replicate}
use Rattle.std.specs.Prelude.{sum, map, count_by, slice_get, slice_set, Some, None, Option}
use Rattle.sheet.specs.System.{System}
use Rattle.terms.specs.Terms.{Term}
use Rattle.forms.specs.Rows.{Row, first_row}
use Rattle.forms.specs.Candidate.{or_none}
use Rattle.rules.specs.declared.Branch.{Branch}
use Rattle.rules.specs.declared.Counts.{Counts}
use Rattle.rules.specs.declared.Mark.{Mark}
use Rattle.rules.specs.declared.Mark.TheVariants.{Waiting, Out, Struck, Merged, Kept}

-- The rows in order, the marks of the branches of each, and what the bank holds: these terms and
-- all their subterms, in any order.
pub record Standing : Type 0 where
  pub rows : List Row
  pub marks : List (List Mark)
  pub terms : List Term

-- how many branches each row has: one for each way to answer the questions
abbrev pub branches : System → ℕ
branches s = 2 ^ length s.questions

-- the marks of a new row
abbrev pub all_waiting : System → List Mark
all_waiting s = replicate (branches s) Waiting

-- a newly opened table: row 0, its branches waiting, and the terms of its vector in the bank
abbrev pub opening : System → Standing
opening s =
    record { rows = first_row s ∷ []; marks = all_waiting s ∷ []; terms = (first_row s).vector }

-- a table that is not open, be it new or after a refused opening
abbrev pub unopened : Standing
unopened = record { rows = []; marks = []; terms = [] }

-- the mark of a branch, where there is such a row and branch
abbrev pub mark_of : Standing → Branch → Option Mark
mark_of at b = or_none (slice_get at.marks b.row) (λ ms. slice_get ms b.number)

-- marks by row with one branch's changed; of its row the marks are given, where there is such a row
abbrev pub marks_with : List (List Mark) → Branch → Mark → Option (List Mark) → List (List Mark)
marks_with marks b m None = marks
marks_with marks b m (Some ms) = slice_set marks b.row (slice_set ms b.number m)

-- the same standing with one branch's mark changed
abbrev pub marked : Standing → Branch → Mark → Standing
marked at b m =
    record {
      rows = at.rows;
      marks = marks_with at.marks b m (slice_get at.marks b.row);
      terms = at.terms;
    }

-- whether a mark is the one
abbrev pub is_waiting : Mark → Bool
is_waiting Waiting = true
is_waiting _ = false

abbrev pub is_out : Mark → Bool
is_out Out = true
is_out _ = false

abbrev pub is_struck : Mark → Bool
is_struck Struck = true
is_struck _ = false

abbrev pub is_merged : Mark → Bool
is_merged Merged = true
is_merged _ = false

abbrev pub is_kept : Mark → Bool
is_kept Kept = true
is_kept _ = false

-- how many branches of all rows are waiting, and how many are out
abbrev pub waiting : Standing → ℕ
waiting at = sum (map (count_by is_waiting) at.marks)

abbrev pub out : Standing → ℕ
out at = sum (map (count_by is_out) at.marks)

-- how many rows there are, and how many branches of all rows have each mark
abbrev pub counts_of : Standing → Counts
counts_of at =
    record {
      rows = length at.rows;
      kept = sum (map (count_by is_kept) at.marks);
      merged = sum (map (count_by is_merged) at.marks);
      struck = sum (map (count_by is_struck) at.marks);
      waiting = waiting at;
      out = out at;
    }
