-- The sheet worked through: each call by the rules.
use Rattle.std.proofs.Common.{ℕ, true, false, List, [], ◌∷◌, ◌++◌, drop, None, refl, arith}
use Rattle.fault.specs.declared.TableFault.TheVariants.{Satisfiable, NoRenaming}
use Rattle.rules.specs.declared.Answer.TheVariants.{Done, Holds, Refused}
use Rattle.rules.specs.declared.Call.TheVariants.{Strike, Merge, Keep}
use Rattle.rules.specs.declared.Outcome.{Outcome}
use Rattle.rules.specs.Working.{offers, Offered, WorksFrom, WorkedThrough}
use Rattle.rules.specs.Working.Offered.{accepted, refused}
use Rattle.rules.specs.Working.WorksFrom.{finished, settled}
use Rattle.terms.specs.Terms.{Term, name, unary}
use Rattle.forms.specs.Rows.{Row}
use Rattle.forms.specs.Counted.{terms_in, claim_terms}
use Rattle.rules.specs.declared.Branch.{Branch}
use Rattle.rules.specs.declared.Mark.TheVariants.{Waiting, Out, Merged, Kept}
use Rattle.rules.specs.Standing.{Standing, opening}
use Rattle.rules.specs.Rules.{Merges, Keeps, StrikeRefused, MergeRefused}
use Rattle.marked.specs.Sheets.{hopper}
use Rattle.marked.specs.Works.{branch, calls_of, answers_of, hopper_work, row_zero, row_one, one_row, two_rows, Holding}
use Rattle.marked.proofs.Reading.{hopper_read}
use Rattle.marked.proofs.Steps.{roomy, possible, uncut, Looks, merges, apart, works}
use Rattle.marked.proofs.Facts.{input_is, input_is_not, is_possible, is_not_possible, zero_takes, one_takes, zero_takes_no, zero_safe, one_safe}

-- the candidates of row 0's branches, and of row 1's
abbrev zero_no : Row
zero_no = record { bits = false ∷ []; vector = name 0 ∷ name 1 ∷ []; conditions = input_is_not 2 ∷ [] }

abbrev zero_yes : Row
zero_yes = record { bits = true ∷ []; vector = name 0 ∷ unary 1 (name 0) ∷ []; conditions = input_is 2 ∷ [] }

abbrev one_no : Row
one_no = record { bits = true ∷ []; vector = name 0 ∷ unary 1 (name 0) ∷ []; conditions = input_is_not 1 ∷ [] }

abbrev one_yes : Row
one_yes = record { bits = true ∷ []; vector = name 0 ∷ unary 1 (name 0) ∷ []; conditions = input_is 1 ∷ [] }

-- a branch that is out, its form and the terms by then
abbrev seen_from : Standing → Row → List Term
seen_from at next = at.terms ++ terms_in next

zero_no_looks : Looks hopper (one_row Out Waiting) (branch 0 0) 1 row_zero (seen_from (one_row Out Waiting) zero_no)
zero_no_looks = record { out = refl; within = (1, refl, omega arith); built = uncut hopper (one_row Out Waiting) (branch 0 0) 1 row_zero zero_no refl refl refl refl }

zero_yes_looks : Looks hopper (one_row Merged Out) (branch 0 1) 1 row_one (seen_from (one_row Merged Out) zero_yes)
zero_yes_looks = record { out = refl; within = (1, refl, omega arith); built = uncut hopper (one_row Merged Out) (branch 0 1) 1 row_zero zero_yes refl refl refl refl }

one_no_looks : Looks hopper (two_rows Merged Kept Out Waiting) (branch 1 0) 1 row_one (seen_from (two_rows Merged Kept Out Waiting) one_no)
one_no_looks = record { out = refl; within = (1, refl, omega arith); built = uncut hopper (two_rows Merged Kept Out Waiting) (branch 1 0) 1 row_one one_no refl refl refl refl }

one_yes_looks : Looks hopper (two_rows Merged Kept Merged Out) (branch 1 1) 1 row_one (seen_from (two_rows Merged Kept Merged Out) one_yes)
one_yes_looks = record { out = refl; within = (1, refl, omega arith); built = uncut hopper (two_rows Merged Kept Merged Out) (branch 1 1) 1 row_one one_yes refl refl refl refl }

-- no strike
zero_no_possible : StrikeRefused hopper (one_row Out Waiting) (branch 0 0) Satisfiable
zero_no_possible = possible hopper (one_row Out Waiting) (branch 0 0) row_zero zero_no refl refl refl refl (is_not_possible 1)

zero_yes_possible : StrikeRefused hopper (one_row Merged Out) (branch 0 1) Satisfiable
zero_yes_possible = possible hopper (one_row Merged Out) (branch 0 1) row_zero zero_yes refl refl refl refl (is_possible 2)

one_no_possible : StrikeRefused hopper (two_rows Merged Kept Out Waiting) (branch 1 0) Satisfiable
one_no_possible = possible hopper (two_rows Merged Kept Out Waiting) (branch 1 0) row_one one_no refl refl refl refl (is_not_possible 0)

one_yes_possible : StrikeRefused hopper (two_rows Merged Kept Merged Out) (branch 1 1) Satisfiable
one_yes_possible = possible hopper (two_rows Merged Kept Merged Out) (branch 1 1) row_one one_yes refl refl refl refl (is_possible 1)

-- the merges
zero_no_merges : Merges hopper (one_row Out Waiting) (branch 0 0) 0 1
zero_no_merges = merges hopper (one_row Out Waiting) (branch 0 0) 0 1 row_zero _ row_zero zero_no_looks refl refl refl zero_takes

zero_yes_apart : MergeRefused hopper (one_row Merged Out) (branch 0 1) 0 1 NoRenaming
zero_yes_apart = apart hopper (one_row Merged Out) (branch 0 1) 0 1 row_one _ row_zero zero_yes_looks refl refl refl (zero_takes_no row_one refl)

one_no_apart : MergeRefused hopper (two_rows Merged Kept Out Waiting) (branch 1 0) 0 1 NoRenaming
one_no_apart = apart hopper (two_rows Merged Kept Out Waiting) (branch 1 0) 0 1 row_one _ row_zero one_no_looks refl refl refl (zero_takes_no row_one refl)

one_no_merges : Merges hopper (two_rows Merged Kept Out Waiting) (branch 1 0) 1 1
one_no_merges = merges hopper (two_rows Merged Kept Out Waiting) (branch 1 0) 1 1 row_one _ row_one one_no_looks refl refl refl one_takes

one_yes_apart : MergeRefused hopper (two_rows Merged Kept Merged Out) (branch 1 1) 0 1 NoRenaming
one_yes_apart = apart hopper (two_rows Merged Kept Merged Out) (branch 1 1) 0 1 row_one _ row_zero one_yes_looks refl refl refl (zero_takes_no row_one refl)

one_yes_merges : Merges hopper (two_rows Merged Kept Merged Out) (branch 1 1) 1 1
one_yes_merges = merges hopper (two_rows Merged Kept Merged Out) (branch 1 1) 1 1 row_one _ row_one one_yes_looks refl refl refl one_takes

-- the keep
zero_yes_keeps : Keeps hopper (one_row Merged Out) 64 (branch 0 1) 1 row_one (seen_from (one_row Merged Out) zero_yes)
zero_yes_keeps = record { within = (1, refl, omega arith); built = zero_yes_looks.built; roomy = roomy (seen_from (one_row Merged Out) zero_yes ++ claim_terms hopper row_one) refl; safe = one_safe; free = omega arith }

-- the offers on each branch
offered_00 : Offered hopper 64 (one_row Out Waiting) (offers hopper (branch 0 0) 1) (Strike (branch 0 0) ∷ Merge (branch 0 0) 0 1 ∷ []) (Refused Satisfiable ∷ Done ∷ []) None (one_row Merged Waiting)
offered_00 = refused _ _ _ _ _ _ _ (zero_no_possible, refl) (accepted _ _ _ _ ((refl, zero_no_merges), tt, refl) refl)

offered_01 : Offered hopper 64 (one_row Merged Out) (offers hopper (branch 0 1) 1) (Strike (branch 0 1) ∷ Merge (branch 0 1) 0 1 ∷ Keep (branch 0 1) 1 ∷ []) (Refused Satisfiable ∷ Refused NoRenaming ∷ Done ∷ []) None (two_rows Merged Kept Waiting Waiting)
offered_01 = refused _ _ _ _ _ _ _ (zero_yes_possible, refl) (refused _ _ _ _ _ _ _ (zero_yes_apart, refl) (accepted _ _ _ _ ((refl, (row_one, _, zero_yes_keeps)), tt, (row_one, _, zero_yes_keeps, refl)) refl))

offered_10 : Offered hopper 64 (two_rows Merged Kept Out Waiting) (offers hopper (branch 1 0) 2) (Strike (branch 1 0) ∷ Merge (branch 1 0) 0 1 ∷ Merge (branch 1 0) 1 1 ∷ []) (Refused Satisfiable ∷ Refused NoRenaming ∷ Done ∷ []) None (two_rows Merged Kept Merged Waiting)
offered_10 = refused _ _ _ _ _ _ _ (one_no_possible, refl) (refused _ _ _ _ _ _ _ (one_no_apart, refl) (accepted _ _ _ _ ((refl, one_no_merges), tt, refl) refl))

offered_11 : Offered hopper 64 (two_rows Merged Kept Merged Out) (offers hopper (branch 1 1) 2) (Strike (branch 1 1) ∷ Merge (branch 1 1) 0 1 ∷ Merge (branch 1 1) 1 1 ∷ []) (Refused Satisfiable ∷ Refused NoRenaming ∷ Done ∷ []) None (two_rows Merged Kept Merged Merged)
offered_11 = refused _ _ _ _ _ _ _ (one_yes_possible, refl) (refused _ _ _ _ _ _ _ (one_yes_apart, refl) (accepted _ _ _ _ ((refl, one_yes_merges), tt, refl) refl))

-- the work from a call on
abbrev From : Standing → Branch → ℕ → Type 0
From at b n = WorksFrom hopper 64 at b (drop n (calls_of hopper_work)) (drop n (answers_of hopper_work)) Outcome.Holds (two_rows Merged Kept Merged Merged)

from_15 : From (two_rows Merged Kept Merged Merged) (branch 2 0) 15
from_15 = finished _ _ Holds _ (omega arith) refl (tt, (omega arith, refl), refl)

from_11 : From (two_rows Merged Kept Merged Waiting) (branch 1 1) 11
from_11 = settled _ (two_rows Merged Kept Merged Out) (two_rows Merged Kept Merged Merged) _ (branch 1 1) _ _ _ _ _ (refl, refl, refl) offered_11 from_15

from_7 : From (two_rows Merged Kept Waiting Waiting) (branch 1 0) 7
from_7 = settled _ (two_rows Merged Kept Out Waiting) (two_rows Merged Kept Merged Waiting) _ (branch 1 0) _ _ _ _ _ (refl, refl, refl) offered_10 from_11

from_3 : From (one_row Merged Waiting) (branch 0 1) 3
from_3 = settled _ (one_row Merged Out) (two_rows Merged Kept Waiting Waiting) _ (branch 0 1) _ _ _ _ _ (refl, refl, refl) offered_01 from_7

worked : WorkedThrough hopper 64 (opening hopper) (calls_of hopper_work) (answers_of hopper_work) Outcome.Holds (two_rows Merged Kept Merged Merged)
worked = settled _ (one_row Out Waiting) (one_row Merged Waiting) _ (branch 0 0) _ _ _ _ _ (refl, refl, refl) offered_00 from_3

pub holding : Holding hopper
holding =
    record {
      works = works hopper hopper_work _ _ (zero_safe _ _ hopper_read.describe.lawful) worked;
      counts = refl;
    }
