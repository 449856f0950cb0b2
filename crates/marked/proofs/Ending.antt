-- The sheets with the height bound 0 and without M worked through: each call by the rules.
use Rattle.std.proofs.Common.{◌≡◌, ℕ, true, false, List, [], ◌∷◌, ◌++◌, drop, Some, None, Option, refl, arith}
use Rattle.fault.specs.declared.TableFault.TheVariants.{Satisfiable, NoRenaming, UnsafeForm}
use Rattle.sheet.specs.Lawful.{Lawful}
use Rattle.terms.specs.Terms.{Term, name, unary}
use Rattle.forms.specs.Rows.{Row}
use Rattle.forms.specs.Counted.{terms_in, claim_terms, made, low, cut}
use Rattle.rules.specs.declared.Mark.TheVariants.{Waiting, Out, Merged}
use Rattle.rules.specs.Standing.{Standing, opening}
use Rattle.rules.specs.Rules.{Builds, StrikeRefused, MergeRefused, KeepRefused}
use Rattle.rules.specs.declared.Answer.TheVariants.{Done, Refused}
use Rattle.rules.specs.declared.Call.TheVariants.{Strike, Merge, Keep}
use Rattle.rules.specs.declared.Outcome.{Outcome}
use Rattle.rules.specs.Working.{offers, Offered, WorksFrom, WorkedThrough}
use Rattle.rules.specs.Working.Offered.{accepted, refused, last}
use Rattle.rules.specs.Working.WorksFrom.{settled, stopped}
use Rattle.marked.specs.Sheets.{sheet_with, hopper_bound_0, hopper_without_m}
use Rattle.marked.specs.Works.{branch, calls_of, answers_of, unknown_work, row_zero, one_row, Unknown}
use Rattle.marked.proofs.Reading.{bound_0_read, without_m_read}
use Rattle.marked.proofs.Steps.{everything, holds_all, roomy, possible, uncut, Looks, merges, apart, works}
use Rattle.marked.proofs.Facts.{input_is, input_is_not, is_possible, is_not_possible, zero_takes, zero_takes_no, zero_safe, free_row, free_unsafe}

abbrev seen_from : Standing → Row → List Term
seen_from at next = at.terms ++ terms_in next

abbrev taken_0 : Standing
taken_0 = one_row Out Waiting

abbrev taken_1 : Standing
taken_1 = one_row Merged Out

-- where the form of branch 0 is row 0 and that of branch 1 is the row with the bit raised and free readings
module _ (next : Option ℕ) (bound : ℕ) (seen_0 seen_1 : List Term) where
  ends : Lawful (sheet_with next bound)
      → Looks (sheet_with next bound) taken_0 (branch 0 0) bound row_zero seen_0 → Looks (sheet_with next bound) taken_1 (branch 0 1) bound free_row seen_1
      → StrikeRefused (sheet_with next bound) taken_0 (branch 0 0) Satisfiable → StrikeRefused (sheet_with next bound) taken_1 (branch 0 1) Satisfiable
      → holds_all everything (seen_0 ++ []) ≡ true → holds_all everything (seen_1 ++ []) ≡ true → holds_all everything (seen_1 ++ claim_terms (sheet_with next bound) free_row) ≡ true
      → Unknown (sheet_with next bound) bound
  ends lawful look_0 look_1 no_strike_0 no_strike_1 fits_0 fits_1 fits = record { works = works _ _ _ _ (zero_safe next bound lawful) worked; counts = refl }
    where
      unsafe : KeepRefused (sheet_with next bound) taken_1 64 (branch 0 1) bound UnsafeForm
      unsafe = (refl, look_1.within, (free_row, seen_1, look_1.built, roomy _ fits, free_unsafe next bound))

      no_merge : MergeRefused (sheet_with next bound) taken_1 (branch 0 1) 0 bound NoRenaming
      no_merge = apart _ taken_1 (branch 0 1) 0 bound free_row seen_1 row_zero look_1 refl refl fits_1 (zero_takes_no free_row refl)

      offered_0 : Offered (sheet_with next bound) 64 taken_0 (offers (sheet_with next bound) (branch 0 0) 1) (Strike (branch 0 0) ∷ Merge (branch 0 0) 0 bound ∷ []) (Refused Satisfiable ∷ Done ∷ []) None (one_row Merged Waiting)
      offered_0 = refused _ _ _ _ _ _ _ (no_strike_0, refl) (accepted _ _ _ _ ((refl, merges _ taken_0 (branch 0 0) 0 bound row_zero seen_0 row_zero look_0 refl refl fits_0 zero_takes), tt, refl) refl)

      offered_1 : Offered (sheet_with next bound) 64 taken_1 (offers (sheet_with next bound) (branch 0 1) 1) (Strike (branch 0 1) ∷ Merge (branch 0 1) 0 bound ∷ Keep (branch 0 1) bound ∷ []) (Refused Satisfiable ∷ Refused NoRenaming ∷ Refused UnsafeForm ∷ []) (Some UnsafeForm) taken_1
      offered_1 = refused _ _ _ _ _ _ _ (no_strike_1, refl) (refused _ _ _ _ _ _ _ (no_merge, refl) (last _ _ (unsafe, refl)))

      from_3 : WorksFrom (sheet_with next bound) 64 (one_row Merged Waiting) (branch 0 1) (drop 3 (calls_of (unknown_work bound))) (drop 3 (answers_of (unknown_work bound))) (Outcome.Unknown (branch 0 1)) (one_row Merged Waiting)
      from_3 = stopped _ taken_1 _ (branch 0 1) _ _ UnsafeForm _ (refl, refl, refl) offered_1 (refl, tt, refl) refl

      worked : WorkedThrough (sheet_with next bound) 64 (opening (sheet_with next bound)) (calls_of (unknown_work bound)) (answers_of (unknown_work bound)) (Outcome.Unknown (branch 0 1)) (one_row Merged Waiting)
      worked = settled _ taken_0 (one_row Merged Waiting) _ (branch 0 0) _ _ _ _ _ (refl, refl, refl) offered_0 from_3

-- the candidates of branch 0 and of branch 1, with the height bound 0 and without M
abbrev zero_no : Row
zero_no = record { bits = false ∷ []; vector = name 0 ∷ name 1 ∷ []; conditions = input_is_not 2 ∷ [] }

abbrev low_yes : Row
low_yes = record { bits = true ∷ []; vector = name 0 ∷ unary 1 (name 0) ∷ []; conditions = input_is 2 ∷ [] }

abbrev still_yes : Row
still_yes = record { bits = true ∷ []; vector = name 0 ∷ name 1 ∷ []; conditions = input_is 2 ∷ [] }

-- Symbol 1 of x0 is cut to x1, the lowest name that stands nowhere in the candidate.
low_built : Builds hopper_bound_0 taken_1 (branch 0 1) 0 (made free_row (seen_from taken_1 low_yes ++ terms_in still_yes))
low_built = (row_zero, refl, (made low_yes (seen_from taken_1 low_yes), (refl, refl, roomy (seen_from taken_1 low_yes) refl), (still_yes, cut _ _ (unary 1 (name 0)) 1 _ refl refl (roomy (seen_from taken_1 low_yes ++ terms_in still_yes) refl) (low _ _ refl), refl)))

pub bound_0_unknown : Unknown hopper_bound_0 0
bound_0_unknown =
    ends (Some 2) 0 (seen_from taken_0 zero_no) (seen_from taken_1 low_yes ++ terms_in still_yes) bound_0_read.describe.lawful
    (record { out = refl; within = (0, refl, omega arith); built = uncut hopper_bound_0 taken_0 (branch 0 0) 0 row_zero zero_no refl refl refl refl })
    (record { out = refl; within = (0, refl, omega arith); built = low_built })
    (possible hopper_bound_0 taken_0 (branch 0 0) row_zero zero_no refl refl refl refl (is_not_possible 1))
    (possible hopper_bound_0 taken_1 (branch 0 1) row_zero low_yes refl refl refl refl (is_possible 2))
    refl refl refl

pub without_m_unknown : Unknown hopper_without_m 1
without_m_unknown =
    ends None 1 (seen_from taken_0 zero_no) (seen_from taken_1 still_yes) without_m_read.describe.lawful
    (record { out = refl; within = (1, refl, omega arith); built = uncut hopper_without_m taken_0 (branch 0 0) 1 row_zero zero_no refl refl refl refl })
    (record { out = refl; within = (1, refl, omega arith); built = uncut hopper_without_m taken_1 (branch 0 1) 1 row_zero still_yes refl refl refl refl })
    (possible hopper_without_m taken_0 (branch 0 0) row_zero zero_no refl refl refl refl (is_not_possible 1))
    (possible hopper_without_m taken_1 (branch 0 1) row_zero still_yes refl refl refl refl (is_possible 2))
    refl refl refl
