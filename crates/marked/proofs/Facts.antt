-- What the rows of the three sheets are like: which conditions are possible, which form an older row takes, and what is safe.
use Rattle.std.proofs.Common.{◌≡◌, ℕ, zero, suc, ◌<◌, min, true, false, [], ◌∷◌, ◌++◌, Option, refl, arith, rules}
use Rattle.sheet.specs.Lawful.{Lawful}
use Rattle.sheet.specs.Runs.{Configuration}
use Rattle.terms.specs.declared.Sign.TheVariants.{Equal, Different}
use Rattle.terms.specs.Terms.{name, constant, Interpretation, Literal, Sat}
use Rattle.forms.specs.Rows.{Row, CoversBy, Covers, first_row}
use Rattle.forms.specs.Matching.{Takes}
use Rattle.forms.specs.Safety.{Safe, Unsafe, claim_conditions, invariant_in}
use Rattle.forms.proofs.Deciding.{safety_by_cases}
use Rattle.marked.specs.Sheets.{sheet_with, hopper}
use Rattle.marked.specs.Works.{row_zero, row_one}
use Rattle.marked.proofs.Reading.{hopper_read}

-- every symbol means 0; every name has the value 0, or each its own up to 1
abbrev zeros : Interpretation
zeros = record { meaning = λ _ _. 0; values = λ _. 0; meaning_small = λ _ _. omega arith; values_small = λ _. omega arith }

abbrev own : Interpretation
own = record { meaning = λ _ _. 0; values = λ x. min x 1; meaning_small = λ _ _. omega arith; values_small = λ x. omega arith }

-- an input's condition is possible either way
abbrev pub input_is : ℕ → Literal
input_is x = record { left = name x; right = constant 0; sign = Equal }

abbrev pub input_is_not : ℕ → Literal
input_is_not x = record { left = name x; right = constant 0; sign = Different }

pub is_possible : (x : ℕ) → Sat (input_is x ∷ [])
is_possible x = (zeros, (refl, tt))

pub is_not_possible : (x : ℕ) → Sat (input_is_not (suc x) ∷ [])
is_not_possible x = (own, ((λ e. omega arith), tt))

-- each row takes itself
pub zero_takes : Takes row_zero row_zero
zero_takes = (λ x. min x 1, record { names = λ x. omega arith; bits = refl; vector = refl; conditions = tt })

pub one_takes : Takes row_one row_one
one_takes = (λ x. min x 1, record { names = λ x. omega arith; bits = refl; vector = refl; conditions = tt })

-- row 0 takes no form in which the bit is raised
pub zero_takes_no : (form : Row) → form.bits ≡ true ∷ [] → Takes row_zero form → ⊥
zero_takes_no form raised t = let e = t.1.bits in cc

-- Row 0 is safe: the bit is down, so the invariant is true in both cases of the claim.
pub zero_safe : (next : Option ℕ) (bound : ℕ) → Lawful (sheet_with next bound) → Safe (sheet_with next bound) (first_row (sheet_with next bound))
zero_safe next bound lawful = (safety_by_cases (sheet_with next bound) lawful row_zero refl).safe (λ b. none b.claims b.within b.broken)
  where
    none : (b : ℕ) → b < 2 → invariant_in (sheet_with next bound) row_zero b ≡ false → ⊥
    none zero lt h = cc
    none (suc zero) lt h = cc
    none (suc (suc b)) lt h = omega arith

-- Row 1 is safe: the claim is between a term and itself.
pub one_safe : Safe hopper row_one
one_safe = (safety_by_cases hopper hopper_read.describe.lawful row_one refl).safe (λ b. none b.claims b.within b.broken b.possible)
  where
    none : (b : ℕ) → b < 2 → invariant_in hopper row_one b ≡ false → Sat (claim_conditions hopper row_one b ++ []) → ⊥
    none zero lt h s = s.1.0 refl
    none (suc zero) lt h s = cc
    none (suc (suc b)) lt h s = omega arith

-- an interpretation covers by its own meaning
covered : (i : Interpretation) (row : Row) (c : Configuration) → CoversBy i row c → Covers i.meaning row c
covered i row c by = record { by = i; under = search rules; covers = by }

-- With the bit raised and the readings free, a form isn't safe: reading 1 may be 1, where symbol 1 means 0.
abbrev pub free_row : Row
free_row = record { bits = true ∷ []; vector = name 0 ∷ name 1 ∷ []; conditions = [] }

abbrev broken : Configuration
broken = record { bits = true ∷ []; readings = 0 ∷ 1 ∷ [] }

pub free_unsafe : (next : Option ℕ) (bound : ℕ) → Unsafe (sheet_with next bound) free_row
free_unsafe next bound = record { meaning = own.meaning; configuration = broken; covers = covered own free_row broken (record { bits = refl; conditions = tt; readings = refl }); broken = refl }
