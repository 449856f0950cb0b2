-- The runs, the cut, the conditions and the merges.
use Rattle.std.proofs.Common.{◌≡◌, ℕ, zero, suc, ◌<◌, ◌≤◌, min, Bool, true, false, [], ◌∷◌, Some, None, Option, refl, ap, arith}
use Rattle.forms.specs.Examples.{row_of, tall}
use Rattle.forms.proofs.Worked.{examples}
use Rattle.plant.specs.Listed.{listed}
use Rattle.sheet.specs.Runs.{after, invariant_holds}
use Rattle.terms.specs.Terms.{Interpretation}
use Rattle.forms.proofs.Shaping.{one_form}
use Rattle.marked.specs.Sheets.{hopper_without_m}
use Rattle.marked.specs.Cases.{starts, StepAnswers, BenchCases, CutCase, ConditionCases, MergeCases}

-- the invariant in configuration j
abbrev holds_in : ℕ → ℕ → Bool
holds_in default j = invariant_holds (listed default []) hopper_without_m (after (listed default []) hopper_without_m starts (0 ∷ []) j)

before_one : (j : ℕ) → j < 1 → holds_in 0 j ≡ true
before_one zero lt = refl
before_one (suc j) lt = absurd (omega arith)

up_to_one : (j : ℕ) → j ≤ 1 → holds_in 7 j ≡ true
up_to_one zero le = refl
up_to_one (suc zero) le = refl
up_to_one (suc (suc j)) le = absurd (omega arith)

breaks_at : (i : ℕ) → i ≤ 1 → holds_in 0 i ≡ false → ◌≡◌ {A = Option ℕ} (Some i) (Some 1)
breaks_at zero le b = cc
breaks_at (suc zero) le b = refl
breaks_at (suc (suc i)) le b = absurd (omega arith)

breaks_only : (answer : Option ℕ) → StepAnswers 0 answer → answer ≡ Some 1
breaks_only None h = let e : false ≡ true = h 1 (omega arith) in cc
breaks_only (Some i) h = breaks_at i h.within h.broken

none_only : (answer : Option ℕ) → StepAnswers 7 answer → answer ≡ None
none_only None h = refl
none_only (Some i) h = let e = up_to_one i h.within in let f = h.broken in cc

pub runs : BenchCases
runs =
    record {
      accepted = record { steps = omega arith; inputs_length = refl; starts_length = refl };
      breaks = record { within = omega arith; broken = refl; before = before_one };
      breaks_only = breaks_only;
      none = up_to_one;
      none_only = none_only;
    }

pub cuts : CutCase
cuts = record { high = refl; cut = examples.cut; only = λ form f. (one_form 1 (row_of (tall ∷ []))).only _ _ f examples.cut }

-- every symbol means 0, and the names 0 and 1 have different values
parted : Interpretation
parted = record { meaning = λ _ _. 0; values = λ x. min x 1; meaning_small = λ _ _. omega arith; values_small = λ x. omega arith }

pub conditions : ConditionCases
unfolding parted
conditions = record { impossible = λ (m, h). h.1.0 (ap (λ v. m.meaning 0 (v ∷ [])) h.0); possible = (parted, ((λ e. omega arith), (refl, tt))) }

pub merges : MergeCases
merges = record { parts = examples.parts; joins = examples.joins }
