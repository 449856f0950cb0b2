-- What stands first in a list, by `find`. Assumes nothing.
use Rattle.std.proofs.Common.{◌≡◌, zero, suc, ◌<◌, Bool, true, false, cond, List, [], ◌∷◌, length, get_or, Some, None, Option, find, Decides, refl, arith}
use Rattle.std.proofs.lemmas.Bool.Decides.{not_from_Decides}
use Rattle.plant.specs.First.{First}
use Rattle.plant.specs.First.First.{found, none}

module _ {X Y : Type 0} (test : X → Bool) (P : X → Type 0) (decides : (x : X) → Decides (test x) (P x)) (value : X → Y) (default : Y) (or : Option X → Y) (some : (x : X) → or (Some x) ≡ value x) (no : or None ≡ default) where
  -- one element in front that is not P
  later : (x : X) (xs : List X) (r : Y) → (P x → ⊥) → First P value default xs r → First P value default (x ∷ xs) r
  later x xs r not-x (found k inside at before) =
      found (suc k) (omega arith) at
      (λ j d. elim j as (λ j. j < suc k → P (get_or (x ∷ xs) j d) → ⊥) [ zero ↦ λ _. not-x | suc j ↦ λ h. before j d (omega arith) ])
  later x xs r not-x (none nowhere is) =
      none (λ j d. elim j as (λ j. j < length (x ∷ xs) → P (get_or (x ∷ xs) j d) → ⊥) [ zero ↦ λ _. not-x | suc j ↦ λ h. nowhere j d (omega arith) ]) is

  pub first : (xs : List X) → First P value default xs (or (find test xs))
  first [] = none (λ k d h. absurd (omega arith)) no
  first (x ∷ xs) =
      elim (test x) as (λ b. Decides b (P x) → First P value default (x ∷ xs) (or (cond b (Some x) (find test xs)))) [
        | true ↦ λ t. found 0 (omega arith) (λ d. (t.0 refl, some x)) (λ j d h. absurd (omega arith))
        | false ↦ λ t. later x xs _ (not_from_Decides false t refl) (first xs)
      ] (decides x)
