-- What a sheet does: configurations, one step, the configuration after n steps, and the first
-- configuration with a false invariant. Assumes nothing.
use Rattle.std.specs.Prelude.{◌≡◌, ℕ, zero, suc, ◌*◌, ◌<◌, ◌≤◌, Bool, true, false, List, [], ◌∷◌, map, get_or, take, drop, Some, None, Option, slice_index, slice_index_or}
use Rattle.sheet.specs.declared.syntax.Bit.{Bit}
use Rattle.sheet.specs.declared.syntax.Reading.{Reading}
use Rattle.sheet.specs.declared.syntax.Start.{Start}
use Rattle.sheet.specs.System.{System}
use Rattle.sheet.specs.Truth.{Meaning, term_values, answers, truths, chosen}

-- a value for each bit and for each reading
pub record Configuration : Type 0 where
  pub bits : List Bool
  pub readings : List ℕ

abbrev pub start_value : Meaning → List ℕ → Start → ℕ
start_value m starts (Start.Name n) = slice_index starts n
start_value m starts (Start.Constant c) = m c []

abbrev pub start_bit : Bit → Bool
start_bit b = b.start

abbrev pub start_reading : Meaning → List ℕ → Reading → ℕ
start_reading m starts r = start_value m starts r.start

abbrev pub start : Meaning → System → List ℕ → Configuration
start m s starts = record { bits = map start_bit s.bits; readings = map (start_reading m starts) s.readings }

-- a list by number
abbrev pub numbered : {A B : Type 0} → (ℕ → A → B) → ℕ → List A → List B
numbered f n [] = []
numbered f n (x ∷ xs) = f n x ∷ numbered f (suc n) xs

-- what the given number selects, or what was there before
abbrev pub or_kept : {A : Type 0} → (ℕ → A) → A → Option ℕ → A
or_kept given kept None = kept
or_kept given kept (Some n) = given n

-- All questions are answered first, from the configuration and the inputs. Then every bit and every
-- reading changes at once, from the old ones.
module _ (m : Meaning) (s : System) (c : Configuration) (inputs : List ℕ) where
  abbrev pub step_values : List ℕ
  step_values = term_values m c.readings inputs s.terms

  abbrev pub step_truths : List Bool
  step_truths = truths c.bits (answers step_values s.questions) [] s.formulas

  abbrev pub step_chosen : List ℕ
  step_chosen = chosen (λ f. get_or step_truths f false) s.choices

  abbrev pub next_bit : ℕ → Bit → Bool
  next_bit n b = or_kept (λ f. get_or step_truths f false) (slice_index_or c.bits n false) b.next

  abbrev pub next_reading : ℕ → Reading → ℕ
  next_reading n r = or_kept (λ k. slice_index step_values (slice_index step_chosen k)) (slice_index c.readings n) r.next

  abbrev pub step : Configuration
  step = record { bits = numbered next_bit 0 s.bits; readings = numbered next_reading 0 s.readings }

-- The invariant in a configuration: claims are answered without inputs, and no question is.
abbrev pub invariant_holds : Meaning → System → Configuration → Bool
invariant_holds m s c = or_kept (λ f. get_or (truths c.bits [] (answers (term_values m c.readings [] s.terms) s.claims) s.formulas) f false) true s.invariant

-- the inputs of step n, of all that are given step after step
abbrev pub inputs_of : System → List ℕ → ℕ → List ℕ
inputs_of s inputs n = take s.inputs (drop (n * s.inputs) inputs)

abbrev pub after : Meaning → System → List ℕ → List ℕ → ℕ → Configuration
after m s starts inputs zero = start m s starts
after m s starts inputs (suc n) = step m s (after m s starts inputs n) (inputs_of s inputs n)

-- the first of configurations 0 to n with a false invariant, or none
pub record BreaksFirstAt (m : Meaning) (s : System) (starts inputs : List ℕ) (n i : ℕ) : Type 0 where
  pub within : i ≤ n
  pub broken : invariant_holds m s (after m s starts inputs i) ≡ false
  pub before : (j : ℕ) → j < i → invariant_holds m s (after m s starts inputs j) ≡ true

abbrev pub FirstBreak : Meaning → System → List ℕ → List ℕ → ℕ → Option ℕ → Type 0
FirstBreak m s starts inputs n None = (j : ℕ) → j ≤ n → invariant_holds m s (after m s starts inputs j) ≡ true
FirstBreak m s starts inputs n (Some i) = BreaksFirstAt m s starts inputs n i
