-- What a run answers, what it leaves in the place for the last configuration, and when it is refused.
-- Assumes nothing.
use Rattle.std.specs.Prelude.{◌≡◌, ℕ, ◌*◌, ◌<◌, ◌≤◌, false, List, length, Some, None, Option, ◌≢◌, slice_index_or}
use Rattle.fault.specs.declared.BenchFault.TheVariants.{TooManySteps, InputsLength, StartsLength}
use Rattle.fault.specs.declared.Fault.{Fault}
use Rattle.sheet.specs.Runs.{Configuration, after, FirstBreak}
use Rattle.sheet.specs.System.{System}
use Rattle.sheet.specs.Truth.{Meaning}
use Rattle.bench.specs.declared.configuration.Configuration.{Configuration as Place}

-- by number, with the default past the end, two lists are the same
abbrev pub Same : {V : Type 0} → V → List V → List V → Type 0
Same d xs ys = (k : ℕ) → slice_index_or xs k d ≡ slice_index_or ys k d

-- The place has the bits and readings of the configuration; what is past them is false and 0.
pub record Holds (place : Place) (c : Configuration) : Type 0 where
  pub bits : Same false place.bits c.bits
  pub readings : Same 0 place.readings c.readings

-- the number of the last configuration of a run: the first that breaks the invariant, or n
abbrev pub last_of : ℕ → Option ℕ → ℕ
last_of n None = n
last_of n (Some i) = i

pub record Ran (m : Meaning) (s : System) (starts inputs : List ℕ) (n : ℕ) (answer : Option ℕ) (place : Place) : Type 0 where
  pub first : FirstBreak m s starts inputs n answer
  pub last : Holds place (after m s starts inputs (last_of n answer))

-- the three conditions of a run, and the refusals in their order
pub record Accepted (s : System) (starts inputs : List ℕ) (n : ℕ) : Type 0 where
  pub steps : n ≤ 10000
  pub inputs_length : length inputs ≡ n * s.inputs
  pub starts_length : length starts ≡ 8

abbrev pub Refused : System → List ℕ → List ℕ → ℕ → Fault → Type 0
Refused s starts inputs n (Fault.Bench TooManySteps) = 10000 < n
Refused s starts inputs n (Fault.Bench InputsLength) = (n ≤ 10000) × (length inputs ≢ n * s.inputs)
Refused s starts inputs n (Fault.Bench StartsLength) = (n ≤ 10000) × (length inputs ≡ n * s.inputs) × (length starts ≢ 8)
Refused s starts inputs n (Fault.Sheet f p) = ⊥
Refused s starts inputs n (Fault.Table f) = ⊥
Refused s starts inputs n (Fault.Model f) = ⊥
