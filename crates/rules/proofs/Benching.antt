-- A run on the bench, over a sheet whose invariant is always true.
use Rattle.std.proofs.Common.{◌≡◌, ℕ, suc, List, [], ◌∷◌, get_or, None, Option, Ok, Err, Result, Fits, w32}
use Rattle.std.specs.List.{AllByRecursion as All}
use Rattle.std.proofs.Math.Facts.{Fits-lt-pow}
use Rattle.std.specs.Prelude.{MatchResult, IfOk}
use Rattle.fault.specs.declared.Fault.{Fault}
use Rattle.bench.specs.Outcome.{Accepted}
use Rattle.plant.specs.Plant.{IsValue, IsPlant}
use Rattle.sheet.specs.Runs.{FirstBreak}
use Rattle.sheet.specs.System.{System}
use Rattle.sheet.specs.Truth.{Meaning}
use Rattle.rules.specs.Promises.{AlwaysTrue}

all_values : (xs : List ℕ) → ((i : ℕ) → Fits w32 (get_or xs i 0)) → All IsValue xs
all_values [] fits = tt
all_values (x ∷ xs) fits = (Fits-lt-pow {w = w32} {n = x} (fits 0), all_values xs (λ i. fits (suc i)))

pub runs_none : (m : Meaning) → IsPlant m → (s : System) → AlwaysTrue s → (starts inputs : List ℕ) → ((i : ℕ) → Fits w32 (get_or starts i 0)) → ((i : ℕ) → Fits w32 (get_or inputs i 0)) → (n : ℕ) (Refusal : Fault → Type 0) (result : Result (Option ℕ) Fault) → MatchResult result (λ a. Accepted s starts inputs n × FirstBreak m s starts inputs n a) Refusal → IfOk result (λ answer. answer ≡ None)
runs_none m plant s always starts inputs starts_fit inputs_fit n Refusal (Ok answer) h =
    (always.runs m plant starts inputs n h.0 (all_values starts starts_fit) (all_values inputs inputs_fit) answer).0 h.1
runs_none m plant s always starts inputs starts_fit inputs_fit n Refusal (Err fault) h = tt
