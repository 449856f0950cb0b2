-- Where no branch waits or is out, the invariant is always true, over every plant.
use Rattle.std.proofs.Common.{◌≡◌, ◌↔◌, ℕ, ◌*◌, ◌≤◌, true, List, length, Some, None, Option, sym, refl, ◌∙◌, arith}
use Rattle.std.proofs.lemmas.Bool.{false≢true}
use Rattle.std.proofs.lemmas.Option.{none-some}
use Rattle.std.specs.List.{AllByRecursion as All}
use Rattle.plant.specs.Plant.{IsValue, IsPlant}
use Rattle.sheet.specs.Runs.{after, invariant_holds, FirstBreak}
use Rattle.sheet.specs.Truth.{Meaning}
use Rattle.bench.specs.Outcome.{Accepted}
use Rattle.rules.specs.Standing.{opening}
use Rattle.rules.specs.Safety.{Settles}
use Rattle.rules.proofs.Resolving.{Sound, opening_sound, turns_sound}
use Rattle.rules.proofs.Running.{all_reached}

pub settles : Settles
settles s lawful safe limit calls at comes none =
    record {
      steps = λ m plant starts inputs n run. each m plant starts inputs run.starts_small run.inputs_small n (omega (arith, run.inputs_long));
      runs = λ m plant starts inputs n ran starts_small inputs_small answer. none_only m starts inputs n (within m plant starts inputs n ran starts_small inputs_small) answer;
    }
  where
    -- where no configuration of a run breaks the invariant, none is its one answer
    none_only : (m : Meaning) (starts inputs : List ℕ) (n : ℕ) → FirstBreak m s starts inputs n None → (answer : Option ℕ) → FirstBreak m s starts inputs n answer ↔ (answer ≡ None)
    none_only m starts inputs n none None = ((λ found. refl), (λ e. none))
    none_only m starts inputs n none (Some i) = ((λ found. absurd (false≢true (sym found.broken ∙ none i found.within))), (λ e. absurd (none-some i (sym e))))

    sound : Sound s at
    sound = turns_sound s lawful limit calls (opening s) at (opening_sound s safe) comes

    each : (m : Meaning) → IsPlant m → (starts inputs : List ℕ) → All IsValue starts → All IsValue inputs → (n : ℕ) → n * s.inputs ≤ length inputs → invariant_holds m s (after m s starts inputs n) ≡ true
    each m plant starts inputs starts_small inputs_small n enough =
        let it = all_reached s lawful at sound none m plant starts inputs starts_small inputs_small n enough in
        sound.safe it.1 it.0 it.2 m (after m s starts inputs n) it.3

    within : (m : Meaning) → IsPlant m → (starts inputs : List ℕ) (n : ℕ) → Accepted s starts inputs n → All IsValue starts → All IsValue inputs → FirstBreak m s starts inputs n None
    within m plant starts inputs n ran starts_small inputs_small j le =
        let p : j * s.inputs ≤ n * s.inputs = grind arith in
        each m plant starts inputs starts_small inputs_small j (omega (arith, p, ran.inputs_length))
