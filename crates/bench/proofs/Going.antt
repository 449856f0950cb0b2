-- A run, configuration by configuration.
use Rattle.std.proofs.Common.{◌≡◌, ℕ, suc, ◌+◌, ◌<◌, ◌≤◌, Bool, true, false, eqb, List, Some, None, sym, ap, ◌∙◌, ap₂, subst, ⊎_elim, add-one, arith, below_more}
use Rattle.std.proofs.lemmas.Bool.Decides.{eqb_tells}
use Rattle.sheet.specs.Runs.{Configuration, step, inputs_of, after, invariant_holds}
use Rattle.sheet.specs.System.{System}
use Rattle.sheet.specs.Truth.{Meaning}
use Rattle.bench.specs.declared.configuration.Configuration.{Configuration as Place}
use Rattle.bench.specs.Outcome.{Holds, Ran}

-- configuration i is at the place, and none before it breaks the invariant
pub record Reached (m : Meaning) (s : System) (starts inputs : List ℕ) (i : ℕ) (place : Place) : Type 0 where
  pub here : Holds place (after m s starts inputs i)
  pub before : (j : ℕ) → j < i → invariant_holds m s (after m s starts inputs j) ≡ true

module _ (m : Meaning) (s : System) (starts inputs : List ℕ) where
  -- a judgement by the same meaning, which leaves the place as it was
  module _ (i : ℕ) (place now : Place) (r : Bool) (f : Meaning) (at : Reached m s starts inputs i place) (same : now ≡ place) (kept : f ≡ m) (judge : (c : Configuration) → Holds place c → r ≡ invariant_holds f s c) where
    judged : r ≡ invariant_holds m s (after m s starts inputs i)
    judged = judge (after m s starts inputs i) at.here ∙ ap (λ (x : Meaning). invariant_holds x s (after m s starts inputs i)) kept

    still : Holds now (after m s starts inputs i)
    still = rw same at.here

    pub reached_next : (next : Place) (g : Meaning) (given : List ℕ) → r ≡ true → g ≡ m → given ≡ inputs_of s inputs i → ((c : Configuration) → Holds now c → Holds next (step g s c given)) → Reached m s starts inputs (i + 1) next
    reached_next next g given t k e go =
        let c = after m s starts inputs i in
        let moved : Holds next (after m s starts inputs (suc i)) = subst (λ (x : Configuration). Holds next x) (ap₂ (λ (x : Meaning) (l : List ℕ). step x s c l) k e) (go c still) in
        let one : i + 1 ≡ suc i = add-one i in
        record { here = rw one moved; before = below_more (λ j. invariant_holds m s (after m s starts inputs j) ≡ true) i at.before (sym judged ∙ t) }

    pub ran_break : (n j : ℕ) → j ≡ i → i ≤ n → r ≡ false → Ran m s starts inputs n (Some j) now
    ran_break n j e h t =
        rw e (record { first = record { within = h; broken = sym judged ∙ t; before = at.before }; last = still })

    pub ran_none : (n : ℕ) → n ≡ i → r ≡ true → Ran m s starts inputs n None now
    ran_none n e t =
        rw e (record { first = λ j h. ⊎_elim (λ (q : (eqb j i ≡ true) × (j ≡ i)). ap (λ k. invariant_holds m s (after m s starts inputs k)) q.1 ∙ (sym judged ∙ t)) (λ (q : (eqb j i ≡ false) × (j ≡ i → ⊥)). at.before j (omega (arith, q.1))) (eqb_tells j i); last = still })
