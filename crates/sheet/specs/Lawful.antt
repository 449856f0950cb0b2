-- Lawful sheets: no letter passes its most, and every record obeys the rules within the whole sheet.
-- Assumes nothing.
use Rattle.std.specs.Prelude.{◌≡◌, ℕ, suc, Bool, true, ◌&&◌, List, [], ◌∷◌, length, Some, None, Option, nat_le}
use Rattle.sheet.specs.declared.syntax.Record.{Record}
use Rattle.sheet.specs.Rules.{obeys_at}
use Rattle.sheet.specs.System.{System}

-- a test of each element with its number
abbrev pub each_at : {A : Type 0} → (ℕ → A → Bool) → ℕ → List A → Bool
each_at p n [] = true
each_at p n (x ∷ xs) = p n x && each_at p (suc n) xs

-- a test of what is given, if anything is
abbrev pub given : (ℕ → Bool) → Option ℕ → Bool
given p None = true
given p (Some n) = p n

pub record Few (s : System) : Type 0 where
  pub bits : nat_le (length s.bits) 16 ≡ true
  pub symbols : nat_le (length s.symbols) 32 ≡ true
  pub readings : nat_le (length s.readings) 6 ≡ true
  pub inputs : nat_le s.inputs 4 ≡ true
  pub terms : nat_le (length s.terms) 64 ≡ true
  pub questions : nat_le (length s.questions) 6 ≡ true
  pub claims : nat_le (length s.claims) 4 ≡ true
  pub formulas : nat_le (length s.formulas) 64 ≡ true
  pub choices : nat_le (length s.choices) 64 ≡ true

-- every record of s obeys the rules in r
pub record LawfulIn (r s : System) : Type 0 where
  pub symbols : each_at (λ n a. obeys_at r n (Record.Symbol a)) 0 s.symbols ≡ true
  pub readings : each_at (λ n x. obeys_at r n (Record.Reading x.start)) 0 s.readings ≡ true
  pub terms : each_at (λ n t. obeys_at r n (Record.Term t)) 0 s.terms ≡ true
  pub questions : each_at (λ n e. obeys_at r n (Record.Question e)) 0 s.questions ≡ true
  pub claims : each_at (λ n e. obeys_at r n (Record.Claim e)) 0 s.claims ≡ true
  pub formulas : each_at (λ n f. obeys_at r n (Record.Formula f)) 0 s.formulas ≡ true
  pub choices : each_at (λ n k. obeys_at r n (Record.Choice k)) 0 s.choices ≡ true
  pub next_bits : each_at (λ n b. given (λ f. obeys_at r 0 (Record.NextBit n f)) b.next) 0 s.bits ≡ true
  pub next_readings : each_at (λ n x. given (λ k. obeys_at r 0 (Record.NextReading n k)) x.next) 0 s.readings ≡ true
  pub invariant : given (λ f. obeys_at r 0 (Record.Invariant f)) s.invariant ≡ true
  pub bound : given (λ h. obeys_at r 0 (Record.Bound h)) s.bound ≡ true

pub record Lawful (s : System) : Type 0 where
  pub few : Few s
  pub each : LawfulIn s s
