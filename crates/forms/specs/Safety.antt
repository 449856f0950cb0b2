-- Safety of a form. Assumes nothing.
use Rattle.std.specs.Prelude.{◌≡◌, ℕ, ◌^◌, ◌<◌, Bool, true, false, List, [], ◌++◌, length, slice_index_or}
use Rattle.sheet.specs.Runs.{Configuration, numbered, or_kept, invariant_holds}
use Rattle.sheet.specs.System.{System}
use Rattle.sheet.specs.Truth.{Meaning, truths}
use Rattle.terms.specs.Terms.{Literal, Sat}
use Rattle.forms.specs.Rows.{Row, Covers}
use Rattle.forms.specs.Candidate.{branch_answers, terms_over, condition_of}

-- no meaning makes the invariant false in a configuration that the form covers
abbrev pub Safe : System → Row → Type 0
Safe s form = (m : Meaning) (c : Configuration) → Covers m form c → invariant_holds m s c ≡ true

-- a meaning and a configuration that the form covers, with a false invariant
pub record Unsafe (s : System) (form : Row) : Type 0 where
  pub meaning : Meaning
  pub configuration : Configuration
  pub covers : Covers meaning form configuration
  pub broken : invariant_holds meaning s configuration ≡ false

-- The claims over the form's vector, with the answers of case b, as branches have them, and the invariant there.
abbrev pub claim_conditions : System → Row → ℕ → List Literal
claim_conditions s form b = numbered (condition_of (terms_over form.vector [] s.terms) (branch_answers (length s.claims) b)) 0 s.claims

abbrev pub invariant_in : System → Row → ℕ → Bool
invariant_in s form b = or_kept (λ f. slice_index_or (truths form.bits [] (branch_answers (length s.claims) b) s.formulas) f false) true s.invariant

-- a case of the claims with a false invariant that the form's conditions allow
pub record Breaking (s : System) (form : Row) : Type 0 where
  pub claims : ℕ
  pub within : claims < 2 ^ length s.claims
  pub broken : invariant_in s form claims ≡ false
  pub possible : Sat (claim_conditions s form claims ++ form.conditions)
