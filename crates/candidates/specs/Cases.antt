-- The cases of the claims, one after another: words for the contracts of inner functions. Assumes nothing.
use Rattle.std.specs.Prelude.{◌≡◌, ℕ, ◌+◌, ◌<◌, Bool, false, List, ◌++◌, length, Ok, Err, Decides, MatchBool, Result, slice_index_or}
use Rattle.fault.specs.declared.TableFault.{TableFault}
use Rattle.sheet.specs.System.{System}
use Rattle.terms.specs.declared.Condition.{Condition}
use Rattle.terms.specs.declared.TermRecord.{TermRecord}
use Rattle.terms.specs.Terms.{Sat}
use Rattle.terms.specs.Bank.{Bank}
use Rattle.closure.specs.Labels.{no_condition}
use Rattle.forms.specs.Rows.{Row}
use Rattle.forms.specs.Candidate.{sign_of}
use Rattle.forms.specs.Safety.{Breaking, claim_conditions, invariant_in}
use Rattle.candidates.specs.Working.{Stands, Listed, no_literal}

-- the condition with the sign of the answer
abbrev pub with_answer : Condition → Bool → Condition
with_answer c answer = record { left = c.left; right = c.right; sign = sign_of answer }

-- the conditions of the claims' first case in a bank, and the form's own behind them
pub record Laid (s : System) (form : Row) (rs : List TermRecord) (n : ℕ) (cs : List Condition) (used : ℕ) : Type 0 where
  pub bank : Bank rs n
  pub claims : Listed rs n (claim_conditions s form 0) (length s.claims) cs
  pub own : (k : ℕ) → k < length form.conditions → Stands rs n (slice_index_or form.conditions k no_literal) (slice_index_or cs (length s.claims + k) no_condition)
  pub all : used ≡ length s.claims + length form.conditions

-- case b has a false invariant and is possible
abbrev pub Breaks : System → Row → ℕ → Type 0
Breaks s form b = (invariant_in s form b ≡ false) × Sat (claim_conditions s form b ++ form.conditions)

abbrev pub Tried : System → Row → ℕ → Result Bool TableFault → Type 0
Tried s form b (Ok breaking) = Decides breaking (Breaks s form b)
Tried s form b (Err e) = ⊥

-- whether no case breaks
abbrev pub Unbroken : System → Row → Bool → Type 0
Unbroken s form r = MatchBool r (Breaking s form → ⊥) (Breaking s form)

abbrev pub Searched : System → Row → Result Bool TableFault → Type 0
Searched s form (Ok r) = Unbroken s form r
Searched s form (Err e) = ⊥
