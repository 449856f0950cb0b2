-- What interning some terms adds to a bank, and when it finds no room. Assumes nothing.
use Rattle.std.specs.Prelude.{ℕ, ◌<◌, ◌≤◌, List, length}
use Rattle.std.specs.List.{ContainsAt as Has, AllByRecursion}
use Rattle.terms.specs.declared.TermRecord.{TermRecord}
use Rattle.terms.specs.Terms.{Term}
use Rattle.terms.specs.Bank.{term_at, Extends}
use Rattle.banks.specs.Room.{HasAll, Held}

-- the bank has the terms ts now, and has nothing new but these and their subterms
pub record Gained (rs : List TermRecord) (n : ℕ) (ts : List Term) (rs' : List TermRecord) (n' : ℕ) : Type 0 where
  pub extends : Extends rs n rs' n'
  pub has : AllByRecursion (Held rs' n') ts
  pub only : (all : List Term) → HasAll all ts → (k : ℕ) → n ≤ k → k < n' → Has all (term_at rs' k)

-- the bank's terms and ts with all their subterms are more than 512
abbrev pub Overfull : List TermRecord → ℕ → List Term → Type 0
Overfull rs n ts = (all : List Term) → ((k : ℕ) → k < n → Has all (term_at rs k)) → HasAll all ts → 512 < length all
