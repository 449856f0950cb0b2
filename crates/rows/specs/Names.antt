-- Sets of names as numbers: bit x is set where name x stands. Assumes nothing.
use Rattle.std.specs.Prelude.{◌≡◌, ℕ, ◌/◌, ◌%◌, ◌^◌, Bool, List, ◌==◌}
use Rattle.terms.specs.Terms.{Term, Literal}
use Rattle.forms.specs.Rows.{Row, occurs_in_terms, occurs_in_literals, stands}

-- whether name x is in the set
abbrev pub is_in : ℕ → ℕ → Bool
is_in set x = (set / 2 ^ x % 2) == 1

-- the names of terms, of conditions, of a row
abbrev pub NamesOfTerms : ℕ → List Term → Type 0
NamesOfTerms set ts = (x : ℕ) → is_in set x ≡ occurs_in_terms x ts

abbrev pub NamesOfLiterals : ℕ → List Literal → Type 0
NamesOfLiterals set cs = (x : ℕ) → is_in set x ≡ occurs_in_literals x cs

abbrev pub NamesOfRow : ℕ → Row → Type 0
NamesOfRow set row = (x : ℕ) → is_in set x ≡ stands row x
