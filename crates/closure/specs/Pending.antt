-- Equations that are due: every congruence that forces the labels holds them. Assumes nothing.
use Rattle.std.specs.Prelude.{◌≡◌, ℕ, ◌<◌, List, ◌++◌}
use Rattle.std.specs.List.{AllByRecursion}
use Rattle.terms.specs.declared.TermRecord.{TermRecord}
use Rattle.terms.specs.Terms.{Literal}
use Rattle.terms.specs.Bank.{term_at}
use Rattle.closure.specs.declared.pending.Equation.{Equation}
use Rattle.closure.specs.Congruence.{Congruent}
use Rattle.closure.specs.Working.{Forced}

abbrev pub DueOne : List TermRecord → ℕ → List ℕ → Equation → Type 0
DueOne rs n l e =
    (e.left < n) × (e.right < n) × ((cs : List Literal) → Forced rs n cs l → Congruent cs (term_at rs e.left) (term_at rs e.right))

abbrev pub Due : List TermRecord → ℕ → List ℕ → List Equation → Type 0
Due rs n l es = AllByRecursion (DueOne rs n l) es

-- equations that joined the others at the end, each of them due
abbrev pub Added : List TermRecord → ℕ → List ℕ → List Equation → List Equation → Type 0
Added rs n l es es' = (new : List Equation) × (es' ≡ es ++ new) × Due rs n l new
