-- Safety by the rules alone: no code is in it. Assumes nothing.
use Rattle.std.specs.Prelude.{◌≡◌, ℕ, ◌+◌, true, List, slice_get, Some}
use Rattle.plant.specs.Plant.{IsPlant}
use Rattle.sheet.specs.Lawful.{Lawful}
use Rattle.sheet.specs.Runs.{after, invariant_holds}
use Rattle.sheet.specs.System.{System}
use Rattle.sheet.specs.Truth.{Meaning}
use Rattle.forms.specs.Rows.{Row, Covers, first_row}
use Rattle.forms.specs.Safety.{Safe}
use Rattle.rules.specs.declared.Answer.{Answer}
use Rattle.rules.specs.declared.Call.{Call}
use Rattle.rules.specs.Standing.{Standing, opening, waiting, out}
use Rattle.rules.specs.Calls.{ComesTo}
use Rattle.rules.specs.Laws.{Played}
use Rattle.rules.specs.Promises.{RunInputs, AlwaysTrue, Promises}

module _ (s : System) (at : Standing) where
  -- after n steps some row of the table covers the configuration, and the invariant is true
  pub record CoveredRun (m : Meaning) (starts inputs : List ℕ) (n : ℕ) : Type 0 where
    pub number : ℕ
    pub row : Row
    pub is_row : slice_get at.rows number ≡ Some row
    pub covers : Covers m row (after m s starts inputs n)
    pub invariant : invariant_holds m s (after m s starts inputs n) ≡ true

-- where calls leave no branch waiting or out, every run is covered
abbrev pub Covered : Type 0
Covered =
    (s : System) → Lawful s → Safe s (first_row s)
    → (limit : ℕ) (calls : List Call) (at : Standing)
    → ComesTo s limit calls at → waiting at + out at ≡ 0
    → (m : Meaning) → IsPlant m → (starts inputs : List ℕ) (n : ℕ)
    → RunInputs s starts inputs n → CoveredRun s at m starts inputs n

-- and so the invariant is always true, over every plant model
abbrev pub Settles : Type 0
Settles =
    (s : System) → Lawful s → Safe s (first_row s)
    → (limit : ℕ) (calls : List Call) (at : Standing)
    → ComesTo s limit calls at → waiting at + out at ≡ 0 → AlwaysTrue s

-- where calls on a newly opened table were answered as the rules say, the promises are kept
abbrev pub Keeping : Type 0
Keeping =
    (s : System) → Lawful s → Safe s (first_row s)
    → (limit : ℕ) (calls : List Call) (answers : List Answer) (at : Standing)
    → Played s limit (opening s) calls answers at → Promises s limit calls answers
