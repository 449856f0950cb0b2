-- What a plant model means. Assumes nothing.
use Rattle.std.specs.Prelude.{◌≡◌, ℕ, ◌^◌, ◌<◌, ◌≤◌, List, length}
use Rattle.std.specs.List.{AllByRecursion}

-- a value is a number below 2^32
abbrev pub IsValue : ℕ → Type 0
IsValue v = v < 2 ^ 32

-- what a sheet asks of a plant: the value of one of at most 32 symbols at no to three values
pub record IsQuestion (symbol : ℕ) (values : List ℕ) : Type 0 where
  pub known : symbol < 32
  pub few : length values ≤ 3
  pub small : AllByRecursion IsValue values

-- a plant answers each question with a value; what it would be elsewhere does not matter
abbrev pub IsPlant : (ℕ → List ℕ → ℕ) → Type 0
IsPlant m = (symbol : ℕ) (values : List ℕ) → IsQuestion symbol values → IsValue (m symbol values)

-- two meanings that answer each question alike
abbrev pub SameAnswers : (ℕ → List ℕ → ℕ) → (ℕ → List ℕ → ℕ) → Type 0
SameAnswers m n = (symbol : ℕ) (values : List ℕ) → IsQuestion symbol values → m symbol values ≡ n symbol values
