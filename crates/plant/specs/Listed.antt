-- What the listed model means. Assumes nothing.
use Rattle.std.specs.Prelude.{◌≡◌, ℕ, ◌<◌, Bool, ◌&&◌, List, [], ◌∷◌, length, ◌==◌, find, slice_index_or, Ok, Err, Result}
use Rattle.std.specs.Str.{bytes_eq}
use Rattle.std.specs.Option.{option_map_or}
use Rattle.plant.specs.First.{First}
use Rattle.plant.specs.Plant.{IsValue}
use Rattle.plant.specs.declared.listed.TooManyValues.{TooManyValues}
use Rattle.plant.specs.declared.listed.Values.{Values}
use Rattle.plant.specs.declared.listed.Values.TheVariants.{Zero, One, Two, Three}
use Rattle.plant.specs.declared.listed.Entry.{Entry}

abbrev pub list_of : Values → List ℕ
list_of Zero = []
list_of (One a) = a ∷ []
list_of (Two a b) = a ∷ b ∷ []
list_of (Three a b c) = a ∷ b ∷ c ∷ []

-- a list of at most three values
abbrev pub values_of : List ℕ → Result Values TooManyValues
values_of [] = Ok Zero
values_of (a ∷ []) = Ok (One a)
values_of (a ∷ b ∷ []) = Ok (Two a b)
values_of (a ∷ b ∷ c ∷ []) = Ok (Three a b c)
values_of (a ∷ b ∷ c ∷ d ∷ list) = Err (record {})

-- an entry fits its own symbol at just its values
abbrev pub Fits : ℕ → List ℕ → Entry → Type 0
Fits symbol values e = (e.symbol ≡ symbol) × (list_of e.values ≡ values)

-- the same as a test
abbrev pub fits : ℕ → List ℕ → Entry → Bool
fits symbol values e = e.symbol == symbol && bytes_eq (list_of e.values) values

-- the first fitting entry answers, else the default. No entry fits more than three values
abbrev pub listed : ℕ → List Entry → ℕ → List ℕ → ℕ
listed default entries symbol values = option_map_or (λ e. e.result) (find (fits symbol values) entries) default

abbrev pub FirstFitting : ℕ → List Entry → ℕ → List ℕ → ℕ → Type 0
FirstFitting default entries symbol values = First (Fits symbol values) (λ e. e.result) default entries

-- each entry's result is a value
abbrev pub SmallResults : List Entry → Type 0
SmallResults entries = (k : ℕ) (d : Entry) → k < length entries → IsValue (slice_index_or entries k d).result
