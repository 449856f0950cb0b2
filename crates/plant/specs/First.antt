-- The first element of a list that passes a test. Assumes nothing.
use Rattle.std.specs.Prelude.{◌≡◌, ℕ, ◌<◌, List, length, slice_index_or}

-- r is the value of the element at k, which is P where no earlier one is, or the default where none is P
pub data First {X Y : Type 0} (P : X → Type 0) (value : X → Y) (default : Y) (xs : List X) (r : Y) : Type 0 where
  found : (k : ℕ) → k < length xs → ((d : X) → P (slice_index_or xs k d) × (r ≡ value (slice_index_or xs k d))) → ((j : ℕ) (d : X) → j < k → P (slice_index_or xs j d) → ⊥) → First P value default xs r
  none : ((k : ℕ) (d : X) → k < length xs → P (slice_index_or xs k d) → ⊥) → r ≡ default → First P value default xs r
