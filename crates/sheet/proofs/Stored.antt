-- How many things of a `Vec` there are.
use Rattle.std.proofs.Common.{◌≡◌, ℕ, List, map, length, sym, ◌∙◌}
use lib.ListN.{length-map}

pub map-count : {X Y : Type 0} (f : X → Y) (xs : List X) (n : ℕ) → n ≡ length xs → n ≡ length (map f xs)
map-count f xs n len = len ∙ sym (length-map xs f)
