-- A list of values built front to back: each value is worked out from its node and the values before it.
-- So a node that names only earlier ones is worked out once, however often it is named. Assumes nothing.
use Rattle.std.specs.Prelude.{List, [], ◌∷◌, ◌++◌}

abbrev pub grow : {N V : Type 0} → (List V → N → V) → List V → List N → List V
grow step seen [] = seen
grow step seen (x ∷ xs) = grow step (seen ++ step seen x ∷ []) xs
