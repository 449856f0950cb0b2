-- The lines that are printed of a run. Assumes nothing.
use Rattle.std.specs.Prelude.{ℕ, Bool, true, false, List, [], ◌∷◌, ◌++◌, map, length, Some, None, codes, decimal, Option}
use Rattle.run_file.specs.Reading.{Said, listed_plant, affine_plant, Run}

-- each number after a space
abbrev pub spaced : List ℕ → List ℕ
spaced [] = []
spaced (n ∷ ns) = (codes " " ++ decimal n) ++ spaced ns

abbrev pub bit_number : Bool → ℕ
bit_number false = 0
bit_number true = 1

abbrev pub plant_line : Said → List ℕ
plant_line (listed_plant default entries) = codes "plant listed default " ++ (decimal default ++ (codes " entries " ++ (decimal (length entries) ++ codes "\n")))
plant_line (affine_plant modulus curves) = codes "plant affine modulus " ++ (decimal modulus ++ (codes " curves " ++ (decimal (length curves) ++ codes "\n")))

abbrev pub steps_line : ℕ → ℕ → List ℕ
steps_line n given = codes "steps " ++ (decimal n ++ (codes " inputs " ++ (decimal given ++ codes "\n")))

-- what the run file says: the plant, the start values, the steps and the number of inputs
abbrev pub head_of : Run → List ℕ
head_of run = (((plant_line run.plant ++ codes "start") ++ spaced run.starts) ++ codes "\n") ++ steps_line run.steps (length run.inputs)

abbrev pub answer_line : Option ℕ → List ℕ
answer_line None = codes "answer none\n"
answer_line (Some i) = codes "answer break " ++ (decimal i ++ codes "\n")

-- the number of the last configuration, its bits and its readings
abbrev pub last_line : ℕ → List Bool → List ℕ → List ℕ
last_line i bits readings = ((((codes "last " ++ (decimal i ++ codes " bits")) ++ spaced (map bit_number bits)) ++ codes " readings") ++ spaced readings) ++ codes "\n"
