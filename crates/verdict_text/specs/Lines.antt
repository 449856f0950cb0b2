-- The line that tells what checking a sheet came to. Assumes nothing.
use Rattle.std.specs.Prelude.{ℕ, List, ◌++◌, codes, decimal}
use Rattle.rules.specs.declared.Branch.{Branch}
use Rattle.rules.specs.declared.Counts.{Counts}
use Rattle.rules.specs.declared.Outcome.{Outcome}
use Rattle.rules.specs.declared.Outcome.TheVariants.{Holds, Open, Unknown, Full}

-- a word, a space and a number
abbrev pub word_number : List ℕ → ℕ → List ℕ
word_number word n = word ++ decimal n

abbrev pub holds_line : Counts → List ℕ
holds_line c =
    word_number (codes "holds rows ") c.rows
    ++ (word_number (codes " kept ") c.kept
    ++ (word_number (codes " merged ") c.merged ++ (word_number (codes " struck ") c.struck ++ codes "\n")))

abbrev pub open_line : ℕ → ℕ → List ℕ
open_line w o = word_number (codes "open waiting ") w ++ (word_number (codes " out ") o ++ codes "\n")

abbrev pub branch_line : List ℕ → Branch → List ℕ
branch_line word b = word_number word b.row ++ (word_number (codes " branch ") b.number ++ codes "\n")

-- the line of what working through came to, with the counts of the table then
abbrev pub line_of : Outcome → Counts → List ℕ
line_of Holds c = holds_line c
line_of (Open w o) c = open_line w o
line_of (Unknown b) c = branch_line (codes "unknown row ") b
line_of (Full b) c = branch_line (codes "full row ") b

abbrev pub unknown_start : List ℕ
unknown_start = codes "unknown start\n"
