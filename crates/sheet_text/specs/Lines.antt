-- The lines of a listing. Assumes nothing.
use Rattle.std.specs.Prelude.{◌≡◌, ℕ, ◌+◌, ◌⊎◌, List, [], ◌∷◌, ◌++◌, length, drop, codes, decimal}
use Rattle.std.proofs.Math.Utf8.{encode}
use Rattle.fault.specs.declared.Fault.{Fault}
use Rattle.fault.specs.Values.{text_of}
use Rattle.sheet.specs.declared.kind.Kind.{Kind}
use Rattle.sheet.specs.declared.syntax.Record.{Record}
use Rattle.sheet.specs.Format.{letter, kind_of, body_of, written, written_all}
use Rattle.reader.specs.Outcome.{Accepted, Faulty}
use Rattle.sheet.specs.System.{System}

-- each number after a space
abbrev pub numbers_of : List ℕ → List ℕ
numbers_of [] = []
numbers_of (n ∷ ns) = (codes " " ++ decimal n) ++ numbers_of ns

-- `record R byte P LETTER`, and the numbers of the body
abbrev pub line_of : ℕ → ℕ → ℕ → List ℕ → List ℕ
line_of r p c body = ((codes "record " ++ (decimal r ++ (codes " byte " ++ (decimal p ++ (codes " " ++ encode c))))) ++ numbers_of body) ++ codes "\n"

abbrev pub lines_of : ℕ → ℕ → List Record → List ℕ
lines_of r p [] = []
lines_of r p (x ∷ xs) = line_of r p (letter (kind_of x)) (body_of x) ++ lines_of (r + 1) (p + length (written x)) xs

-- the end record's line and the outcome, which counts the end record too
abbrev pub ok_line : ℕ → ℕ → List ℕ
ok_line r p = line_of r p (letter Kind.End) [] ++ (codes "sheet ok records " ++ (decimal (r + 1) ++ codes "\n"))

-- xs stand at the front of the bytes
abbrev pub Front : List ℕ → List Record → Type 0
Front bytes xs = bytes ≡ written_all xs ++ drop (length (written_all xs)) bytes

pub record Whole (bytes text : List ℕ) : Type 0 where
  pub records : List Record
  pub system : System
  pub accepted : Accepted bytes records system
  pub is : text ≡ lines_of 0 0 records ++ ok_line (length records) (length (written_all records))

pub record Broken (bytes text : List ℕ) : Type 0 where
  pub records : List Record
  pub fault : Fault
  pub faulty : Faulty bytes records fault
  pub is : text ≡ lines_of 0 0 records ++ (text_of fault ++ codes "\n")

-- a line for each record that was read, and then what the bytes come to
abbrev pub Listed : List ℕ → List ℕ → Type 0
Listed bytes text = Whole bytes text ⊎ Broken bytes text
