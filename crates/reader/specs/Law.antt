-- What the reader is for: bytes are accepted exactly when they are the records of a lawful sheet, in a
-- lawful order, and the end record. Assumes nothing.
use Rattle.std.specs.Prelude.{◌≡◌, ℕ, true, List, [], ◌∷◌, ◌++◌}
use Rattle.fault.specs.declared.Failure.{Failure}
use Rattle.fault.specs.declared.Fault.{Fault}
use Rattle.sheet.specs.declared.kind.Kind.{Kind}
use Rattle.sheet.specs.declared.syntax.Record.{Record}
use Rattle.sheet.specs.Format.{letter, kind_of, written_all}
use Rattle.sheet.specs.Lawful.{Lawful}
use Rattle.sheet.specs.Rules.{names, count, fresh}
use Rattle.sheet.specs.System.{System, nothing, add, describe}
use Rattle.reader.specs.Outcome.{Faulty, complete}

-- each record names only what earlier records wrote, and gives nothing that an earlier one gave
abbrev pub InOrder : System → List Record → Type 0
InOrder s [] = Unit {0}
InOrder s (x ∷ xs) = (names s (count s (kind_of x)) x ≡ true) × (fresh s x ≡ true) × InOrder (add s x) xs

-- the bytes are the records of s, in a lawful order, and the end record
pub record WrittenAs (bytes : List ℕ) (s : System) : Type 0 where
  pub records : List Record
  pub is : bytes ≡ written_all records ++ letter Kind.End ∷ []
  pub order : InOrder nothing records
  pub describes : describe records ≡ s

-- s is a whole lawful sheet, and the bytes are its records
pub record Describe (bytes : List ℕ) (s : System) : Type 0 where
  pub lawful : Lawful s
  pub whole : complete s ≡ true
  pub written : WrittenAs bytes s

-- s is the one sheet that the bytes describe
pub record ReadAs (bytes : List ℕ) (s : System) : Type 0 where
  pub describe : Describe bytes s
  pub only : (t : System) → Describe bytes t → t ≡ s

-- the bytes describe no sheet, and f is the one first fault that they have
pub record RefusedBy (bytes : List ℕ) (f : Fault) : Type 0 where
  pub none : (s : System) → Describe bytes s → ⊥
  pub only : (xs : List Record) (g : Fault) → Faulty bytes xs g → g ≡ f

abbrev pub Refused : List ℕ → Failure → Type 0
Refused bytes (Failure.Fault f) = RefusedBy bytes f
Refused bytes Failure.Memory = Unit {0}
