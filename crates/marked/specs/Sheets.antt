-- The sheet for one hopper, and the two that differ from it in one record: their bytes, and what they describe. Assumes nothing.
use Rattle.std.specs.Prelude.{ℕ, false, List, [], ◌∷◌, ◌++◌, Some, None, Option}
use Rattle.sheet.specs.declared.syntax.Args.{Args}
use Rattle.sheet.specs.declared.syntax.Choice.{Choice}
use Rattle.sheet.specs.declared.syntax.Formula.{Formula}
use Rattle.sheet.specs.declared.syntax.Start.{Start}
use Rattle.sheet.specs.declared.syntax.Term.{Term}
use Rattle.sheet.specs.System.{System}

-- F0 F1 B0 R00 R01 I
abbrev things : List ℕ
things = 70 ∷ 0 ∷ 70 ∷ 1 ∷ 66 ∷ 0 ∷ 82 ∷ 0 ∷ 0 ∷ 82 ∷ 0 ∷ 1 ∷ 73 ∷ []

-- T00000 T01000 T10000 T20000 T21000 Q23 C14
abbrev terms : List ℕ
terms =
    84 ∷ 0 ∷ 0 ∷ 0 ∷ 0 ∷ 0 ∷ 84 ∷ 0 ∷ 1 ∷ 0 ∷ 0 ∷ 0 ∷ 84 ∷ 1 ∷ 0 ∷ 0 ∷ 0 ∷ 0 ∷ 84 ∷ 2 ∷ 0 ∷ 0 ∷ 0 ∷ 0 ∷ 84 ∷ 2 ∷ 1 ∷ 0 ∷ 0 ∷ 0
    ∷ 81 ∷ 2 ∷ 3 ∷ 67 ∷ 1 ∷ 4 ∷ []

-- L100 L200 L601 L400 L300 L634
abbrev formulas : List ℕ
formulas = 76 ∷ 1 ∷ 0 ∷ 0 ∷ 76 ∷ 2 ∷ 0 ∷ 0 ∷ 76 ∷ 6 ∷ 0 ∷ 1 ∷ 76 ∷ 4 ∷ 0 ∷ 0 ∷ 76 ∷ 3 ∷ 0 ∷ 0 ∷ 76 ∷ 6 ∷ 3 ∷ 4 ∷ []

-- K0400 K0100 K1101 N02
abbrev choices : List ℕ
choices = 75 ∷ 0 ∷ 4 ∷ 0 ∷ 0 ∷ 75 ∷ 0 ∷ 1 ∷ 0 ∷ 0 ∷ 75 ∷ 1 ∷ 1 ∷ 0 ∷ 1 ∷ 78 ∷ 0 ∷ 2 ∷ []

abbrev pub front_bytes : List ℕ
front_bytes = things ++ (terms ++ (formulas ++ choices))

-- front, M12 V5 H1 E: the sheet of 99 bytes
abbrev pub hopper_bytes : List ℕ
hopper_bytes = front_bytes ++ (77 ∷ 1 ∷ 2 ∷ 86 ∷ 5 ∷ 72 ∷ 1 ∷ 69 ∷ [])

-- front, M12 V5 H0 E: with the height bound 0
abbrev pub bound_0_bytes : List ℕ
bound_0_bytes = front_bytes ++ (77 ∷ 1 ∷ 2 ∷ 86 ∷ 5 ∷ 72 ∷ 0 ∷ 69 ∷ [])

-- front, V5 H1 E: without M
abbrev pub without_m_bytes : List ℕ
without_m_bytes = front_bytes ++ (86 ∷ 5 ∷ 72 ∷ 1 ∷ 69 ∷ [])

-- Symbol 0 is a constant, symbol 1 has one argument. The bit is raised for good by an input equal to the constant; while it is
-- raised, reading 1 has to be symbol 1 of reading 0. `next` is the choice, if any, that gives reading 1 its next value.
abbrev pub sheet_with : Option ℕ → ℕ → System
sheet_with next bound =
    record {
      bits = record { start = false; next = Some 2 } ∷ [];
      symbols = 0 ∷ 1 ∷ [];
      readings = record { start = Start.Name 0; next = None } ∷ record { start = Start.Name 1; next = next } ∷ [];
      inputs = 1;
      terms = Term.Reading 0 ∷ Term.Reading 1 ∷ Term.Input 0 ∷ Term.Apply 0 Args.Zero ∷ Term.Apply 1 (Args.One 0) ∷ [];
      questions = record { left = 2; right = 3 } ∷ [];
      claims = record { left = 1; right = 4 } ∷ [];
      formulas = Formula.Bit 0 ∷ Formula.Question 0 ∷ Formula.Or 0 1 ∷ Formula.Not 0 ∷ Formula.Claim 0 ∷ Formula.Or 3 4 ∷ [];
      choices = Choice.Term 4 ∷ Choice.Term 1 ∷ Choice.If 1 0 1 ∷ [];
      invariant = Some 5;
      bound = Some bound;
    }

-- the sheet
abbrev pub hopper : System
hopper = sheet_with (Some 2) 1

-- the same with the height bound 0
abbrev pub hopper_bound_0 : System
hopper_bound_0 = sheet_with (Some 2) 0

-- the same without M: reading 1 keeps its value
abbrev pub hopper_without_m : System
hopper_without_m = sheet_with None 1
