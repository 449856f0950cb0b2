-- A sheet as a transition system, and what each record adds to it. Assumes nothing.
use Rattle.std.specs.Prelude.{ℕ, ◌+◌, Bool, List, [], ◌∷◌, ◌++◌, Some, None, Option, slice_index_or, slice_set}
use Rattle.sheet.specs.declared.syntax.Bit.{Bit}
use Rattle.sheet.specs.declared.syntax.Choice.{Choice}
use Rattle.sheet.specs.declared.syntax.Equation.{Equation}
use Rattle.sheet.specs.declared.syntax.Formula.{Formula}
use Rattle.sheet.specs.declared.syntax.Reading.{Reading}
use Rattle.sheet.specs.declared.syntax.Record.{Record}
use Rattle.sheet.specs.declared.syntax.Start.{Start}
use Rattle.sheet.specs.declared.syntax.Term.{Term}

-- the things of each letter by number; symbols by their arities, inputs by how many there are
pub record System : Type 0 where
  pub bits : List Bit
  pub symbols : List ℕ
  pub readings : List Reading
  pub inputs : ℕ
  pub terms : List Term
  pub questions : List Equation
  pub claims : List Equation
  pub formulas : List Formula
  pub choices : List Choice
  pub invariant : Option ℕ
  pub bound : Option ℕ

abbrev pub nothing : System
nothing = record { bits = []; symbols = []; readings = []; inputs = 0; terms = []; questions = []; claims = []; formulas = []; choices = []; invariant = None; bound = None }

-- true, as the invariant, and the height bound 0
abbrev pub smallest : System
smallest = record { bits = []; symbols = []; readings = []; inputs = 0; terms = []; questions = []; claims = []; formulas = Formula.True ∷ []; choices = []; invariant = Some 0; bound = Some 0 }

-- past the end
abbrev pub no_bit : Bit
no_bit = record { start = Bool.false; next = None }

abbrev pub no_reading : Reading
no_reading = record { start = Start.Name 0; next = None }

-- bit b, from now on with the formula f for its next value
abbrev pub bit_to : ℕ → List Bit → ℕ → List Bit
bit_to b bits f = slice_set bits b (record { start = (slice_index_or bits b no_bit).start; next = Some f })

abbrev pub reading_to : ℕ → List Reading → ℕ → List Reading
reading_to r readings k = slice_set readings r (record { start = (slice_index_or readings r no_reading).start; next = Some k })

-- s with one part replaced
abbrev with_bits : System → List Bit → System
with_bits s x = record { bits = x; symbols = s.symbols; readings = s.readings; inputs = s.inputs; terms = s.terms; questions = s.questions; claims = s.claims; formulas = s.formulas; choices = s.choices; invariant = s.invariant; bound = s.bound }

abbrev with_symbols : System → List ℕ → System
with_symbols s x = record { bits = s.bits; symbols = x; readings = s.readings; inputs = s.inputs; terms = s.terms; questions = s.questions; claims = s.claims; formulas = s.formulas; choices = s.choices; invariant = s.invariant; bound = s.bound }

abbrev with_readings : System → List Reading → System
with_readings s x = record { bits = s.bits; symbols = s.symbols; readings = x; inputs = s.inputs; terms = s.terms; questions = s.questions; claims = s.claims; formulas = s.formulas; choices = s.choices; invariant = s.invariant; bound = s.bound }

abbrev with_inputs : System → ℕ → System
with_inputs s x = record { bits = s.bits; symbols = s.symbols; readings = s.readings; inputs = x; terms = s.terms; questions = s.questions; claims = s.claims; formulas = s.formulas; choices = s.choices; invariant = s.invariant; bound = s.bound }

abbrev with_terms : System → List Term → System
with_terms s x = record { bits = s.bits; symbols = s.symbols; readings = s.readings; inputs = s.inputs; terms = x; questions = s.questions; claims = s.claims; formulas = s.formulas; choices = s.choices; invariant = s.invariant; bound = s.bound }

abbrev with_questions : System → List Equation → System
with_questions s x = record { bits = s.bits; symbols = s.symbols; readings = s.readings; inputs = s.inputs; terms = s.terms; questions = x; claims = s.claims; formulas = s.formulas; choices = s.choices; invariant = s.invariant; bound = s.bound }

abbrev with_claims : System → List Equation → System
with_claims s x = record { bits = s.bits; symbols = s.symbols; readings = s.readings; inputs = s.inputs; terms = s.terms; questions = s.questions; claims = x; formulas = s.formulas; choices = s.choices; invariant = s.invariant; bound = s.bound }

abbrev with_formulas : System → List Formula → System
with_formulas s x = record { bits = s.bits; symbols = s.symbols; readings = s.readings; inputs = s.inputs; terms = s.terms; questions = s.questions; claims = s.claims; formulas = x; choices = s.choices; invariant = s.invariant; bound = s.bound }

abbrev with_choices : System → List Choice → System
with_choices s x = record { bits = s.bits; symbols = s.symbols; readings = s.readings; inputs = s.inputs; terms = s.terms; questions = s.questions; claims = s.claims; formulas = s.formulas; choices = x; invariant = s.invariant; bound = s.bound }

abbrev with_invariant : System → Option ℕ → System
with_invariant s x = record { bits = s.bits; symbols = s.symbols; readings = s.readings; inputs = s.inputs; terms = s.terms; questions = s.questions; claims = s.claims; formulas = s.formulas; choices = s.choices; invariant = x; bound = s.bound }

abbrev with_bound : System → Option ℕ → System
with_bound s x = record { bits = s.bits; symbols = s.symbols; readings = s.readings; inputs = s.inputs; terms = s.terms; questions = s.questions; claims = s.claims; formulas = s.formulas; choices = s.choices; invariant = s.invariant; bound = x }

-- what a record adds to what earlier ones described: one more thing of its letter, or what is given once
abbrev pub add : System → Record → System
add s (Record.Bit b) = with_bits s (s.bits ++ record { start = b; next = None } ∷ [])
add s (Record.Symbol a) = with_symbols s (s.symbols ++ a ∷ [])
add s (Record.Reading w) = with_readings s (s.readings ++ record { start = w; next = None } ∷ [])
add s Record.Input = with_inputs s (s.inputs + 1)
add s (Record.Term t) = with_terms s (s.terms ++ t ∷ [])
add s (Record.Question e) = with_questions s (s.questions ++ e ∷ [])
add s (Record.Claim e) = with_claims s (s.claims ++ e ∷ [])
add s (Record.Formula f) = with_formulas s (s.formulas ++ f ∷ [])
add s (Record.Choice k) = with_choices s (s.choices ++ k ∷ [])
add s (Record.NextBit b f) = with_bits s (bit_to b s.bits f)
add s (Record.NextReading r k) = with_readings s (reading_to r s.readings k)
add s (Record.Invariant f) = with_invariant s (Some f)
add s (Record.Bound h) = with_bound s (Some h)

-- the system that records describe, over what earlier ones described
abbrev pub gather : System → List Record → System
gather s [] = s
gather s (x ∷ xs) = gather (add s x) xs

abbrev pub describe : List Record → System
describe xs = gather nothing xs
