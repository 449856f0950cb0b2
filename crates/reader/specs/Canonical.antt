-- A sheet written out letter after letter: bits, symbols, readings, inputs, terms, questions, claims,
-- formulas, choices, next values, invariant, bound and end. Assumes nothing.
use Rattle.std.specs.Prelude.{ℕ, suc, List, [], ◌∷◌, ◌++◌, map, replicate, Some, None, Option}
use Rattle.sheet.specs.declared.kind.Kind.{Kind}
use Rattle.sheet.specs.declared.syntax.Bit.{Bit}
use Rattle.sheet.specs.declared.syntax.Choice.{Choice}
use Rattle.sheet.specs.declared.syntax.Equation.{Equation}
use Rattle.sheet.specs.declared.syntax.Formula.{Formula}
use Rattle.sheet.specs.declared.syntax.Reading.{Reading}
use Rattle.sheet.specs.declared.syntax.Record.{Record}
use Rattle.sheet.specs.declared.syntax.Term.{Term}
use Rattle.sheet.specs.Format.{letter, written_all}
use Rattle.sheet.specs.System.{System}

abbrev pub bit_record : Bit → Record
bit_record b = Record.Bit b.start

abbrev pub symbol_record : ℕ → Record
symbol_record a = Record.Symbol a

abbrev pub reading_record : Reading → Record
reading_record r = Record.Reading r.start

abbrev pub term_record : Term → Record
term_record t = Record.Term t

abbrev pub question_record : Equation → Record
question_record e = Record.Question e

abbrev pub claim_record : Equation → Record
claim_record e = Record.Claim e

abbrev pub formula_record : Formula → Record
formula_record f = Record.Formula f

abbrev pub choice_record : Choice → Record
choice_record k = Record.Choice k

abbrev pub given_record : (ℕ → Record) → Option ℕ → List Record
given_record mk None = []
given_record mk (Some n) = mk n ∷ []

-- the next values that are given, each with the number of what it is given to
abbrev pub next_records : {A : Type 0} → (A → Option ℕ) → (ℕ → ℕ → Record) → ℕ → List A → List Record
next_records next mk n [] = []
next_records next mk n (x ∷ xs) = given_record (mk n) (next x) ++ next_records next mk (suc n) xs

abbrev pub records_of : System → List Record
records_of s = map bit_record s.bits ++ (map symbol_record s.symbols ++ (map reading_record s.readings ++ (replicate s.inputs Record.Input ++ (map term_record s.terms ++ (map question_record s.questions ++ (map claim_record s.claims ++ (map formula_record s.formulas ++ (map choice_record s.choices ++ (next_records (λ b. b.next) (λ k f. Record.NextBit k f) 0 s.bits ++ (next_records (λ r. r.next) (λ k c. Record.NextReading k c) 0 s.readings ++ (given_record (λ f. Record.Invariant f) s.invariant ++ given_record (λ h. Record.Bound h) s.bound)))))))))))

abbrev pub written_out : System → List ℕ
written_out s = written_all (records_of s) ++ letter Kind.End ∷ []
