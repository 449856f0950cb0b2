-- The bytes of a record: a letter, and a body whose length the letter fixes. Assumes nothing.
use Rattle.std.specs.Prelude.{ℕ, cond, List, [], ◌∷◌, ◌++◌}
use Rattle.sheet.specs.declared.syntax.Args.{Args}
use Rattle.sheet.specs.declared.syntax.Args.TheVariants.{Zero, One, Two, Three}
use Rattle.sheet.specs.declared.syntax.Choice.{Choice}
use Rattle.sheet.specs.declared.syntax.Formula.{Formula}
use Rattle.sheet.specs.declared.kind.Kind.{Kind}
use Rattle.sheet.specs.declared.syntax.Record.{Record}
use Rattle.sheet.specs.declared.syntax.Start.{Start}
use Rattle.sheet.specs.declared.syntax.Term.{Term}

-- the letters B F R I T Q C L K N M V H E
abbrev pub letter : Kind → ℕ
letter Kind.Bit = 66
letter Kind.Symbol = 70
letter Kind.Reading = 82
letter Kind.Input = 73
letter Kind.Term = 84
letter Kind.Question = 81
letter Kind.Claim = 67
letter Kind.Formula = 76
letter Kind.Choice = 75
letter Kind.NextBit = 78
letter Kind.NextReading = 77
letter Kind.Invariant = 86
letter Kind.Bound = 72
letter Kind.End = 69

abbrev pub body_length : Kind → ℕ
body_length Kind.Bit = 1
body_length Kind.Symbol = 1
body_length Kind.Reading = 2
body_length Kind.Input = 0
body_length Kind.Term = 5
body_length Kind.Question = 2
body_length Kind.Claim = 2
body_length Kind.Formula = 3
body_length Kind.Choice = 4
body_length Kind.NextBit = 2
body_length Kind.NextReading = 2
body_length Kind.Invariant = 1
body_length Kind.Bound = 1
body_length Kind.End = 0

abbrev pub kind_of : Record → Kind
kind_of (Record.Bit b) = Kind.Bit
kind_of (Record.Symbol a) = Kind.Symbol
kind_of (Record.Reading s) = Kind.Reading
kind_of Record.Input = Kind.Input
kind_of (Record.Term t) = Kind.Term
kind_of (Record.Question e) = Kind.Question
kind_of (Record.Claim e) = Kind.Claim
kind_of (Record.Formula f) = Kind.Formula
kind_of (Record.Choice k) = Kind.Choice
kind_of (Record.NextBit b f) = Kind.NextBit
kind_of (Record.NextReading r k) = Kind.NextReading
kind_of (Record.Invariant f) = Kind.Invariant
kind_of (Record.Bound h) = Kind.Bound

-- each with its way first, and 0 for the bytes that the way leaves unused
abbrev pub start_body : Start → List ℕ
start_body (Start.Name n) = 0 ∷ n ∷ []
start_body (Start.Constant c) = 1 ∷ c ∷ []

abbrev pub args_body : Args → List ℕ
args_body Zero = 0 ∷ 0 ∷ 0 ∷ []
args_body (One a) = a ∷ 0 ∷ 0 ∷ []
args_body (Two a b) = a ∷ b ∷ 0 ∷ []
args_body (Three a b c) = a ∷ b ∷ c ∷ []

abbrev pub term_body : Term → List ℕ
term_body (Term.Reading n) = 0 ∷ n ∷ 0 ∷ 0 ∷ 0 ∷ []
term_body (Term.Input n) = 1 ∷ n ∷ 0 ∷ 0 ∷ 0 ∷ []
term_body (Term.Apply f args) = 2 ∷ f ∷ args_body args

abbrev pub formula_body : Formula → List ℕ
formula_body Formula.True = 0 ∷ 0 ∷ 0 ∷ []
formula_body (Formula.Bit b) = 1 ∷ b ∷ 0 ∷ []
formula_body (Formula.Question q) = 2 ∷ q ∷ 0 ∷ []
formula_body (Formula.Claim c) = 3 ∷ c ∷ 0 ∷ []
formula_body (Formula.Not a) = 4 ∷ a ∷ 0 ∷ []
formula_body (Formula.And a b) = 5 ∷ a ∷ b ∷ []
formula_body (Formula.Or a b) = 6 ∷ a ∷ b ∷ []

abbrev pub choice_body : Choice → List ℕ
choice_body (Choice.Term t) = 0 ∷ t ∷ 0 ∷ 0 ∷ []
choice_body (Choice.If f a b) = 1 ∷ f ∷ a ∷ b ∷ []

abbrev pub body_of : Record → List ℕ
body_of (Record.Bit b) = cond b 1 0 ∷ []
body_of (Record.Symbol a) = a ∷ []
body_of (Record.Reading s) = start_body s
body_of Record.Input = []
body_of (Record.Term t) = term_body t
body_of (Record.Question e) = e.left ∷ e.right ∷ []
body_of (Record.Claim e) = e.left ∷ e.right ∷ []
body_of (Record.Formula f) = formula_body f
body_of (Record.Choice k) = choice_body k
body_of (Record.NextBit b f) = b ∷ f ∷ []
body_of (Record.NextReading r k) = r ∷ k ∷ []
body_of (Record.Invariant f) = f ∷ []
body_of (Record.Bound h) = h ∷ []

abbrev pub written : Record → List ℕ
written x = letter (kind_of x) ∷ body_of x

-- one record after another
abbrev pub written_all : List Record → List ℕ
written_all [] = []
written_all (x ∷ xs) = written x ++ written_all xs
