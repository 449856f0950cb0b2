-- The rules that a record obeys after those before it. Assumes nothing.
use Rattle.std.specs.Prelude.{ℕ, ◌+◌, max, Bool, true, false, not, ◌&&◌, ◌||◌, List, [], length, get_or, is_some, Some, None, Option, ◌==◌, nat_lt, slice_index, slice_index_or}
use Rattle.sheet.specs.declared.syntax.Args.{Args}
use Rattle.sheet.specs.declared.syntax.Args.TheVariants.{Zero, One, Two, Three}
use Rattle.sheet.specs.declared.syntax.Choice.{Choice}
use Rattle.sheet.specs.declared.syntax.Formula.{Formula}
use Rattle.sheet.specs.declared.syntax.FormulaInfo.{FormulaInfo}
use Rattle.sheet.specs.declared.kind.Kind.{Kind}
use Rattle.sheet.specs.declared.syntax.Record.{Record}
use Rattle.sheet.specs.declared.syntax.Start.{Start}
use Rattle.sheet.specs.declared.syntax.Term.{Term}
use Rattle.sheet.specs.declared.syntax.TermInfo.{TermInfo}
use Rattle.sheet.specs.Format.{kind_of}
use Rattle.sheet.specs.Grow.{grow}
use Rattle.sheet.specs.System.{System, no_bit, no_reading}

-- A term's height, and whether an input stands in it, from those of the terms before it. A reading, an
-- input and a constant are 0 high, any other term one higher than its highest argument.
abbrev pub no_info : TermInfo
no_info = record { height = 0; has_input = false }

abbrev pub height_at : List TermInfo → ℕ → ℕ
height_at seen n = (get_or seen n no_info).height

abbrev pub input_at : List TermInfo → ℕ → Bool
input_at seen n = (get_or seen n no_info).has_input

abbrev pub args_info : List TermInfo → Args → TermInfo
args_info seen Zero = no_info
args_info seen (One a) = record { height = height_at seen a + 1; has_input = input_at seen a }
args_info seen (Two a b) = record { height = max (height_at seen a) (height_at seen b) + 1; has_input = input_at seen a || input_at seen b }
args_info seen (Three a b c) = record { height = max (height_at seen a) (max (height_at seen b) (height_at seen c)) + 1; has_input = input_at seen a || (input_at seen b || input_at seen c) }

abbrev pub term_info : List TermInfo → Term → TermInfo
term_info seen (Term.Reading n) = no_info
term_info seen (Term.Input n) = record { height = 0; has_input = true }
term_info seen (Term.Apply f args) = args_info seen args

abbrev pub term_infos : List Term → List TermInfo
term_infos terms = grow term_info [] terms

-- whether a question and whether a claim stands in a formula, from the formulas before it
abbrev pub plain : FormulaInfo
plain = record { has_question = false; has_claim = false }

abbrev pub both : FormulaInfo → FormulaInfo → FormulaInfo
both x y = record { has_question = x.has_question || y.has_question; has_claim = x.has_claim || y.has_claim }

abbrev pub formula_info : List FormulaInfo → Formula → FormulaInfo
formula_info seen Formula.True = plain
formula_info seen (Formula.Bit b) = plain
formula_info seen (Formula.Question q) = record { has_question = true; has_claim = false }
formula_info seen (Formula.Claim c) = record { has_question = false; has_claim = true }
formula_info seen (Formula.Not a) = slice_index_or seen a plain
formula_info seen (Formula.And a b) = both (slice_index_or seen a plain) (slice_index_or seen b plain)
formula_info seen (Formula.Or a b) = both (slice_index_or seen a plain) (slice_index_or seen b plain)

abbrev pub formula_infos : List Formula → List FormulaInfo
formula_infos formulas = grow formula_info [] formulas

-- the most of each letter; what is given once for each thing needs no number of its own
abbrev pub most : Kind → Option ℕ
most Kind.Bit = Some 16
most Kind.Symbol = Some 32
most Kind.Reading = Some 6
most Kind.Input = Some 4
most Kind.Term = Some 64
most Kind.Question = Some 6
most Kind.Claim = Some 4
most Kind.Formula = Some 64
most Kind.Choice = Some 64
most Kind.NextBit = None
most Kind.NextReading = None
most Kind.Invariant = None
most Kind.Bound = None
most Kind.End = None

-- how many things of this letter there are; next values, the invariant and the bound are no things of their own
abbrev pub count : System → Kind → ℕ
count s Kind.Bit = length s.bits
count s Kind.Symbol = length s.symbols
count s Kind.Reading = length s.readings
count s Kind.Input = s.inputs
count s Kind.Term = length s.terms
count s Kind.Question = length s.questions
count s Kind.Claim = length s.claims
count s Kind.Formula = length s.formulas
count s Kind.Choice = length s.choices
count s Kind.NextBit = 0
count s Kind.NextReading = 0
count s Kind.Invariant = 0
count s Kind.Bound = 0
count s Kind.End = 0

abbrev pub below : ℕ → Option ℕ → Bool
below n None = true
below n (Some m) = nat_lt n m

-- there may be one more of this letter
abbrev pub room : System → Kind → Bool
room s k = below (count s k) (most k)

abbrev pub args_below : ℕ → Args → Bool
args_below n Zero = true
args_below n (One a) = nat_lt a n
args_below n (Two a b) = nat_lt a n && nat_lt b n
args_below n (Three a b c) = nat_lt a n && (nat_lt b n && nat_lt c n)

-- The record, the n-th of its letter, names only things that s has, and of its own letter only
-- earlier ones.
abbrev pub names : System → ℕ → Record → Bool
names s n (Record.Bit b) = true
names s n (Record.Symbol a) = true
names s n (Record.Reading (Start.Name v)) = true
names s n (Record.Reading (Start.Constant c)) = nat_lt c (length s.symbols)
names s n Record.Input = true
names s n (Record.Term (Term.Reading r)) = nat_lt r (length s.readings)
names s n (Record.Term (Term.Input i)) = nat_lt i s.inputs
names s n (Record.Term (Term.Apply f args)) = nat_lt f (length s.symbols) && args_below n args
names s n (Record.Question e) = nat_lt e.left (length s.terms) && nat_lt e.right (length s.terms)
names s n (Record.Claim e) = nat_lt e.left (length s.terms) && nat_lt e.right (length s.terms)
names s n (Record.Formula Formula.True) = true
names s n (Record.Formula (Formula.Bit b)) = nat_lt b (length s.bits)
names s n (Record.Formula (Formula.Question q)) = nat_lt q (length s.questions)
names s n (Record.Formula (Formula.Claim c)) = nat_lt c (length s.claims)
names s n (Record.Formula (Formula.Not a)) = nat_lt a n
names s n (Record.Formula (Formula.And a b)) = nat_lt a n && nat_lt b n
names s n (Record.Formula (Formula.Or a b)) = nat_lt a n && nat_lt b n
names s n (Record.Choice (Choice.Term t)) = nat_lt t (length s.terms)
names s n (Record.Choice (Choice.If f a b)) = nat_lt f (length s.formulas) && (nat_lt a n && nat_lt b n)
names s n (Record.NextBit b f) = nat_lt b (length s.bits) && nat_lt f (length s.formulas)
names s n (Record.NextReading r k) = nat_lt r (length s.readings) && nat_lt k (length s.choices)
names s n (Record.Invariant f) = nat_lt f (length s.formulas)
names s n (Record.Bound h) = true

abbrev pub arg_count : Args → ℕ
arg_count Zero = 0
arg_count (One a) = 1
arg_count (Two a b) = 2
arg_count (Three a b c) = 3

abbrev pub contains_input : System → ℕ → Bool
contains_input s t = input_at (term_infos s.terms) t

abbrev pub contains_question : System → ℕ → Bool
contains_question s f = (get_or (formula_infos s.formulas) f plain).has_question

abbrev pub contains_claim : System → ℕ → Bool
contains_claim s f = (get_or (formula_infos s.formulas) f plain).has_claim

-- The rest of the rules. There are 8 start values; a start constant has no arguments; a symbol has at
-- most 3, and a term gives it that many; a term is at most 4 high; no input stands in a claim, no claim
-- in a formula of a next value or a choice, and no question in the invariant; the bound is at most 4.
abbrev pub keeps : System → Record → Bool
keeps s (Record.Bit b) = true
keeps s (Record.Symbol a) = nat_lt a 4
keeps s (Record.Reading (Start.Name v)) = nat_lt v 8
keeps s (Record.Reading (Start.Constant c)) = slice_index s.symbols c == 0
keeps s Record.Input = true
keeps s (Record.Term (Term.Reading r)) = true
keeps s (Record.Term (Term.Input i)) = true
keeps s (Record.Term (Term.Apply f args)) = slice_index s.symbols f == arg_count args && nat_lt (args_info (term_infos s.terms) args).height 5
keeps s (Record.Question e) = true
keeps s (Record.Claim e) = not (contains_input s e.left) && not (contains_input s e.right)
keeps s (Record.Formula f) = true
keeps s (Record.Choice (Choice.Term t)) = true
keeps s (Record.Choice (Choice.If f a b)) = not (contains_claim s f)
keeps s (Record.NextBit b f) = not (contains_claim s f)
keeps s (Record.NextReading r k) = true
keeps s (Record.Invariant f) = not (contains_question s f)
keeps s (Record.Bound h) = nat_lt h 5

abbrev pub obeys_at : System → ℕ → Record → Bool
obeys_at s n x = names s n x && keeps s x

abbrev pub obeys : System → Record → Bool
obeys s x = obeys_at s (count s (kind_of x)) x

-- nothing that the record gives has been given before
abbrev pub fresh : System → Record → Bool
fresh s (Record.Bit b) = true
fresh s (Record.Symbol a) = true
fresh s (Record.Reading w) = true
fresh s Record.Input = true
fresh s (Record.Term t) = true
fresh s (Record.Question e) = true
fresh s (Record.Claim e) = true
fresh s (Record.Formula f) = true
fresh s (Record.Choice k) = true
fresh s (Record.NextBit b f) = not (is_some (get_or s.bits b no_bit).next)
fresh s (Record.NextReading r k) = not (is_some (get_or s.readings r no_reading).next)
fresh s (Record.Invariant f) = not (is_some s.invariant)
fresh s (Record.Bound h) = not (is_some s.bound)
