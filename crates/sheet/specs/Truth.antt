-- The values of a sheet's terms, the truth of its formulas and the terms that its choices come to, under
-- one meaning of the symbols. Each is a list by number, built front to back. Assumes nothing.
use Rattle.std.specs.Prelude.{ℕ, Bool, true, false, cond, not, ◌&&◌, ◌||◌, List, [], ◌∷◌, map, ◌==◌, slice_index, slice_index_or}
use Rattle.sheet.specs.declared.syntax.Args.{Args}
use Rattle.sheet.specs.declared.syntax.Args.TheVariants.{Zero, One, Two, Three}
use Rattle.sheet.specs.declared.syntax.Choice.{Choice}
use Rattle.sheet.specs.declared.syntax.Equation.{Equation}
use Rattle.sheet.specs.declared.syntax.Formula.{Formula}
use Rattle.sheet.specs.declared.syntax.Term.{Term}
use Rattle.sheet.specs.Grow.{grow}

-- what a plant model means: for each symbol and each list of at most three values, one value
abbrev pub Meaning : Type 0
Meaning = ℕ → List ℕ → ℕ

abbrev pub arg_values : List ℕ → Args → List ℕ
arg_values seen Zero = []
arg_values seen (One a) = slice_index seen a ∷ []
arg_values seen (Two a b) = slice_index seen a ∷ slice_index seen b ∷ []
arg_values seen (Three a b c) = slice_index seen a ∷ slice_index seen b ∷ slice_index seen c ∷ []

-- seen are the values of the terms before this one
abbrev pub term_value : Meaning → List ℕ → List ℕ → List ℕ → Term → ℕ
term_value m readings inputs seen (Term.Reading r) = slice_index readings r
term_value m readings inputs seen (Term.Input i) = slice_index inputs i
term_value m readings inputs seen (Term.Apply f args) = m f (arg_values seen args)

abbrev pub term_values : Meaning → List ℕ → List ℕ → List Term → List ℕ
term_values m readings inputs terms = grow (term_value m readings inputs) [] terms

-- whether the two terms of a question or a claim are equal
abbrev pub equal : List ℕ → Equation → Bool
equal values e = slice_index values e.left == slice_index values e.right

abbrev pub answers : List ℕ → List Equation → List Bool
answers values es = map (equal values) es

-- one case for each way of a formula; seen are the truths of the formulas before this one
abbrev pub truth_of : List Bool → List Bool → List Bool → List Bool → Formula → Bool
truth_of bits questions claims seen Formula.True = true
truth_of bits questions claims seen (Formula.Bit b) = slice_index_or bits b false
truth_of bits questions claims seen (Formula.Question q) = slice_index_or questions q false
truth_of bits questions claims seen (Formula.Claim c) = slice_index_or claims c false
truth_of bits questions claims seen (Formula.Not a) = not (slice_index_or seen a false)
truth_of bits questions claims seen (Formula.And a b) = slice_index_or seen a false && slice_index_or seen b false
truth_of bits questions claims seen (Formula.Or a b) = slice_index_or seen a false || slice_index_or seen b false

abbrev pub truths : List Bool → List Bool → List Bool → List Formula → List Bool
truths bits questions claims formulas = grow (truth_of bits questions claims) [] formulas

-- the term that a choice comes to; truth gives the truth of each formula
abbrev pub term_of_choice : (ℕ → Bool) → List ℕ → Choice → ℕ
term_of_choice truth seen (Choice.Term t) = t
term_of_choice truth seen (Choice.If f a b) = cond (truth f) (slice_index seen a) (slice_index seen b)

abbrev pub chosen : (ℕ → Bool) → List Choice → List ℕ
chosen truth choices = grow (term_of_choice truth) [] choices
