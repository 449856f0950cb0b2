-- Values that are remembered while a list of values is worked out. Assumes nothing.
use Rattle.std.specs.Prelude.{◌≡◌, ℕ, Bool, true, false, cond, not, ◌&&◌, ◌||◌, List, map, Some, None, Option, nat_lt, slice_index_or}
use Rattle.sheet.specs.declared.syntax.Formula.{Formula}
use Rattle.sheet.specs.declared.truth.Given.{Given}
use Rattle.sheet.specs.Stored.{formula_in}
use Rattle.sheet.specs.Truth.{truths}

-- whatever is remembered is right
abbrev pub Remembers : {V : Type 0} → V → List V → List (Option V) → Type 0
Remembers d values known = (k : ℕ) (v : _) → slice_index_or known k None ≡ Some v → v ≡ slice_index_or values k d

-- value n, if n is below the given number
abbrev pub before : {V : Type 0} → V → List V → ℕ → ℕ → V
before d values n below = cond (nat_lt n below) (slice_index_or values n d) d

-- the formulas that a formula is made of, and its truth with and without them
abbrev pub operands_of : Formula → Option (ℕ × ℕ)
operands_of Formula.True = None
operands_of (Formula.Bit b) = None
operands_of (Formula.Question q) = None
operands_of (Formula.Claim c) = None
operands_of (Formula.Not a) = Some (a, a)
operands_of (Formula.And a b) = Some (a, b)
operands_of (Formula.Or a b) = Some (a, b)

abbrev pub connected : Formula → Bool → Bool → Bool
connected Formula.True x y = false
connected (Formula.Bit b) x y = false
connected (Formula.Question q) x y = false
connected (Formula.Claim c) x y = false
connected (Formula.Not a) x y = not x
connected (Formula.And a b) x y = x && y
connected (Formula.Or a b) x y = x || y

abbrev pub grounded : List Bool → List Bool → List Bool → Formula → Bool
grounded bits questions claims Formula.True = true
grounded bits questions claims (Formula.Bit b) = slice_index_or bits b false
grounded bits questions claims (Formula.Question q) = slice_index_or questions q false
grounded bits questions claims (Formula.Claim c) = slice_index_or claims c false
grounded bits questions claims (Formula.Not a) = false
grounded bits questions claims (Formula.And a b) = false
grounded bits questions claims (Formula.Or a b) = false

-- the truths of the formulas, from what they are built on
abbrev pub truths_from : Given → List Bool
truths_from g = truths g.bits.now g.questions.now g.claims.now (map formula_in g.formulas.now)
