-- The candidate of a row on a branch: what a step makes of the row where the questions have the branch's
-- answers. Assumes nothing.
use Rattle.std.specs.Prelude.{ℕ, zero, suc, ◌/◌, ◌%◌, Bool, true, false, ◌||◌, List, [], ◌∷◌, ◌++◌, length, get_or, Some, None, Option, ◌==◌, slice_index, slice_index_or}
use Rattle.sheet.specs.declared.syntax.Args.{Args}
use Rattle.sheet.specs.declared.syntax.Args.TheVariants.{Zero, One, Two, Three}
use Rattle.sheet.specs.declared.syntax.Bit.{Bit}
use Rattle.sheet.specs.declared.syntax.Equation.{Equation}
use Rattle.sheet.specs.declared.syntax.Reading.{Reading}
use Rattle.sheet.specs.declared.syntax.Term.{Term as SheetTerm}
use Rattle.sheet.specs.Grow.{grow}
use Rattle.sheet.specs.Runs.{numbered, or_kept}
use Rattle.sheet.specs.System.{System}
use Rattle.sheet.specs.Truth.{truths, chosen}
use Rattle.terms.specs.declared.Sign.{Sign}
use Rattle.terms.specs.declared.Sign.TheVariants.{Equal, Different}
use Rattle.terms.specs.Terms.{Term, name, constant, unary, binary, ternary, Literal}
use Rattle.forms.specs.Rows.{Row, stands, lowest_free}

-- A branch is a number; its bit i is 1 where question i is true. These are the answers to k questions.
abbrev pub branch_answers : ℕ → ℕ → List Bool
branch_answers zero b = []
branch_answers (suc k) b = (b % 2 == 1) ∷ branch_answers k (b / 2)

-- the lowest names for n inputs, in order, each one taken from then on
abbrev pub or_none : {A B : Type 0} → Option A → (A → Option B) → Option B
or_none None f = None
or_none (Some x) f = f x

abbrev pub names_for : ℕ → (ℕ → Bool) → Option (List ℕ)
names_for zero taken = Some []
names_for (suc n) taken = or_none (lowest_free taken) (λ x. or_none (names_for n (λ y. (y == x) || taken y)) (λ xs. Some (x ∷ xs)))

abbrev pub input_names : System → Row → Option (List ℕ)
input_names s row = names_for s.inputs (stands row)

-- past the end
abbrev pub no_term : Term
no_term = name 0

-- the sheet's terms over a row's vector and the inputs' names; seen are those before this one
abbrev pub applied : List Term → ℕ → Args → Term
applied seen f Zero = constant f
applied seen f (One a) = unary f (slice_index_or seen a no_term)
applied seen f (Two a b) = binary f (slice_index_or seen a no_term) (slice_index_or seen b no_term)
applied seen f (Three a b c) = ternary f (slice_index_or seen a no_term) (slice_index_or seen b no_term) (slice_index_or seen c no_term)

abbrev pub term_over : List Term → List ℕ → List Term → SheetTerm → Term
term_over vector inputs seen (SheetTerm.Reading r) = slice_index_or vector r no_term
term_over vector inputs seen (SheetTerm.Input i) = name (slice_index inputs i)
term_over vector inputs seen (SheetTerm.Apply f args) = applied seen f args

abbrev pub terms_over : List Term → List ℕ → List SheetTerm → List Term
terms_over vector inputs terms = grow (term_over vector inputs) [] terms

-- an equation with its answer, as a condition
abbrev pub sign_of : Bool → Sign
sign_of true = Equal
sign_of false = Different

abbrev pub condition_of : List Term → List Bool → ℕ → Equation → Literal
condition_of terms answers n e = record { left = slice_index_or terms e.left no_term; right = slice_index_or terms e.right no_term; sign = sign_of (slice_index_or answers n false) }

-- All next values come from the old row. The questions' conditions stand before the row's own.
module _ (s : System) (row : Row) (inputs : List ℕ) (answers : List Bool) where
  abbrev pub row_terms : List Term
  row_terms = terms_over row.vector inputs s.terms

  abbrev pub row_truths : List Bool
  row_truths = truths row.bits answers [] s.formulas

  abbrev pub row_chosen : List ℕ
  row_chosen = chosen (λ f. get_or row_truths f false) s.choices

  abbrev pub next_bit_of : ℕ → Bit → Bool
  next_bit_of n b = or_kept (λ f. get_or row_truths f false) (slice_index_or row.bits n false) b.next

  abbrev pub next_term_of : ℕ → Reading → Term
  next_term_of n r = or_kept (λ k. get_or row_terms (slice_index row_chosen k) no_term) (slice_index_or row.vector n no_term) r.next

  abbrev pub candidate_with : Row
  candidate_with = record { bits = numbered next_bit_of 0 s.bits; vector = numbered next_term_of 0 s.readings; conditions = numbered (condition_of row_terms answers) 0 s.questions ++ row.conditions }

-- the candidate of a row on a branch, or none for want of names
abbrev pub candidate : System → Row → ℕ → Option Row
candidate s row branch = or_none (input_names s row) (λ inputs. Some (candidate_with s row inputs (branch_answers (length s.questions) branch)))
