-- The marked cases, as one list. Assumes nothing.
use Rattle.std.specs.Prelude.{◌≡◌, ℕ, List, [], ◌∷◌, length, Some, None, Option}
use Rattle.bench.specs.Outcome.{Accepted}
use Rattle.forms.specs.Examples.{row_of, tall}
use Rattle.forms.specs.Form.{Form}
use Rattle.forms.specs.Matching.{Takes}
use Rattle.forms.specs.Rows.{Row}
use Rattle.plant.specs.Listed.{listed}
use Rattle.reader.specs.Law.{ReadAs}
use Rattle.sheet.specs.Runs.{FirstBreak}
use Rattle.terms.specs.declared.Sign.TheVariants.{Equal, Different}
use Rattle.terms.specs.Terms.{name, unary, binary, height, Literal, Sat}
use Rattle.marked.specs.Sheets.{hopper_bytes, bound_0_bytes, without_m_bytes, hopper, hopper_bound_0, hopper_without_m}
use Rattle.marked.specs.Works.{Holding, Unknown}
use Rattle.marked.specs.Printed.{PrintedLines}

-- the starts 5, 7, then zeros
abbrev pub starts : List ℕ
starts = 5 ∷ 7 ∷ 0 ∷ 0 ∷ 0 ∷ 0 ∷ 0 ∷ 0 ∷ []

-- what the bench answers to one step of the sheet without M with the input 0, over the listed model of no entries
abbrev pub StepAnswers : ℕ → Option ℕ → Type 0
StepAnswers default answer = FirstBreak (listed default []) hopper_without_m starts (0 ∷ []) 1 answer

-- With the default 0 configuration 1 is the first to break the invariant, and with 7 none is; nothing else is answered.
pub record BenchCases : Type 0 where
  pub accepted : Accepted hopper_without_m starts (0 ∷ []) 1
  pub breaks : StepAnswers 0 (Some 1)
  pub breaks_only : (answer : Option ℕ) → StepAnswers 0 answer → answer ≡ Some 1
  pub none : StepAnswers 7 None
  pub none_only : (answer : Option ℕ) → StepAnswers 7 answer → answer ≡ None

-- g(g(x1,f(x2)),f(x1)) is 3 high; its form at height 1 is g(x2,x0), and it has no other there
pub record CutCase : Type 0 where
  pub high : height tall ≡ 3
  pub cut : Form 1 (row_of (tall ∷ [])) (Some (row_of (binary 1 (name 2) (name 0) ∷ [])))
  pub only : (form : Option Row) → Form 1 (row_of (tall ∷ [])) form → form ≡ Some (row_of (binary 1 (name 2) (name 0) ∷ []))

-- x0 = x1 or x0 ≠ x1, and the same of f(x0) and f(x1), with f as symbol 0
abbrev pub equal : Literal
equal = record { left = name 0; right = name 1; sign = Equal }

abbrev pub different : Literal
different = record { left = name 0; right = name 1; sign = Different }

abbrev pub images_equal : Literal
images_equal = record { left = unary 0 (name 0); right = unary 0 (name 1); sign = Equal }

abbrev pub images_different : Literal
images_different = record { left = unary 0 (name 0); right = unary 0 (name 1); sign = Different }

-- equal values have equal images; different values may have the same
pub record ConditionCases : Type 0 where
  pub impossible : Sat (equal ∷ images_different ∷ []) → ⊥
  pub possible : Sat (different ∷ images_equal ∷ [])

-- an older row (x0,x0) doesn't take (x0,x1); an older row (x0,x1) takes (x3,x3)
pub record MergeCases : Type 0 where
  pub parts : Takes (row_of (name 0 ∷ name 0 ∷ [])) (row_of (name 0 ∷ name 1 ∷ [])) → ⊥
  pub joins : Takes (row_of (name 0 ∷ name 1 ∷ [])) (row_of (name 3 ∷ name 3 ∷ []))

pub record MarkedCases : Type 0 where
  -- the three sheets are what their bytes describe
  pub long : length hopper_bytes ≡ 99
  pub hopper_read : ReadAs hopper_bytes hopper
  pub bound_0_read : ReadAs bound_0_bytes hopper_bound_0
  pub without_m_read : ReadAs without_m_bytes hopper_without_m
  -- worked through, the sheet holds with 2 rows, 1 kept, 3 merged and none struck
  pub holds : Holding hopper
  -- with the height bound 0, and without M, it is unknown at row 0, branch 1
  pub bound_0_unknown : Unknown hopper_bound_0 0
  pub without_m_unknown : Unknown hopper_without_m 1
  -- what is printed of their bytes
  pub lines : PrintedLines
  -- runs, a cut, conditions and merges
  pub runs : BenchCases
  pub cuts : CutCase
  pub conditions : ConditionCases
  pub merges : MergeCases
