-- Rows: symbolic states over names, and the configurations that they cover. Assumes nothing.
use Rattle.std.specs.Prelude.{◌≡◌, ℕ, zero, suc, Bool, false, cond, ◌||◌, List, [], ◌∷◌, map, length, Some, None, Option}
use Rattle.std.specs.List.{AllByRecursion}
use Rattle.plant.specs.Plant.{SameAnswers}
use Rattle.sheet.specs.declared.syntax.Reading.{Reading}
use Rattle.sheet.specs.declared.syntax.Start.{Start}
use Rattle.sheet.specs.Runs.{Configuration, start_bit}
use Rattle.sheet.specs.System.{System}
use Rattle.sheet.specs.Truth.{Meaning}
use Rattle.terms.specs.Terms.{Term, name, constant, Interpretation, eval, occurs, Literal, Holds}

-- bits, one term for each reading, and conditions between terms
pub record Row : Type 0 where
  pub bits : List Bool
  pub vector : List Term
  pub conditions : List Literal

-- under these values of the names, the row describes the configuration
pub record CoversBy (i : Interpretation) (row : Row) (c : Configuration) : Type 0 where
  pub bits : row.bits ≡ c.bits
  pub conditions : AllByRecursion (Holds i) row.conditions
  pub readings : map (eval i) row.vector ≡ c.readings

-- Some values of the names do so, under a meaning that answers each question of a sheet as m does: what m is elsewhere,
-- no sheet asks.
pub record Covers (m : Meaning) (row : Row) (c : Configuration) : Type 0 where
  pub by : Interpretation
  pub under : SameAnswers by.meaning m
  pub covers : CoversBy by row c

-- Row 0: the start bits, start name i as name i, the start constants, and no condition.
abbrev pub start_term : Start → Term
start_term (Start.Name n) = name n
start_term (Start.Constant f) = constant f

abbrev pub start_of : Reading → Term
start_of r = start_term r.start

abbrev pub first_row : System → Row
first_row s = record { bits = map start_bit s.bits; vector = map start_of s.readings; conditions = [] }

-- the row has a term for each reading of the sheet
abbrev pub RowOf : System → Row → Type 0
RowOf s row = length row.vector ≡ length s.readings

-- whether name x stands in a row
abbrev pub occurs_in_terms : ℕ → List Term → Bool
occurs_in_terms x [] = false
occurs_in_terms x (t ∷ ts) = occurs x t || occurs_in_terms x ts

abbrev pub occurs_in_literals : ℕ → List Literal → Bool
occurs_in_literals x [] = false
occurs_in_literals x (c ∷ cs) = (occurs x c.left || occurs x c.right) || occurs_in_literals x cs

abbrev pub stands : Row → ℕ → Bool
stands row x = occurs_in_terms x row.vector || occurs_in_literals x row.conditions

-- the lowest of the 32 names that is not taken, if there is one: k names are left, from x on
abbrev pub lowest_from : (ℕ → Bool) → ℕ → ℕ → Option ℕ
lowest_from taken zero x = None
lowest_from taken (suc k) x = cond (taken x) (lowest_from taken k (suc x)) (Some x)

abbrev pub lowest_free : (ℕ → Bool) → Option ℕ
lowest_free taken = lowest_from taken 32 0
