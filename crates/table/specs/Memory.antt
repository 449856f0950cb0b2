-- The memory of a table, and what holds of it for as long as the table lives. Assumes nothing.
use Rattle.std.specs.Prelude.{◌≡◌, ℕ, zero, suc, ◌<◌, ◌≤◌, List, [], ◌∷◌, length, take, drop, slice_index_or, Option, None, Some}
use Rattle.std.proofs.Props.{props}
use Rattle.sheet.specs.declared.sheet.Sheet.{Sheet}
use Rattle.sheet.specs.System.{System}
use Rattle.sheet.specs.View.{sheet_of}
use Rattle.terms.specs.declared.TermRecord.{TermRecord}
use Rattle.terms.specs.Bank.{Bank}
use Rattle.folding.specs.Viewing.{Bank-prop}
use Rattle.rows.specs.declared.row.RowRecord.{RowRecord}
use Rattle.rules.specs.declared.Mark.{Mark}
use Rattle.table.specs.Offers.{Comparable}

-- the lengths that a table's memory has
pub record HasLengths (b r m w : ℕ) : Type 0 where
  pub bank : b ≡ 512
  pub rows : r ≡ 64
  pub marks : m ≡ 4096
  pub work : w ≡ 512

-- past the end
abbrev pub no_row : RowRecord
no_row = record { bits = []; vector = []; conditions = []; used = 0 }

-- memory of a table's lengths, a bank of n terms, and rows over it of which the first `used` are the table's
pub record Fitting (s : System) (rs : List TermRecord) (n : ℕ) (rows : List RowRecord) (used limit : ℕ) (marks : List Mark) (work : List ℕ) : Type 0 where
  pub lengths : HasLengths (length rs) (length rows) (length marks) (length work)
  pub bank : Bank rs n
  pub within : used ≤ limit
  pub limited : limit ≤ 64
  pub comparable : (k : ℕ) → k < used → Comparable s rs n (slice_index_or rows k no_row)

-- a table that is not open has no rows and no terms
pub record Blank (n used : ℕ) : Type 0 where
  pub rows : used ≡ 0
  pub terms : n ≡ 0

abbrev pub FitsIfOpen : Option Sheet → List TermRecord → ℕ → List RowRecord → ℕ → ℕ → List Mark → List ℕ → Type 0
FitsIfOpen None rs n rows used limit marks work = Blank n used
FitsIfOpen (Some sheet) rs n rows used limit marks work = Fitting (sheet_of sheet) rs n rows used limit marks work

-- memory fits in one way at most, so that a table can keep the fact
pub FitsIfOpen-prop : (o : Option Sheet) (rs : List TermRecord) (n : ℕ) (rows : List RowRecord) (used limit : ℕ) (marks : List Mark) (work : List ℕ) → IsProp (FitsIfOpen o rs n rows used limit marks work)
FitsIfOpen-prop None rs n rows used limit marks work = Prim.hlevel props
FitsIfOpen-prop (Some sheet) rs n rows used limit marks work = Prim.hlevel (Bank-prop, props)

-- The marks of a row's branches stand side by side, row after row: the first n rows of w marks each.
abbrev pub marks_by_row : ℕ → ℕ → List Mark → List (List Mark)
marks_by_row w zero marks = []
marks_by_row w (suc n) marks = take w marks ∷ marks_by_row w n (drop w marks)
