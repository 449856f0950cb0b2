-- Which rows the records of rows stand for. Assumes nothing.
use Rattle.std.specs.Prelude.{◌≡◌, ℕ, ◌<◌, ◌≤◌, List, map, length, take, slice_index, slice_index_or}
use Rattle.sheet.specs.System.{System}
use Rattle.terms.specs.declared.Condition.{Condition}
use Rattle.terms.specs.declared.TermRecord.{TermRecord}
use Rattle.terms.specs.Bank.{Bank, term_at, literal_of}
use Rattle.closure.specs.Labels.{no_condition}
use Rattle.rows.specs.declared.row.RowRecord.{RowRecord}
use Rattle.forms.specs.Rows.{Row}

-- the row that a record stands for: of each array, as many places as the sheet or the record itself says
abbrev pub row_in : System → List TermRecord → RowRecord → Row
row_in s rs r = record { bits = take (length s.bits) r.bits; vector = map (term_at rs) (take (length s.readings) r.vector); conditions = map (literal_of rs) (take r.used r.conditions) }

-- conditions between the bank's first n terms
pub record Between (n : ℕ) (conditions : List Condition) (used : ℕ) : Type 0 where
  pub lefts : (k : ℕ) → k < used → (slice_index_or conditions k no_condition).left < n
  pub rights : (k : ℕ) → k < used → (slice_index_or conditions k no_condition).right < n

-- a record for a row of the sheet, with at most so many conditions, all of whose terms are among the bank's first n
pub record Inside (s : System) (n most : ℕ) (r : RowRecord) : Type 0 where
  pub bits : length s.bits ≤ length r.bits
  pub readings : length s.readings ≤ length r.vector
  pub vector : (k : ℕ) → k < length s.readings → slice_index r.vector k < n
  pub few : r.used ≤ most
  pub stored : r.used ≤ length r.conditions
  pub conditions : Between n r.conditions r.used

-- a bank in memory of 512 places, and a record for a row of the sheet over its first n terms
pub record Sound (s : System) (rs : List TermRecord) (n most : ℕ) (r : RowRecord) : Type 0 where
  pub bank : Bank rs n
  pub long : length rs ≡ 512
  pub row : Inside s n most r
