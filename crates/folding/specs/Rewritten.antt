-- A row changed throughout. Assumes nothing.
use Rattle.std.specs.Prelude.{◌≡◌, ℕ, List, map}
use Rattle.sheet.specs.System.{System}
use Rattle.terms.specs.declared.TermRecord.{TermRecord}
use Rattle.terms.specs.Terms.{Literal}
use Rattle.banks.specs.Gains.{Gained}
use Rattle.rows.specs.declared.row.RowRecord.{RowRecord}
use Rattle.forms.specs.Rows.{Row}
use Rattle.forms.specs.Counted.{terms_in}
use Rattle.rows.specs.Records.{row_in, Inside}
use Rattle.folding.specs.declared.change.Change.{Change}
use Rattle.folding.specs.Rewriting.{changed}

abbrev pub changed_in : List TermRecord → Change → Literal → Literal
changed_in rs change c = record { left = changed rs change c.left; right = changed rs change c.right; sign = c.sign }

abbrev pub changed_row : List TermRecord → Change → Row → Row
changed_row rs change row = record { bits = row.bits; vector = map (changed rs change) row.vector; conditions = map (changed_in rs change) row.conditions }

-- the record stands for the changed row, whose terms are in the bank now
pub record RowChanged (s : System) (rs : List TermRecord) (n : ℕ) (change : Change) (row : RowRecord) (rs' : List TermRecord) (n' : ℕ) (row' : RowRecord) : Type 0 where
  pub gained : Gained rs n (terms_in (changed_row rs change (row_in s rs row))) rs' n'
  pub is : row_in s rs' row' ≡ changed_row rs change (row_in s rs row)
  pub inside : Inside s n' 22 row'
