-- Where the mark of a branch lies in the memory of a table, and what an event makes of it. Assumes nothing.
use Rattle.std.specs.Prelude.{◌≡◌, ℕ, ◌+◌, ◌*◌, ◌<◌, ◌⊎◌, length, slice_index_or, Option, None, Some, Result, Ok, Err}
use Rattle.fault.specs.declared.TableFault.{TableFault}
use Rattle.fault.specs.declared.TableFault.TheVariants.{NotOut}
use Rattle.sheet.specs.declared.sheet.Sheet.{Sheet}
use Rattle.sheet.specs.View.{sheet_of}
use Rattle.rules.specs.declared.Branch.{Branch}
use Rattle.rules.specs.declared.Mark.{Mark}
use Rattle.rules.specs.declared.Mark.TheVariants.{Waiting}
use Rattle.rules.specs.Standing.{branches}
use Rattle.table.specs.declared.mark.Event.{Event}
use Rattle.table.specs.declared.table.Table.{Table}
use Rattle.table.specs.Marks.{next_mark}

-- how many branches each row of a table has; none where it is not open
abbrev pub branches_in : Option Sheet → ℕ
branches_in None = 0
branches_in (Some sheet) = branches (sheet_of sheet)

-- the table has such a row, and the row such a branch
pub record IsThere (table : Table) (b : Branch) : Type 0 where
  pub row : b.row < table.used
  pub number : b.number < branches_in table.sheet

abbrev pub Absent : Table → Branch → Type 0
Absent table b = IsThere table b → ⊥

-- the branch is there, and its mark lies at the place
pub record IsPlace (table : Table) (b : Branch) (place : ℕ) : Type 0 where
  pub there : IsThere table b
  pub is : place ≡ b.row * branches_in table.sheet + b.number
  pub inside : place < length table.marks.now

-- the mark at a place
abbrev pub mark_at : Table → ℕ → Mark
mark_at table place = slice_index_or table.marks.now place Waiting

-- the place of the branch's mark and what the event makes of it; or why it may not come
abbrev pub Turned : Table → Branch → Event → Result (ℕ × Mark) TableFault → Type 0
Turned table b event (Ok (place, mark)) =
    IsPlace table b place × (next_mark event (mark_at table place) ≡ Ok mark)
Turned table b event (Err e) =
    ((e ≡ NotOut) × Absent table b)
    ⊎ ((place : ℕ) × IsPlace table b place × (next_mark event (mark_at table place) ≡ Err e))
