-- Which standing of the rules a table stands for, and what a call makes of it. Assumes nothing.
use Rattle.std.specs.Prelude.{◌≡◌, ℕ, List, map, take, length, Option, None, Some, Result, MatchResult}
use Rattle.fault.specs.declared.TableFault.{TableFault}
use Rattle.sheet.specs.declared.sheet.Sheet.{Sheet}
use Rattle.sheet.specs.System.{System}
use Rattle.sheet.specs.View.{sheet_of}
use Rattle.banks.specs.Room.{Holding}
use Rattle.rows.specs.Records.{row_in}
use Rattle.rules.specs.declared.Answer.{Answer}
use Rattle.rules.specs.declared.Call.{Call}
use Rattle.rules.specs.Calls.{ComesTo}
use Rattle.rules.specs.Laws.{Played}
use Rattle.rules.specs.Promises.{Answered, Opens, OpenRefused}
use Rattle.rules.specs.Standing.{Standing, branches, opening, unopened}
use Rattle.table.specs.declared.table.Table.{Table}
use Rattle.table.specs.Memory.{HasLengths, marks_by_row}

-- an open table has the sheet and the row limit with which it was opened; one that is not open has any
abbrev pub IsOpenWith : Option Sheet → ℕ → System → ℕ → Type 0
IsOpenWith None kept s limit = Unit {0}
IsOpenWith (Some sheet) kept s limit = (sheet_of sheet ≡ s) × (kept ≡ limit)

-- a table's rows, the marks of their branches, and the terms of its bank in any order
pub record Stands (s : System) (limit : ℕ) (table : Table) (at : Standing) : Type 0 where
  pub opened : IsOpenWith table.sheet table.limit s limit
  pub rows : map (row_in s table.bank.now) (take table.used table.rows.now) ≡ at.rows
  pub marks : marks_by_row (branches s) table.used table.marks.now ≡ at.marks
  pub terms : Holding table.bank.now table.count.terms at.terms

-- each table stands for a standing, so that what is said of those that it stands for is never said of none
abbrev pub AlwaysStands : Type 0
AlwaysStands = (table : Table) → (s : System) × (limit : ℕ) × (at : Standing) × Stands s limit table at

-- from every standing that the table stood for, the call and its answer lead by the rules to one that it stands for now
abbrev pub Performs : Table → Call → Answer → Table → Type 0
Performs old call answer new =
    (s : System) (limit : ℕ) (at : Standing) → Stands s limit old at
    → (after : Standing) × Answered s limit at call answer after × Stands s limit new after

-- the same of calls one after another
abbrev pub PlayedBy : Table → List Call → List Answer → Table → Type 0
PlayedBy old calls answers new =
    (s : System) (limit : ℕ) (at : Standing) → Stands s limit old at
    → (after : Standing) × Played s limit at calls answers after × Stands s limit new after

-- the table stands for what the calls come to
abbrev pub LeftBy : System → ℕ → List Call → Table → Type 0
LeftBy s limit calls table = (at : Standing) → ComesTo s limit calls at → Stands s limit table at

-- the memory of a table has the lengths that an open one needs
abbrev pub Fits : Table → Type 0
Fits table =
    HasLengths (length table.bank.now) (length table.rows.now) (length table.marks.now) (length table.work.now)

-- the memory that a table is lent has these lengths
pub record HasMemory (table : Table) (b r m w : ℕ) : Type 0 where
  pub bank : length table.bank.now ≡ b
  pub rows : length table.rows.now ≡ r
  pub marks : length table.marks.now ≡ m
  pub work : length table.work.now ≡ w

-- a table has all the memory that it had, for this opening and for any later one
abbrev pub KeepsMemory : Table → Table → Type 0
KeepsMemory old new =
    HasMemory new (length old.bank.now) (length old.rows.now) (length old.marks.now)
    (length old.work.now)

-- the table has no rows, whatever sheet and limit were asked
abbrev pub IsUnopened : Table → Type 0
IsUnopened table = (s : System) (limit : ℕ) → Stands s limit table unopened

-- opened on the sheet with the limit; or refused as the rules say, and then without rows
abbrev pub Opened : System → ℕ → Table → Table → Result Unit TableFault → Type 0
Opened s limit old new result =
    MatchResult result
    (λ _. Opens s limit (Fits old) × Stands s limit new (opening s))
    (λ e. OpenRefused s limit (Fits old) e × IsUnopened new)

-- how many rows a table has
abbrev pub rows_of : Table → ℕ
rows_of table = table.used

-- what is true of each standing that the table stands for
abbrev pub Tells : Table → (System → Standing → Type 0) → Type 0
Tells table P = (s : System) (limit : ℕ) (at : Standing) → Stands s limit table at → P s at
