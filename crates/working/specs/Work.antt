-- What the work on a table has come to after a part of it. Assumes nothing.
use Rattle.std.specs.Prelude.{◌≡◌, ◌<◌, ◌≤◌, ◌-◌, ◌+◌, ℕ, Bool, false, List, [], ◌∷◌, ◌++◌, length}
use Rattle.std.specs.Prelude.{Ok, Err, Option, None, Some, Result}
use Rattle.fault.specs.declared.TableFault.{TableFault}
use Rattle.fault.specs.declared.TableFault.TheVariants.{UnsafeForm}
use Rattle.sheet.specs.System.{System}
use Rattle.rules.specs.declared.Answer.{Answer}
use Rattle.rules.specs.declared.Branch.{Branch}
use Rattle.rules.specs.declared.Call.{Call}
use Rattle.rules.specs.declared.Call.TheVariants.{Keep}
use Rattle.rules.specs.declared.Mark.{Mark}
use Rattle.rules.specs.declared.Mark.TheVariants.{Waiting, Out}
use Rattle.rules.specs.declared.Outcome.{Outcome}
use Rattle.rules.specs.Standing.{Standing, mark_of, is_waiting}
use Rattle.rules.specs.Working.{bound_of, first_branch, following, merges_from, offers}
use Rattle.rules.specs.Working.{Offered, WorksFrom}
use Rattle.table.specs.declared.table.Table.{Table}
use Rattle.table.specs.declared.ticket.Refusal.{Refusal}
use Rattle.table.specs.Standing.{Stands}

-- the fault of the last offer, if none was accepted
abbrev pub fault_of : Result Unit Refusal → Option TableFault
fault_of (Ok done) = None
fault_of (Err refusal) = Some refusal.fault

-- offers were made by the rules, and the table stands for what they came to
pub record Made (s : System) (limit : ℕ) (at : Standing) (offs : List Call)
    (end : Option TableFault) (new : Table) : Type 0 where
  pub made : List Call
  pub given : List Answer
  pub after : Standing
  pub offered : Offered s limit at offs made given end after
  pub stands : Stands s limit new after

-- merges into the rows from `target` on, and a keep, of a table with n rows
abbrev pub merges_and_keep : System → Branch → ℕ → ℕ → List Call
merges_and_keep s b target n =
    merges_from b (bound_of s) target (n - target) ++ Keep b (bound_of s) ∷ []

-- of a branch that is out, the merges and the keep were made
abbrev pub MergedOrKept : Table → Branch → Table → Result Unit Refusal → Type 0
MergedOrKept old b new result =
    (s : System) (limit : ℕ) (at : Standing) → Stands s limit old at → mark_of at b ≡ Some Out
    → Made s limit at (merges_and_keep s b 0 (length at.rows)) (fault_of result) new

-- of a branch that is out, all offers were made
abbrev pub Tried : Table → Branch → Table → Result Unit Refusal → Type 0
Tried old b new result =
    (s : System) (limit : ℕ) (at : Standing) → Stands s limit old at → mark_of at b ≡ Some Out
    → Made s limit at (offers s b (length at.rows)) (fault_of result) new

-- where the work goes on from one branch and standing, it goes on from another
abbrev pub Advances : System → ℕ → Standing → Branch → Standing → Branch → Type 0
Advances s limit at b mid next =
    (calls : List Call) (answers : List Answer) (outcome : Outcome) (after : Standing)
    → WorksFrom s limit mid next calls answers outcome after
    → (calls' : List Call) × (answers' : List Answer)
    × WorksFrom s limit at b calls' answers' outcome after

-- the work from branch b has come to the next one, on a table that stands for what it came to
pub record Reached (s : System) (limit : ℕ) (at : Standing) (b next : Branch) (new : Table)
    : Type 0 where
  pub mid : Standing
  pub advances : Advances s limit at b mid next
  pub more : length at.rows ≤ length mid.rows
  pub stands : Stands s limit new mid

-- the work from branch b has ended
pub record Ended (s : System) (limit : ℕ) (at : Standing) (b : Branch)
    (outcome : Outcome) (new : Table) : Type 0 where
  pub calls : List Call
  pub answers : List Answer
  pub after : Standing
  pub works : WorksFrom s limit at b calls answers outcome after
  pub stands : Stands s limit new after

-- the work from b on has come to the next branch, or has ended
abbrev pub Worked : System → ℕ → Standing → Branch → Branch → Option Outcome → Table → Type 0
Worked s limit at b next None new = Reached s limit at b next new
Worked s limit at b next (Some outcome) new = Ended s limit at b outcome new

-- what the work ends with where no offer on the branch is accepted, by the fault of the keep
abbrev pub ending : Branch → TableFault → Outcome
ending b UnsafeForm = Outcome.Unknown b
ending b _ = Outcome.Full b

-- the work on a branch that waits
abbrev pub BranchWorked : Table → Branch → Table → Option Outcome → Type 0
BranchWorked old b new result =
    (s : System) (limit : ℕ) (at : Standing) → Stands s limit old at → mark_of at b ≡ Some Waiting
    → Worked s limit at b (following s b) result new

-- whether a mark that is there is that of a branch that waits
abbrev pub waits_in : Option Mark → Bool
waits_in None = false
waits_in (Some mark) = is_waiting mark

-- the first branch of a row
abbrev pub first_of : ℕ → Branch
first_of row = record { row = row; number = 0 }

-- the work on a row
abbrev pub RowWorked : Table → ℕ → Table → Option Outcome → Type 0
RowWorked old row new result =
    (s : System) (limit : ℕ) (at : Standing) → Stands s limit old at → row < length at.rows
    → Worked s limit at (first_of row) (first_of (row + 1)) result new

-- the work on a whole table
abbrev pub TableWorked : Table → Table → Outcome → Type 0
TableWorked old new outcome =
    (s : System) (limit : ℕ) (at : Standing) → Stands s limit old at
    → Ended s limit at first_branch outcome new
