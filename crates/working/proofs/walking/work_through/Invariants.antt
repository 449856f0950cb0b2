use Rattle.std.proofs.Common.{◌≡◌, ℕ, ◌+◌, ◌-◌, ◌≤◌, length}
use Rattle.std.specs.List.{range_with_len}
use Rattle.queue.specs.Entries.{entries, room}
use Rattle.rules.specs.Standing.{Standing}
use Rattle.rules.specs.Working.{first_branch}
use Rattle.sheet.specs.System.{System}
use Rattle.table.specs.Standing.{KeepsMemory, Stands, rows_of}
use Rattle.working.specs.Work.{Reached, first_of}
use Rattle.working.proofs.walking.work_through.Given as goal

-- the first row that is due, and the work up to it
abbrev pub invariant-loop-row : goal.invariant-loop-row
invariant-loop-row l =
    (row : ℕ)
    × (row ≤ rows_of l.table)
    × (entries l.due ≡ range_with_len row (rows_of l.table - row))
    × (room l.due ≡ 64)
    × KeepsMemory l.fn.table l.table
    × ((s : System) (limit : ℕ) (at : Standing) → Stands s limit l.fn.table at → Reached s limit at first_branch (first_of row) l.table)

abbrev pub decreases-loop-row : goal.decreases-loop-row
decreases-loop-row l = 64 + length (entries l.due) - rows_of l.table
