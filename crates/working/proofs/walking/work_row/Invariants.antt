use Rattle.std.proofs.Common.{ℕ, ◌<◌, length}
use Rattle.rules.specs.Standing.{Standing}
use Rattle.sheet.specs.System.{System}
use Rattle.table.specs.Standing.{KeepsMemory, Stands}
use Rattle.working.specs.Work.{Reached, first_of}
use Rattle.working.proofs.Walks.{place_of}
use Rattle.working.proofs.walking.work_row.Given as goal

abbrev pub invariant-loop-number : goal.invariant-loop-number
invariant-loop-number l =
    KeepsMemory l.fn.table l.table
    × ((s : System) (limit : ℕ) (at : Standing) → Stands s limit l.fn.table at → l.row < length at.rows
    → Reached s limit at (first_of l.row) (place_of s l.row l.number) l.table)
