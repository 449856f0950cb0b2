use Rattle.std.proofs.Common.{◌≡◌, ℕ, length, Some}
use Rattle.rules.specs.declared.Mark.TheVariants.{Out}
use Rattle.rules.specs.Standing.{Standing, mark_of}
use Rattle.sheet.specs.System.{System}
use Rattle.table.specs.Answers.{branch_of}
use Rattle.table.specs.Standing.{KeepsMemory, Stands}
use Rattle.working.specs.Work.{merges_and_keep}
use Rattle.working.proofs.Offers.{Onward}
use Rattle.working.proofs.offering.merge_or_keep.Given as goal

abbrev pub invariant-loop-target : goal.invariant-loop-target
invariant-loop-target l = record {
  same : l.ticket ≡ l.fn.ticket;
  onward : (s : System) (limit : ℕ) (at : Standing) → Stands s limit l.fn.table at → mark_of at (branch_of l.fn.ticket) ≡ Some Out
      → Stands s limit l.table at × Onward s limit at (merges_and_keep s (branch_of l.fn.ticket) 0 (length at.rows)) (merges_and_keep s (branch_of l.fn.ticket) l.target (length at.rows));
  memory : KeepsMemory l.fn.table l.table;
}
