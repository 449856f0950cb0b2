use Rattle.std.proofs.Common.{◌≡◌, ◌-◌, ◌≤◌, ◌++◌}
use Rattle.std.specs.List.{range_with_len}
use Rattle.queue.specs.Entries.{entries, room}
use Rattle.working.proofs.walking.enqueue.Given as goal

abbrev pub invariant-loop-row : goal.invariant-loop-row
invariant-loop-row l = record {
  rows : entries l.due ≡ entries l.fn.due ++ range_with_len l.from (l.row - l.from);
  roomy : room l.due ≡ room l.fn.due;
  within : l.row - l.from ≤ l.to - l.from;
}
