use Rattle.std.proofs.Common.{◌≡◌, ◌-◌, ◌≤◌}
use Rattle.closure.specs.Working.{Grown, Swept}
use Rattle.closure.proofs.table.sweep.Given as goal

abbrev pub invariant-loop-table : goal.invariant-loop-table
invariant-loop-table l =
    record {
      grown : Grown l.places.bank.now l.places.terms l.initial.labels l.labels l.joins;
      inside : l.table.seen ≤ l.places.terms;
      swept : l.joins ≡ 0 → Swept l.places.bank.now l.labels l.table.heads l.table.next l.table.seen;
    }

abbrev pub decreases-loop-table : goal.decreases-loop-table
decreases-loop-table l = l.places.terms - l.table.seen
