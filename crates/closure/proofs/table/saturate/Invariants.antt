use Rattle.closure.specs.Labels.{classes}
use Rattle.closure.specs.Working.{Grown}
use Rattle.closure.proofs.table.saturate.Given as goal

abbrev pub invariant-loop-pending : goal.invariant-loop-pending
invariant-loop-pending l = Grown l.places.bank.now l.places.terms l.initial.labels l.labels l.joins

abbrev pub decreases-loop-pending : goal.decreases-loop-pending
decreases-loop-pending l = classes l.places.terms l.labels
