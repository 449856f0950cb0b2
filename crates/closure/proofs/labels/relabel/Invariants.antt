use Rattle.std.proofs.Common.{◌≡◌, ℕ, ◌<◌, ◌≤◌}
use Rattle.closure.specs.Labels.{label}
use Rattle.closure.specs.Working.{merge}
use Rattle.closure.proofs.labels.relabel.Given as goal

abbrev pub invariant-loop-label : goal.invariant-loop-label
invariant-loop-label l =
    ((k : ℕ) → k < l.label-index → label l.labels k ≡ merge l.low l.high (label l.initial.labels k))
    × ((k : ℕ) → l.label-index ≤ k → label l.labels k ≡ label l.initial.labels k)
