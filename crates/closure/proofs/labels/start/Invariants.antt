use Rattle.std.proofs.Common.{◌≡◌, ℕ, ◌<◌, length}
use Rattle.closure.specs.Labels.{label}
use Rattle.closure.proofs.labels.start.Given as goal

abbrev pub invariant-loop-i : goal.invariant-loop-i
invariant-loop-i l = (length l.label-items ≡ l.terms) × ((k : ℕ) → k < l.i → label l.label-items k ≡ k)
