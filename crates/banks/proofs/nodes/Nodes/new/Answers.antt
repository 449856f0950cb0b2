use Rattle.std.proofs.Common.{arith}
use Rattle.closure.proofs.Chaining.{chains_none}
use Rattle.banks.proofs.nodes.Nodes.new.Goals as goal

pub invariant_of-result : goal.invariant_of-result
invariant_of-result c = record { inside = omega arith; few = omega arith; chains = chains_none 1024 512; listed = ∣ (λ j lt. absurd (omega arith)) ∣₁ }
