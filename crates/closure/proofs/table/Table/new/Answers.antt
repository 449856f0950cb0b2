use Rattle.std.proofs.Common.{arith}
use Rattle.closure.proofs.Chaining.{chains_none}
use Rattle.closure.proofs.table.Table.new.Goals as goal

pub invariant_of-result : goal.invariant_of-result
invariant_of-result c = record { few = omega arith; chains = chains_none 1024 512 }
