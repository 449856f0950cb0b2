use Rattle.std.proofs.Common.{arith}
use Rattle.table.proofs.Lists.{waited}
use Rattle.table.proofs.places.wait.Goals as goal

pub loop-k-preserved : goal.loop-k-preserved
loop-k-preserved c = waited c.loop-k.marks c.args.marks.now c.args.from c.loop-k.k c.loop-k.auto.k (omega arith) c.loop-k.invariant
