use Rattle.std.proofs.Common.{◌≤◌, length}
use Rattle.closure_bench.proofs.load.Given as goal

abbrev pub invariant-loop-kind : goal.invariant-loop-kind
invariant-loop-kind l = l.used ≤ length l.conditions
