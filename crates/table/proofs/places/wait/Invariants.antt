use Rattle.std.proofs.Common.{◌≡◌, ◌-◌, ◌++◌, take, replicate}
use Rattle.rules.specs.declared.Mark.TheVariants.{Waiting}
use Rattle.table.proofs.places.wait.Given as goal

abbrev pub invariant-loop-k : goal.invariant-loop-k
invariant-loop-k l = take l.k l.marks ≡ take l.from l.fn.marks ++ replicate (l.k - l.from) Waiting
