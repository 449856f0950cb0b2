use Rattle.std.proofs.Common.{◌≡◌, ◌++◌, length, vec_items}
use Rattle.closure.specs.Labels.{literals}
use Rattle.notation.specs.Written.{document, Between}
use Rattle.notation.proofs.document.read.Given as goal

abbrev pub invariant-loop-rest : goal.invariant-loop-rest
invariant-loop-rest l =
    Between (vec_items l.conditions) l.reader.count.terms × (l.initial.rest ≡ document (literals l.reader.bank (vec_items l.conditions)) ++ l.rest)

abbrev pub decreases-loop-rest : goal.decreases-loop-rest
decreases-loop-rest l = length l.rest
