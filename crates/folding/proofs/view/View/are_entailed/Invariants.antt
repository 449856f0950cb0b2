use Rattle.std.proofs.Common.{take}
use Rattle.std.specs.List.{AllByRecursion as All}
use Rattle.terms.specs.Terms.{Entails}
use Rattle.closure.specs.Labels.{literals}
use Rattle.folding.proofs.view.View.are_entailed.Given as goal

abbrev pub invariant-loop-goal : goal.invariant-loop-goal
invariant-loop-goal l = All (Entails (literals l.self.records.now l.given)) (literals l.self.records.now (take l.goal-index l.goals))
