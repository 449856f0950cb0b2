use Rattle.closure.specs.Working.{Assuming}
use Rattle.closure.proofs.deciding.Question.close.Given as goal

abbrev pub invariant-loop-condition : goal.invariant-loop-condition
invariant-loop-condition l =
    Assuming l.self.places.bank.now l.self.places.terms l.self.conditions.now l.initial.labels l.labels l.joins l.condition-index
