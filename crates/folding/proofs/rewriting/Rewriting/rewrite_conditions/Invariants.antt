use Rattle.std.proofs.Common.{◌≡◌}
use Rattle.folding.proofs.Passes.{ConditionsChangedTo}
use Rattle.folding.proofs.rewriting.Rewriting.rewrite_conditions.Given as goal

abbrev pub invariant-loop-condition : goal.invariant-loop-condition
invariant-loop-condition l =
    ConditionsChangedTo l.initial.self.bank.now l.initial.self.count.now.terms l.initial.self.change.now l.condition-index l.initial.conditions l.conditions l.self.bank.now l.self.count.now.terms
    × (l.self.change.now ≡ l.initial.self.change.now)
    × (l.self.bank.ghost_name ≡ l.initial.self.bank.ghost_name)
    × (l.self.count.ghost_name ≡ l.initial.self.count.ghost_name)
