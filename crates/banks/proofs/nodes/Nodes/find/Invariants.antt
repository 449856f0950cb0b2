use Rattle.std.proofs.Common.{◌≡◌, ℕ}
use Rattle.terms.specs.Bank.{node_at}
use Rattle.closure.specs.Working.{Reaches, Under, rank}
use Rattle.banks.proofs.nodes.Nodes.find.Given as goal

abbrev pub invariant-loop-at : goal.invariant-loop-at
invariant-loop-at l =
    Under l.self.used l.at × ((j : ℕ) → Reaches l.self.next l.initial.at j → node_at l.self.bank.now j ≡ l.node → Reaches l.self.next l.at j)

abbrev pub decreases-loop-at : goal.decreases-loop-at
decreases-loop-at l = rank l.at
