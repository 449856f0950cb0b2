use Rattle.std.proofs.Common.{◌≡◌, ℕ}
use Rattle.closure.specs.Working.{sig, Reaches, Under, rank}
use Rattle.closure.proofs.table.Table.lookup.Given as goal

abbrev pub invariant-loop-link : goal.invariant-loop-link
invariant-loop-link l =
    Under l.self.seen l.link × ((j : ℕ) → Reaches l.self.next l.initial.link j → sig l.places.bank.now l.labels j ≡ l.sought → Reaches l.self.next l.link j)

abbrev pub decreases-loop-link : goal.decreases-loop-link
decreases-loop-link l = rank l.link
