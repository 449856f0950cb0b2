use Rattle.std.proofs.Common.{◌≡◌}
use Rattle.queue.specs.Entries.{entries, room}
use Rattle.closure.specs.Pending.{Added}
use Rattle.closure.proofs.pending.revisit_users.Given as goal

abbrev pub invariant-loop : goal.invariant-loop
invariant-loop l =
    Added l.places.bank.now l.places.terms l.labels (entries l.initial.pending) (entries l.pending) × (room l.pending ≡ room l.initial.pending)
