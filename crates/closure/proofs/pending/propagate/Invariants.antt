use Rattle.std.proofs.Common.{◌≡◌, ◌+◌, ◌*◌, length}
use Rattle.queue.specs.Entries.{entries, room}
use Rattle.closure.specs.Labels.{classes}
use Rattle.closure.specs.Working.{Grown}
use Rattle.closure.specs.Pending.{Due}
use Rattle.closure.proofs.pending.propagate.Given as goal

abbrev pub invariant-loop-equation : goal.invariant-loop-equation
invariant-loop-equation l =
    record {
      grown : Grown l.places.bank.now l.places.terms l.initial.labels l.labels l.joins;
      due : Due l.places.bank.now l.places.terms l.initial.labels (entries l.queue);
      short : room l.queue ≡ 64;
    }

-- a join takes a class away, and leaves at most as many entries as there is room for
abbrev pub decreases-loop-equation : goal.decreases-loop-equation
decreases-loop-equation l = classes l.places.terms l.labels * 65 + length (entries l.queue)
