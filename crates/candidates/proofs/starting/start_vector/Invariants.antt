use Rattle.std.proofs.Common.{◌≡◌, ℕ, ◌<◌, [], map, length, get_or, take}
use Rattle.sheet.specs.System.{no_reading}
use Rattle.forms.specs.Rows.{start_of}
use Rattle.candidates.specs.Working.{Started, Walked, Vectored, Named}
use Rattle.candidates.proofs.starting.start_vector.Given as goal

abbrev pub invariant-loop-k : goal.invariant-loop-k
invariant-loop-k l =
    (length l.out ≡ 6)
    × (Started [] l.initial.bank l.initial.count.terms [] → ((k : ℕ) → k < length l.readings → Named (get_or l.readings k no_reading).start)
    → Walked [] [] [] [] l.initial.bank l.initial.count.terms (take l.k (map start_of l.readings)) l.bank l.count.terms []
    × Vectored l.bank l.count.terms (map start_of l.readings) l.k l.out)
