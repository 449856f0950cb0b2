-- The list of entries that a queue stands for, first in first, and how many it has room for. Assumes nothing.
use Rattle.std.specs.Prelude.{ℕ, List, ◌++◌, length, take, drop}
use Rattle.queue.specs.declared.Queue.{Queue}

abbrev pub ring : {T : Type 0} → List T → ℕ → ℕ → List T
ring slots head len = take len (drop head slots ++ slots)

abbrev pub entries : {T : Type 0} → Queue T → List T
entries q = ring q.slots.now q.head q.len

abbrev pub room : {T : Type 0} → Queue T → ℕ
room q = length q.slots.now
