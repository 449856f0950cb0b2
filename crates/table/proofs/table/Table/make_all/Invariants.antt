use Rattle.std.proofs.Common.{◌≡◌, map, take}
use Rattle.table.specs.Answers.{answer_of, call_of}
use Rattle.table.specs.Standing.{PlayedBy, KeepsMemory}
use Rattle.table.proofs.table.Table.make_all.Given as goal

abbrev pub invariant-loop-k : goal.invariant-loop-k
invariant-loop-k l = (map call_of l.entries ≡ map call_of l.initial.entries) × PlayedBy l.initial.self (take l.k (map call_of l.entries)) (take l.k (map answer_of l.entries)) l.self × KeepsMemory l.initial.self l.self
