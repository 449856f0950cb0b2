use Rattle.std.proofs.Common.{ℕ, List, drop, string_bytes}
use Rattle.sheet.specs.System.{System}
use Rattle.reader.specs.Law.{ReadAs}
use Rattle.rules.specs.declared.Counts.{Counts}
use Rattle.table_memory.specs.Room.{IsRoom}
use Rattle.session_text.specs.Session.{stretches, Told}
use Rattle.session_text.proofs.working.push_later.Given as goal

-- what the rest adds from here on is what all steps add
abbrev pub invariant-loop-i : goal.invariant-loop-i
invariant-loop-i l =
    IsRoom l.memory
    × ((s : System) → ReadAs l.bytes s → (new : List ℕ) (counts : Counts) → Told s l.counts (stretches (drop l.i l.steps)) (string_bytes l.text) new counts → Told s l.fn.before (stretches l.steps) (string_bytes l.initial.text) new counts)
