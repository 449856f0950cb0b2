use Rattle.std.proofs.Common.{ℕ, ◌<◌, get_or}
use Rattle.plant.specs.Plant.{IsValue}
use Rattle.plant.specs.declared.listed.Entry.{Entry}
use Rattle.plant.proofs.listed.has_values.Given as goal

-- the results so far are values
abbrev pub invariant-loop-entry : goal.invariant-loop-entry
invariant-loop-entry l = (k : ℕ) (d : Entry) → k < l.entry-index → IsValue (get_or l.entries k d).result
