use Rattle.std.proofs.Common.{◌≡◌, ℕ, ◌-◌, ◌<◌, ◌++◌, length, get_or, take, Some}
use Rattle.forms.specs.Candidate.{or_none, names_for}
use Rattle.rows.specs.Names.{is_in}
use Rattle.candidates.proofs.naming.input_names.Given as goal

abbrev pub invariant-loop-slot : goal.invariant-loop-slot
invariant-loop-slot l =
    (length l.slot-items ≡ l.inputs)
    × ((k : ℕ) → get_or l.slot-items k 0 < 32)
    × (names_for l.inputs (is_in l.taken) ≡ or_none (names_for (l.inputs - l.slot-index) (is_in l.names)) (λ ys. Some (take l.slot-index l.slot-items ++ ys)))
