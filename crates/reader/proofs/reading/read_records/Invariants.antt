use Rattle.std.proofs.Common.{◌-◌, ◌≤◌, length, vec_items}
use Rattle.reader.specs.Progress.{ReadTo}
use Rattle.reader.proofs.reading.read_records.Given as goal

abbrev pub invariant-loop-draft : goal.invariant-loop-draft
invariant-loop-draft l = ReadTo l.bytes l.place l.draft (vec_items l.records) × (l.place.byte ≤ length l.bytes)

abbrev pub decreases-loop-draft : goal.decreases-loop-draft
decreases-loop-draft l = length l.bytes - l.place.byte
