use Rattle.std.proofs.Common.{string_bytes}
use Rattle.sheet_text.proofs.Places.{Listing}
use Rattle.sheet_text.proofs.ReadRecords.push_records.Given as goal

abbrev pub invariant-loop-number : goal.invariant-loop-number
invariant-loop-number l = Listing l.self.bytes.now l.self.records.now (string_bytes l.initial.text) (string_bytes l.text) l.number l.place
