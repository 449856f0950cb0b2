use Rattle.std.proofs.Common.{false, string_bytes}
use Rattle.sheet.specs.declared.syntax.Record.{Record}
use Rattle.sheet_text.proofs.Places.{next_whole, listing_more, listing_all}
use Rattle.sheet_text.proofs.ReadRecords.push_records.Goals as goal

pub push_record-requires : goal.push_record-requires
push_record-requires c =
    next_whole c.args.self.now.bytes.now c.args.self.now.records.now (string_bytes c.args.text.now) (string_bytes c.loop-number.text) c.loop-number.number c.loop-number.place c.kind.result (Record.Bit false) c.loop-number.invariant c.loop-number-test.true c.kind.ensures

pub loop-number-preserved : goal.loop-number-preserved
loop-number-preserved c =
    listing_more c.args.self.now.bytes.now c.args.self.now.records.now (string_bytes c.args.text.now) (string_bytes c.loop-number.text) c.loop-number.number c.loop-number.place c.kind.result (Record.Bit false) c.loop-number.invariant c.loop-number-test.true c.kind.ensures c.in_ok-place.place (string_bytes c.push_record.new.text) c.in_ok-place.ensures.0 c.in_ok-place.ensures.1

pub returns : goal.returns
returns c =
    listing_all c.args.self.now.bytes.now c.args.self.now.records.now (string_bytes c.args.text.now) (string_bytes c.loop-number.text) c.loop-number.number c.loop-number.place c.loop-number.invariant c.loop-number-test.false
