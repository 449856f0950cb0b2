use Rattle.std.proofs.lemmas.Option.{MatchOption-at_none}
use Rattle.std.proofs.Common.{vec_items}
use Rattle.reader.proofs.Exact.{ended_lawful}
use Rattle.reader.proofs.reading.read_records.Goals as goal

pub into_sheet-requires : goal.into_sheet-requires
into_sheet-requires c =
    let ended = MatchOption-at_none _ _ c.in_default.is c.in_ok-next.ensures in
    record { whole = ended.whole; lawful = ended_lawful c.args.bytes.now c.advance.new.draft (vec_items c.advance.new.records) ended }
