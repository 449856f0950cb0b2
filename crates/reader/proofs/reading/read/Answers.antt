use Rattle.std.proofs.Common.{vec_items, rules}
use Rattle.reader.proofs.Exact.{accepted_read, written_out_back}
use Rattle.reader.proofs.Faults.{failed_refused}
use Rattle.reader.proofs.reading.read.Goals as goal

pub returns-in_err-place-clause-exact : goal.returns-in_err-place-clause-exact
returns-in_err-place-clause-exact c = search (rules, failed_refused c.args.bytes.now (vec_items c.read_records.new.records))

pub returns-in_err-place-clause-back : goal.returns-in_err-place-clause-back
returns-in_err-place-clause-back c = written_out_back

pub returns : goal.returns
returns c =
    let xs = vec_items c.read_records.new.records in
    record { first = (xs, c.in_ok-place.ensures); exact = accepted_read c.args.bytes.now xs _ c.in_ok-place.ensures; back = written_out_back }
