use Rattle.std.proofs.Common.{length}
use Rattle.sheet.specs.View.{sheet_of}
use Rattle.rows.specs.Records.{row_in}
use Rattle.rows.proofs.Sets.{row_names, take_below, take_between}
use Rattle.rows.proofs.name_sets.names_of_row.Goals as goal

pub returns : goal.returns
returns c n most bank inside =
    let s = sheet_of c.args.sheet.now in
    let row = c.args.row.now in
    let terms = rw (c.front.ensures, c.readings_of.ensures) at c.names_of_terms.ensures in
    let literals = rw c.front-2.ensures at c.names_of_conditions.ensures in
    row_names (row_in s c.args.bank.now row) c.names_of_terms.result c.names_of_conditions.result (terms n bank (take_below (length s.readings) n row.vector inside.readings inside.vector)) (literals n bank (take_between row.used n row.conditions inside.stored inside.conditions))
