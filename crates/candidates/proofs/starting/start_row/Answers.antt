use Rattle.std.proofs.Common.{◌≡◌, length, replicate, Ok, Err, arith, rules}
use Rattle.sheet.proofs.Fewness.{few_bits, few_readings}
use Rattle.sheet.specs.View.{sheet_of}
use Rattle.closure.specs.Labels.{no_condition}
use Rattle.forms.specs.Rows.{first_row}
use Rattle.forms.specs.Counted.{terms_in}
use Rattle.candidates.proofs.Listing.{added_break}
use Rattle.candidates.proofs.Answering.{started_over, first_made, first_refused}
use Rattle.candidates.proofs.starting.start_row.Goals as goal

pub start_vector-requires : goal.start_vector-requires
start_vector-requires c = rw c.deref.ensures.value (few_readings (sheet_of c.args.sheet.now) c.args.sheet.now.lawful)

pub returns-in_err-vector : goal.returns-in_err-vector
returns-in_err-vector c =
    let s = sheet_of c.args.sheet.now in
    let rs = c.args.bank.now in
    let n = c.args.count.now.terms in
    let rs' = c.start_vector.new.bank in
    let n' = c.start_vector.new.count.terms in
    let x = started_over s rs n rs' n' c.args.sheet.now.lawful c.requires.long c.requires.bank c.deref.result.now c.deref.ensures.value (Err c.in_err-vector.field-0.0) c.in_err-vector.ensures in
    added_break rs n (terms_in (first_row s)) rs' n' _ c.in_err-vector.field-0.0 c.from_residual.result x.0 (first_refused s rs n rs' n' x.1, x.2) c.from_residual.ensures.1

pub returns : goal.returns
returns c =
    let s = sheet_of c.args.sheet.now in
    let law = c.args.sheet.now.lawful in
    let rs = c.args.bank.now in
    let n = c.args.count.now.terms in
    let rs' = c.start_vector.new.bank in
    let n' = c.start_vector.new.count.terms in
    let x = started_over s rs n rs' n' law c.requires.long c.requires.bank c.deref.result.now c.deref.ensures.value (Ok c.in_ok-vector.vector) c.in_ok-vector.ensures in
    let bits_room : length c.start_bits-bits.result ≡ 16 = search rules in
    let vector_room : length c.in_ok-vector.vector ≡ 6 = search rules in
    first_made s rs n rs' n' (replicate 22 no_condition) c.start_bits-bits.result c.in_ok-vector.vector x c.start_bits-bits.ensures.value (omega (arith, few_bits s law)) (omega (arith, few_readings s law))
