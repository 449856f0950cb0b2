use Rattle.std.proofs.Common.{◌≡◌, length, take, Ok, Err, refl, ap, ◌∙◌, arith, rules}
use Rattle.sheet.specs.View.{sheet_of}
use Rattle.forms.specs.Candidate.{branch_answers}
use Rattle.forms.specs.Counted.{terms_in}
use Rattle.sheet.proofs.Fewness.{few_bits, few_readings}
use Rattle.banks.specs.Gains.{Gained}
use Rattle.rows.specs.declared.row.RowRecord.{RowRecord}
use Rattle.rows.specs.Records.{row_in}
use Rattle.candidates.specs.Outcome.{StandsFor}
use Rattle.candidates.specs.Working.{Added}
use Rattle.candidates.proofs.Listing.{added_break, left}
use Rattle.candidates.proofs.Completing.{Building, building, next, conditions_joined, conditions_refused, vector_placed, vector_refused, row_built, bits_built}
use Rattle.candidates.proofs.building.build.Goals.{After-over-given, After-bits_of}
use Rattle.candidates.proofs.building.build.Goals as goal

-- what the candidate is built from
given : (c : After-over-given) → Building (sheet_of c.args.sheet.now) c.args.bank.now c.args.count.now.terms c.args.row.now c.args.names.now c.args.branch c.over-given.result.terms.now c.over-given.result.vector.now (take c.questions_of-asked.result c.answers_of.result) c.over-given.result.inputs.now
given c =
    building (sheet_of c.args.sheet.now) c.args.sheet.now.lawful c.requires.sound c.args.names.now c.requires.names c.args.branch c.over-given.result.terms.now c.over-given.ensures.terms c.over-given.ensures.vector (c.answers_of.ensures c.questions_of-asked.result c.questions_of-asked.ensures.few ∙ ap (λ k. branch_answers k c.args.branch) c.questions_of-asked.ensures.number) c.over-given.ensures.inputs

bits_are : (c : After-bits_of) → take c.bits_of.result c.args.row.now.bits ≡ (row_in (sheet_of c.args.sheet.now) c.args.bank.now c.args.row.now).bits
bits_are c = ap (λ k. take k c.args.row.now.bits) c.bits_of.ensures

pub returns-in_err-conditions : goal.returns-in_err-conditions
returns-in_err-conditions c =
    let f = given (goal.at.returns-in_err-conditions c).After-over-given in
    let x = conditions_joined f _ _ c.conditions_of.new.memory.known _ refl (Err c.in_err-conditions.field-0.0) c.in_err-conditions.ensures.conditions in
    left (λ rs' n'. Added c.args.bank.now c.args.count.now.terms (terms_in (next f)) rs' n' (StandsFor (sheet_of c.args.sheet.now) rs' n' 22 (next f)) c.from_residual.result) c.conditions_of.new.memory.bank.now _ c.conditions_of.new.memory.count.now.terms _ (search rules) (search rules)
    (added_break _ _ _ _ _ _ _ _ x.0 (conditions_refused f x.1, x.2) c.from_residual.ensures.1)

pub returns-in_err-vector : goal.returns-in_err-vector
returns-in_err-vector c =
    let at = goal.at.returns-in_err-vector c in
    let f = given at.After-over-given in
    let x = conditions_joined f _ _ _ _ refl (Ok c.in_ok-conditions.conditions) c.in_ok-conditions.ensures.conditions in
    let y = vector_placed f _ _ _ x.0 x.1.recalled c.conditions_of.ensures.lent.2 _ _ c.next_vector.new.memory.known _ (bits_are at.After-bits_of) _ c.resolve-resolved.ensures.chosen _ c.deref-readings.ensures.value (Err c.in_err-vector.field-0.0) c.in_err-vector.ensures.places in
    left (λ rs' n'. Added c.args.bank.now c.args.count.now.terms (terms_in (next f)) rs' n' (StandsFor (sheet_of c.args.sheet.now) rs' n' 22 (next f)) c.from_residual-in_err-vector.result) c.next_vector.new.memory.bank.now _ c.next_vector.new.memory.count.now.terms _ (search rules) (search rules)
    (added_break _ _ _ _ _ _ _ _ y.0 (vector_refused f _ _ _ x.0 x.1.recalled c.conditions_of.ensures.lent.2 _ _ c.next_vector.new.memory.known y.1 y.2) c.from_residual-in_err-vector.ensures.1)

pub returns : goal.returns
returns c =
    let s = sheet_of c.args.sheet.now in
    let at = goal.at.returns c in
    let f = given at.After-over-given in
    let was = bits_are at.After-bits_of in
    let x = conditions_joined f _ _ _ _ refl (Ok c.in_ok-conditions.conditions) c.in_ok-conditions.ensures.conditions in
    let y = vector_placed f _ _ _ x.0 x.1.recalled c.conditions_of.ensures.lent.2 _ _ _ _ was _ c.resolve-resolved.ensures.chosen _ c.deref-readings.ensures.value (Ok c.in_ok-vector.vector) c.in_ok-vector.ensures.places in
    let bits = bits_built f _ was c.resolve-resolved.result.truths c.resolve-resolved.ensures.truths c.next_bits-bits.result c.next_bits-bits.ensures.value in
    let bits_room : length c.next_bits-bits.result ≡ 16 = search rules in
    let vector_room : length c.in_ok-vector.vector ≡ 6 = search rules in
    let made : RowRecord = record { bits = c.next_bits-bits.result; vector = c.in_ok-vector.vector; conditions = c.in_ok-conditions.conditions.list; used = c.in_ok-conditions.conditions.used } in
    left (λ rs' n'. Gained c.args.bank.now c.args.count.now.terms (terms_in (next f)) rs' n' × StandsFor s rs' n' 22 (next f) made) c.next_vector.new.memory.bank.now _ c.next_vector.new.memory.count.now.terms _ (search rules) (search rules)
    (row_built f _ _ _ x.0 x.1.recalled c.conditions_of.ensures.lent.2 _ _ c.next_vector.new.memory.known c.in_ok-conditions.conditions c.next_bits-bits.result c.in_ok-vector.vector x.1.made y.0 y.1.made bits (omega (arith, few_bits s c.args.sheet.now.lawful)) (omega (arith, few_readings s c.args.sheet.now.lawful)))
