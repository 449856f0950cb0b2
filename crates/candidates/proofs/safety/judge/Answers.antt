use Rattle.std.proofs.Common.{◌≡◌, length, take, Ok, Err, refl, sym, ap, ◌∙◌, arith, rules}
use Rattle.sheet.specs.View.{sheet_of}
use Rattle.forms.specs.Candidate.{branch_answers}
use Rattle.forms.specs.Counted.{claim_terms}
use Rattle.rows.specs.Records.{row_in}
use Rattle.candidates.specs.Working.{Added}
use Rattle.candidates.specs.Cases.{Unbroken}
use Rattle.candidates.proofs.Listing.{added_break, left}
use Rattle.candidates.proofs.Laying.{claims_asked, all_laid, searched_added}
use Rattle.candidates.proofs.safety.judge.Goals as goal

pub returns-in_err-list : goal.returns-in_err-list
returns-in_err-list c =
    let s = sheet_of c.args.sheet.now in
    let rs = c.args.bank.now in
    let n = c.args.count.now.terms in
    let form = c.args.form.now in
    let claims = c.deref-claims.result.now in
    let claims_are = c.deref-claims.ensures.value in
    let given = c.over-given.result in
    let first = take c.claims_of-asked.result c.answers_of.result in
    let first_is = c.answers_of.ensures c.claims_of-asked.result (omega (arith, c.claims_of-asked.ensures.few)) ∙ ap (λ k. branch_answers k 0) c.claims_of-asked.ensures.number in
    let rs' = c.ask.new.memory.bank.now in
    let n' = c.ask.new.memory.count.now.terms in
    let h = claims_asked s rs n form c.requires.sound given.terms.now c.over-given.ensures.terms given.vector.now c.over-given.ensures.vector given.inputs.now c.over-given.ensures.inputs claims claims_are first first_is rs' n' c.ask.new.memory.known (Err c.in_err-list.field-0.0) c.in_err-list.ensures.conditions in
    left (λ xs m. Added rs n (claim_terms s (row_in s rs form)) xs m (Unbroken s (row_in s rs form)) c.from_residual.result) rs' _ n' _ (search rules) (search rules)
    (added_break rs n (claim_terms s (row_in s rs form)) rs' n' (Unbroken s (row_in s rs form)) c.in_err-list.field-0.0 c.from_residual.result h.0 (h.1, h.2) c.from_residual.ensures.1)

pub returns : goal.returns
returns c =
    let s = sheet_of c.args.sheet.now in
    let rs = c.args.bank.now in
    let n = c.args.count.now.terms in
    let form = c.args.form.now in
    let row = row_in s rs form in
    let claims = c.deref-claims.result.now in
    let claims_are = c.deref-claims.ensures.value in
    let given = c.over-given.result in
    let first = take c.claims_of-asked.result c.answers_of.result in
    let first_is = c.answers_of.ensures c.claims_of-asked.result (omega (arith, c.claims_of-asked.ensures.few)) ∙ ap (λ k. branch_answers k 0) c.claims_of-asked.ensures.number in
    let rs' = c.ask.new.memory.bank.now in
    let n' = c.ask.new.memory.count.now.terms in
    let list = c.in_ok-list.list in
    let h = claims_asked s rs n form c.requires.sound given.terms.now c.over-given.ensures.terms given.vector.now c.over-given.ensures.vector given.inputs.now c.over-given.ensures.inputs claims claims_are first first_is rs' n' c.ask.new.memory.known (Ok list) c.in_ok-list.ensures.conditions in
    let laid = all_laid s rs n form c.requires.sound rs' n' h.0.extends c.claims_of-asked.result c.claims_of-asked.ensures.number list (λ k lt. h.1 k (omega (arith, ap length claims_are, c.claims_of-asked.ensures.number))) (take form.used form.conditions) refl c.append-conditions.result.list c.append-conditions.result.used c.append-conditions.ensures.used c.append-conditions.ensures.front c.append-conditions.ensures.back in
    let bits : row.bits ≡ take c.bits_of.result form.bits = ap (λ k. take k form.bits) (sym c.bits_of.ensures) in
    left (λ xs m. Added rs n (claim_terms s row) xs m (Unbroken s row) c.is_unbroken.result) rs' _ n' _ (search rules) (search rules)
    (searched_added s row rs n (claim_terms s row) rs' n' h.0 c.is_unbroken.result (c.is_unbroken.ensures row laid bits c.requires.labelled))
