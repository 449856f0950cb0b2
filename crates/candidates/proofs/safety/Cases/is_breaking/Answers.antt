use Rattle.std.proofs.Common.{◌≡◌, length, take, sym, ap, ◌∙◌, arith, rules}
use Rattle.sheet.specs.View.{sheet_of}
use Rattle.forms.specs.Candidate.{branch_answers}
use Rattle.candidates.proofs.Judging.{case_tried, case_ready, invariant-at}
use Rattle.candidates.proofs.safety.Cases.is_breaking.Goals as goal

pub returns : goal.returns
returns c form laid bits labelled =
    let s = sheet_of c.args.self.now.sheet.now in
    let case = c.args.case in
    let claims = c.claims_of.result in
    let used = c.args.self.now.conditions.used in
    let list = c.signed-list.result in
    let long : length list ≡ 22 = search rules in
    let answers = take claims c.answers_of.result in
    let is : answers ≡ branch_answers (length s.claims) case = c.answers_of.ensures claims (omega (arith, c.claims_of.ensures.few)) ∙ ap (λ k. branch_answers k case) c.claims_of.ensures.number in
    let broken = invariant-at s form case c.args.self.now.bits.now answers bits is ∙ (sym c.truth.ensures ∙ c.if-truth.false) in
    case_tried s form c.args.bank.now c.args.count.terms c.args.self.now.conditions.list used laid case answers is list (omega (arith, long, c.args.self.now.room)) c.signed-list.ensures.front c.signed-list.ensures.back broken c.in_ok-verdict.verdict.impossible c.in_ok-verdict.ensures.1.verdict

pub returns-in_err-verdict : goal.returns-in_err-verdict
returns-in_err-verdict c form laid bits labelled =
    let s = sheet_of c.args.self.now.sheet.now in
    let case = c.args.case in
    let claims = c.claims_of.result in
    let used = c.args.self.now.conditions.used in
    let list = c.signed-list.result in
    let long : length list ≡ 22 = search rules in
    let answers = take claims c.answers_of.result in
    let is : answers ≡ branch_answers (length s.claims) case = c.answers_of.ensures claims (omega (arith, c.claims_of.ensures.few)) ∙ ap (λ k. branch_answers k case) c.claims_of.ensures.number in
    absurd (c.in_err-verdict.ensures.2 (case_ready s form c.args.bank.now c.args.count.terms c.args.self.now.conditions.list used laid case answers is list (omega (arith, long, c.args.self.now.room)) c.signed-list.ensures.front c.signed-list.ensures.back c.args.labels.now labelled))
