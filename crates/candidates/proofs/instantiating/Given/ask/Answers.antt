use Rattle.std.proofs.Common.{◌≡◌, ◌<◌, map, length, get_or, take, sym, ap, ◌∙◌, subst, arith}
use Rattle.sheet.specs.Runs.{numbered}
use Rattle.sheet.specs.Stored.{term_in}
use Rattle.forms.specs.Candidate.{terms_over, condition_of}
use Rattle.forms.specs.Counted.{sides_of}
use Rattle.candidates.specs.Working.{literal_for, no_literal}
use Rattle.candidates.proofs.Walking.{lent_more}
use Rattle.std.proofs.lemmas.List.{take_all, length-set}
use Rattle.banks.specs.Gains.{Gained}
use Rattle.sheet.proofs.Numbering.{numbered_at, numbered-length}
use Rattle.candidates.proofs.Listing.{added_break, asked_more, asked_break, no_equation}
use Rattle.candidates.proofs.instantiating.Given.ask.Goals as goal

pub returns-in_err-list-clause-conditions : goal.returns-in_err-list-clause-conditions
returns-in_err-list-clause-conditions c v over started =
    let values = terms_over v c.args.self.inputs.now (map term_in c.args.self.terms.now) in
    let all = numbered (condition_of values c.args.answers.now) 0 c.args.questions.now in
    let i = c.loop-i.i in
    let inside : i < length c.args.questions.now = c.loop-i-test.true in
    let inside' : i < length all = omega (arith, numbered-length (condition_of values c.args.answers.now) 0 c.args.questions.now) in
    let l = literal_for values (get_or c.args.questions.now i no_equation) c.at_or-answer.result in
    let is : l ≡ get_or all i no_literal = ap (literal_for values (get_or c.args.questions.now i no_equation)) c.at_or-answer.ensures ∙ sym (numbered_at (condition_of values c.args.answers.now) c.args.questions.now i no_literal no_equation inside) in
    let w = c.loop-i.invariant.2 v over started in
    let x = c.in_err-list.ensures.condition v w.0.over w.0.started in
    added_break _ _ _ _ _ _ _ _ x.0
    (asked_break all inside' is w.0 x.1 x.2) c.from_residual.ensures.1

pub loop-i-preserved : goal.loop-i-preserved
loop-i-preserved c = (
  length-set c.loop-i.list c.loop-i.i c.in_ok-list.field-0 ∙ c.loop-i.invariant.0,
  lent_more c.args.memory.now c.loop-i.memory c.condition_of.new.memory c.loop-i.invariant.1 c.condition_of.ensures.lent,
  λ v over started.
      let values = terms_over v c.args.self.inputs.now (map term_in c.args.self.terms.now) in
      let all = numbered (condition_of values c.args.answers.now) 0 c.args.questions.now in
      let i = c.loop-i.i in
      let inside : i < length c.args.questions.now = c.loop-i-test.true in
      let inside' : i < length all = omega (arith, numbered-length (condition_of values c.args.answers.now) 0 c.args.questions.now) in
      let l = literal_for values (get_or c.args.questions.now i no_equation) c.at_or-answer.result in
      let is : l ≡ get_or all i no_literal = ap (literal_for values (get_or c.args.questions.now i no_equation)) c.at_or-answer.ensures ∙ sym (numbered_at (condition_of values c.args.answers.now) c.args.questions.now i no_literal no_equation inside) in
      let w = c.loop-i.invariant.2 v over started in
      let x = c.in_ok-list.ensures.condition v w.0.over w.0.started in
      asked_more all inside' is w.0 c.loop-i.list (omega (arith, c.loop-i.invariant.0)) w.1 c.condition_of.ensures.lent.2 x.0 x.1,
)

pub returns-clause-conditions : goal.returns-clause-conditions
returns-clause-conditions c v over started =
    let values = terms_over v c.args.self.inputs.now (map term_in c.args.self.terms.now) in
    let all = numbered (condition_of values c.args.answers.now) 0 c.args.questions.now in
    let w = c.loop-i.invariant.2 v over started in
    let end : c.loop-i.i ≡ length c.args.questions.now = omega arith in
    let whole : take c.loop-i.i all ≡ all = take_all c.loop-i.i all (omega (arith, numbered-length (condition_of values c.args.answers.now) 0 c.args.questions.now)) in
    (subst (λ ls. Gained c.args.memory.now.bank.now c.args.memory.now.count.now.terms (sides_of ls) c.loop-i.memory.bank.now c.loop-i.memory.count.now.terms) whole w.0.gained, record { made = λ k lt. w.1 k (omega arith); recalled = w.0.started.recalled })
