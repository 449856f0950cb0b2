use Rattle.std.proofs.Common.{refl, ap, ◌∙◌, rules}
use Rattle.forms.specs.Candidate.{branch_answers}
use Rattle.forms.specs.Counted.{sides_of}
use Rattle.candidates.specs.Outcome.{Lists}
use Rattle.candidates.specs.Working.{Added}
use Rattle.candidates.proofs.Listing.{left}
use Rattle.sheet.specs.View.{sheet_of}
use Rattle.candidates.proofs.Completing.{building, next, conditions_joined, conditions_built}
use Rattle.candidates.proofs.building.build_conditions.Goals as goal

pub returns : goal.returns
returns c =
    let s = sheet_of c.args.sheet.now in
    let f = building s c.args.sheet.now.lawful c.requires.sound c.args.names.now c.requires.names c.args.branch c.over-given.result.terms.now c.over-given.ensures.terms c.over-given.ensures.vector (c.answers_of.ensures c.questions_of-asked.result c.questions_of-asked.ensures.few ∙ ap (λ k. branch_answers k c.args.branch) c.questions_of-asked.ensures.number) c.over-given.ensures.inputs in
    left (λ rs' n'. Added c.args.bank.now c.args.count.now.terms (sides_of (next f).conditions) rs' n' (Lists rs' n' (next f).conditions) c.conditions_of.result) c.conditions_of.new.memory.bank.now _ c.conditions_of.new.memory.count.now.terms _ (search rules) (search rules)
    (conditions_built f _ _ _ c.conditions_of.result (conditions_joined f _ _ _ _ refl c.conditions_of.result c.conditions_of.ensures.conditions))
