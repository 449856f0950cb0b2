use Rattle.std.proofs.Common.{sym, ◌∙◌}
use Rattle.std.proofs.lemmas.Bool.{true≢false}
use Rattle.terms.specs.Terms.{Entails}
use Rattle.terms.specs.Bank.{literal_of}
use Rattle.closure.specs.Labels.{literals, no_condition}
use Rattle.folding.proofs.Entailed.{all_taken_more, all_at}
use Rattle.folding.proofs.view.View.are_entailed.Goals as goal

pub returns-then-not-is_entailed : goal.returns-then-not-is_entailed
returns-then-not-is_entailed c =
    let rs = c.args.self.now.records.now in (
      λ e. absurd (true≢false (sym e)),
      λ all. absurd (true≢false (sym (c.is_entailed.ensures.1 (all_at (Entails (literals rs c.args.given.now)) (literal_of rs) c.args.goals.now no_condition c.loop-goal.goal-index c.loop-goal-test.true all)) ∙ c.if-not-is_entailed.true)),
    )

pub loop-goal-preserved : goal.loop-goal-preserved
loop-goal-preserved c =
    let rs = c.args.self.now.records.now in
    all_taken_more (Entails (literals rs c.args.given.now)) (literal_of rs) c.args.goals.now no_condition c.loop-goal.goal-index c.loop-goal-test.true c.loop-goal.invariant (c.is_entailed.ensures.0 c.if-not-is_entailed.false)
