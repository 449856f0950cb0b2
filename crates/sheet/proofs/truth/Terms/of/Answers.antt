use Rattle.std.proofs.Common.{ℕ, Bool, false, get_or, ◌∙◌}
use Rattle.sheet.specs.Truth.{chosen}
use Rattle.sheet.proofs.Memos.{before_all, chosen-length}
use Rattle.sheet.proofs.truth.Terms.of.Goals as goal

pub returns-clause-value : goal.returns-clause-value
returns-clause-value c =
    let truth : ℕ → Bool = λ f. get_or c.args.self.now.truths.now f false in
    c.below.ensures.value ∙ before_all 0 (chosen truth c.args.self.now.choices.now) c.args.n _ (chosen-length truth c.args.self.now.choices.now)
