use Rattle.std.proofs.Common.{false, ◌∙◌}
use Rattle.sheet.specs.Memo.{truths_from}
use Rattle.sheet.proofs.Memos.{before_all, truths-length}
use Rattle.sheet.proofs.truth.Truths.of.Goals as goal

pub returns-clause-value : goal.returns-clause-value
returns-clause-value c =
    let g = c.args.self.now.given in
    c.below.ensures.value ∙ before_all false (truths_from g) c.args.n _ (truths-length g.bits.now g.questions.now g.claims.now g.formulas.now)
