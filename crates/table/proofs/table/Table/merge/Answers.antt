use Rattle.std.proofs.Common.{sym, ap, ◌∙◌, subst}
use Rattle.rules.specs.declared.Answer.{Answer}
use Rattle.rules.specs.declared.Call.TheVariants.{Merge}
use Rattle.table.specs.Answers.{answer_of_offer}
use Rattle.table.specs.Standing.{Performs}
use Rattle.table.proofs.Handing.{done_settled}
use Rattle.table.proofs.table.Table.merge.Goals as goal

pub returns-clause-performs : goal.returns-clause-performs
returns-clause-performs c =
    subst (λ (answer : Answer). Performs c.args.self.now (Merge c.args.ticket.branch c.args.target c.args.height) answer c.merge_branch-made.new.self)
    (done_settled c.args.ticket c.merge_branch-made.result ∙ ap answer_of_offer (sym c.settle.ensures)) c.merge_branch-made.ensures.performs
