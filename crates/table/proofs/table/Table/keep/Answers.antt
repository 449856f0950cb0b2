use Rattle.std.proofs.Common.{sym, ap, ◌∙◌, subst}
use Rattle.rules.specs.declared.Answer.{Answer}
use Rattle.rules.specs.declared.Call.TheVariants.{Keep}
use Rattle.table.specs.Answers.{answer_of_offer}
use Rattle.table.specs.Standing.{Performs}
use Rattle.table.proofs.Handing.{done_settled}
use Rattle.table.proofs.table.Table.keep.Goals as goal

pub returns-clause-performs : goal.returns-clause-performs
returns-clause-performs c =
    subst (λ (answer : Answer). Performs c.args.self.now (Keep c.args.ticket.branch c.args.height) answer c.keep_branch-made.new.self)
    (done_settled c.args.ticket c.keep_branch-made.result ∙ ap answer_of_offer (sym c.settle.ensures)) c.keep_branch-made.ensures.performs
