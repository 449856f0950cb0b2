use Rattle.std.proofs.Common.{sym, ap, ◌∙◌, subst}
use Rattle.rules.specs.declared.Answer.{Answer}
use Rattle.rules.specs.declared.Call.TheVariants.{GiveBack}
use Rattle.table.specs.Answers.{answer_of_offer}
use Rattle.table.specs.Standing.{Performs}
use Rattle.table.proofs.Handing.{done_settled}
use Rattle.table.proofs.table.Table.give_back.Goals as goal

pub returns-clause-performs : goal.returns-clause-performs
returns-clause-performs c =
    subst (λ (answer : Answer). Performs c.args.self.now (GiveBack c.args.ticket.branch) answer c.give_branch-made.new.self)
    (done_settled c.args.ticket c.give_branch-made.result ∙ ap answer_of_offer (sym c.settle.ensures)) c.give_branch-made.ensures.performs
