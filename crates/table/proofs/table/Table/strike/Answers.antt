use Rattle.std.proofs.Common.{sym, ap, ◌∙◌, subst}
use Rattle.rules.specs.declared.Answer.{Answer}
use Rattle.rules.specs.declared.Call.TheVariants.{Strike}
use Rattle.table.specs.Answers.{answer_of_strike}
use Rattle.table.specs.Standing.{Performs}
use Rattle.table.proofs.Handing.{joined_settled}
use Rattle.table.proofs.table.Table.strike.Goals as goal

pub returns-clause-performs : goal.returns-clause-performs
returns-clause-performs c =
    subst (λ (answer : Answer). Performs c.args.self.now (Strike c.args.ticket.branch) answer c.strike_branch-made.new.self)
    (joined_settled c.args.ticket c.strike_branch-made.result ∙ ap answer_of_strike (sym c.settle.ensures)) c.strike_branch-made.ensures.performs
