use Rattle.std.proofs.Common.{◌/◌, ◌%◌, ◌^◌, ◌<◌, eqb, sym, ap, ◌∙◌, subst, arith}
use Rattle.std.proofs.lemmas.Bool.{le-ltb}
use Rattle.terms.proofs.NameSets.{mentions_occurs, occurs-small}
use Rattle.terms.proofs.TermRecord.mentions.Goals as goal

pub returns-then-x-lt32 : goal.returns-then-x-lt32
returns-then-x-lt32 c t is = ap (λ k. eqb (k / 2 ^ c.args.x % 2) 1) is ∙ mentions_occurs c.args.x t

pub returns-else-x-lt32 : goal.returns-else-x-lt32
returns-else-x-lt32 c t is =
    le-ltb c.args.x 32 c.if-x-lt32.false ∙ sym (occurs-small c.args.x t c.if-x-lt32.false (subst (λ k. k < 2 ^ 32) is (omega arith)))
