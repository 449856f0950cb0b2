use Rattle.std.proofs.Common.{sym, ap, ◌∙◌, arith}
use Rattle.folding.specs.Rewriting.{arg}
use Rattle.folding.proofs.Changes.{arg_stays, known_set}
use Rattle.folding.proofs.rewriting.Rewriting.settle.Goals as goal

pub invariant_of-self-clause-is_known : goal.invariant_of-self-clause-is_known
invariant_of-self-clause-is_known c =
    let s = c.args.self.now in
    let end = c.add.new.self in
    let place = c.args.place in
    let added = c.in_ok-became.ensures.adding in
    let e = added.gained.extends in
    let stays = ap (λ change. arg end.bank.now change place) c.add.ensures.change ∙ arg_stays s.bank.now end.bank.now s.count.now.terms end.count.now.terms e s.change.now s.suits place c.requires.inside in
    known_set end.bank.now end.count.now.terms end.change.now end.known place c.in_ok-became.became end.is_known (omega (arith, c.requires.inside, e.more)) added.inside (added.is ∙ (c.requires.became ∙ sym stays))
