use Rattle.std.proofs.Common.{◌∙◌, arith}
use Rattle.std.proofs.lemmas.Result.{err_from_is_err_and}
use Rattle.folding.proofs.Passes.{left_broken, right_broken, conditions_more, conditions_all}
use Rattle.folding.proofs.rewriting.Rewriting.rewrite_conditions.Goals as goal

pub returns-in_err-left-clause-changed : goal.returns-in_err-left-clause-changed
returns-in_err-left-clause-changed c =
    let s = c.args.self.now in
    let l = c.loop-condition in
    let end = c.rewrite.new.self in
    let p = err_from_is_err_and c.from_residual.result c.from_residual.ensures.1 in
    rw (p.1, p.2)
    (left_broken s.bank.now s.count.now.terms s.change.now s.suits l.condition-index c.args.conditions.now l.conditions l.self.bank.now l.self.count.now.terms l.invariant.0 l.self.change.now l.invariant.1 c.loop-condition-test.true (c.requires.lefts l.condition-index c.loop-condition-test.true) (c.requires.rights l.condition-index c.loop-condition-test.true) end.bank.now end.count.now.terms c.in_err-left.field-0.0 c.in_err-left.ensures.adding)

pub returns-in_err-right-clause-changed : goal.returns-in_err-right-clause-changed
returns-in_err-right-clause-changed c =
    let s = c.args.self.now in
    let l = c.loop-condition in
    let half = c.rewrite.new.self in
    let end = c.rewrite-in-loop-condition.new.self in
    let p = err_from_is_err_and c.from_residual-in_err-right.result c.from_residual-in_err-right.ensures.1 in
    rw (p.1, p.2)
    (right_broken s.bank.now s.count.now.terms s.change.now s.suits l.condition-index c.args.conditions.now l.conditions l.self.bank.now l.self.count.now.terms l.invariant.0 l.self.change.now l.invariant.1 c.loop-condition-test.true (c.requires.lefts l.condition-index c.loop-condition-test.true) (c.requires.rights l.condition-index c.loop-condition-test.true) half.bank.now half.count.now.terms c.in_ok-left.left c.in_ok-left.ensures.adding half.change.now (c.rewrite.ensures.change ∙ l.invariant.1) end.bank.now end.count.now.terms c.in_err-right.field-0.0 c.in_err-right.ensures.adding)

pub loop-condition-preserved : goal.loop-condition-preserved
loop-condition-preserved c =
    let s = c.args.self.now in
    let l = c.loop-condition in
    let first = c.rewrite in
    let half = c.rewrite.new.self in
    let second = c.rewrite-in-loop-condition in
    let end = c.rewrite-in-loop-condition.new.self in (
      conditions_more s.bank.now s.count.now.terms s.change.now s.suits l.condition-index c.args.conditions.now l.conditions l.self.bank.now l.self.count.now.terms l.invariant.0 l.self.change.now l.invariant.1 c.loop-condition-test.true (c.requires.lefts l.condition-index c.loop-condition-test.true) (c.requires.rights l.condition-index c.loop-condition-test.true) half.bank.now half.count.now.terms c.in_ok-left.left c.in_ok-left.ensures.adding half.change.now (first.ensures.change ∙ l.invariant.1) end.bank.now end.count.now.terms (omega (arith, c.loop-condition-test.true, l.auto.conditions)) c.in_ok-right.right c.in_ok-right.ensures.adding,
      second.ensures.change ∙ (first.ensures.change ∙ l.invariant.1),
      second.ensures.lent.0 ∙ (first.ensures.lent.0 ∙ l.invariant.2),
      second.ensures.lent.1 ∙ (first.ensures.lent.1 ∙ l.invariant.3),
    )

pub returns-clause-changed : goal.returns-clause-changed
returns-clause-changed c = conditions_all _ _ _ _ _ _ _ _ c.loop-condition.invariant.0 (omega (arith, c.loop-condition-test.false))
