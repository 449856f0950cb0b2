use Rattle.std.proofs.Common.{◌≡◌, ◌+◌, length, sym, refl, ◌∙◌, subst, arith}
use Rattle.closure.specs.Working.{flag, Assuming}
use Rattle.closure.proofs.Visiting.{flagged_yes, flagged_no}
use Rattle.closure.proofs.Settling.{assuming_start, assuming_more, settled_end}
use Rattle.closure.proofs.deciding.Question.close.Goals as goal
use Rattle.closure.proofs.deciding.Question.close.Goals.{then-assume, else-assume}

pub loop-condition-init : goal.loop-condition-init
loop-condition-init c =
    let q = c.args.self.now in
    assuming_start q.places.bank.now q.places.terms q.conditions.now c.start.new.labels c.start.new.labels c.start.ensures.own (λ k le. refl)

pub overflow_add-joins : goal.overflow_add-joins
overflow_add-joins c = omega (arith, c.loop-condition.invariant.counted, c.args.self.now.places.few)

pub loop-condition-preserved : goal.loop-condition-preserved
loop-condition-preserved c =
    let q = c.args.self.now in
    let r = c.assume.result in
    let j = c.loop-condition.joins in
    let j' = c.if-assume.joins in
    let i = c.loop-condition.condition-index in
    let e : j' ≡ j + flag r = elim c.if-assume.branch [ then-assume w ↦ flagged_yes r j j' w.if-assume.true w.joins-is | else-assume w ↦ flagged_no r j j' w.if-assume.false w.joins-is ] in
    subst (λ u. Assuming q.places.bank.now q.places.terms q.conditions.now c.start.new.labels c.assume.new.labels u (i + 1)) (sym e)
    (assuming_more q.places.bank.now q.places.terms q.conditions.now c.start.new.labels c.loop-condition.labels c.assume.new.labels j i c.loop-condition-test.true (q.lefts i c.loop-condition-test.true) (q.rights i c.loop-condition-test.true) q.lefts q.rights c.loop-condition.invariant r c.assume.ensures)

pub overflow_add-result : goal.overflow_add-result
overflow_add-result c =
    omega (arith, c.loop-condition.invariant.counted, c.saturate.ensures.grown.counted, c.args.self.now.places.few)

pub returns : goal.returns
returns c =
    let q = c.args.self.now in
    let all : c.loop-condition.condition-index ≡ length q.conditions.now = omega arith in
    let state = subst (Assuming q.places.bank.now q.places.terms q.conditions.now c.start.new.labels c.loop-condition.labels c.loop-condition.joins) all c.loop-condition.invariant in
    record {
      settled = settled_end q.places.bank.now q.places.terms q.conditions.now c.start.new.labels c.loop-condition.labels c.saturate.new.labels c.loop-condition.joins c.saturate.result q.lefts q.rights state c.saturate.ensures.grown c.saturate.ensures.closed;
      counted = omega (arith, c.loop-condition.invariant.counted, c.saturate.ensures.grown.counted);
      spare = λ k le. c.saturate.ensures.grown.spare k le ∙ (c.loop-condition.invariant.spare k le ∙ c.start.ensures.spare k le);
    }
