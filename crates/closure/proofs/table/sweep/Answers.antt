use Rattle.std.proofs.Common.{◌≡◌, ◌+◌, sym, subst, arith}
use Rattle.closure.specs.Working.{Swept}
use Rattle.closure.proofs.Merging.{grown_none, grown_more}
use Rattle.closure.proofs.Chaining.{swept_none}
use Rattle.closure.proofs.Visiting.{joins_few}
use Rattle.closure.proofs.table.sweep.Goals as goal

pub loop-table-init : goal.loop-table-init
loop-table-init c =
    let p = c.args.places.now in
    record {
      grown = grown_none p.bank.now p.terms c.args.labels.now c.requires.rooted;
      inside = omega arith;
      swept = λ _. subst (Swept p.bank.now c.args.labels.now c.new-table.result.heads c.new-table.result.next) (sym c.new-table.ensures) (swept_none p.bank.now c.args.labels.now c.new-table.result.heads c.new-table.result.next);
    }

pub overflow_add-joins : goal.overflow_add-joins
overflow_add-joins c =
    let p = c.args.places.now in
    let all = grown_more p.bank.now p.terms c.args.labels.now c.loop-table.labels c.step-joins.new.labels c.loop-table.joins c.step-joins.result c.loop-table.invariant.grown c.step-joins.ensures.grown in
    omega (arith, joins_few p.bank.now p.terms c.args.labels.now c.step-joins.new.labels (c.loop-table.joins + c.step-joins.result) all, p.few)

pub loop-table-preserved : goal.loop-table-preserved
loop-table-preserved c =
    let p = c.args.places.now in
    record {
      grown = grown_more p.bank.now p.terms c.args.labels.now c.loop-table.labels c.step-joins.new.labels c.loop-table.joins c.step-joins.result c.loop-table.invariant.grown c.step-joins.ensures.grown;
      inside = omega (arith, c.step-joins.ensures.seen);
      swept = λ z. let none : c.step-joins.result ≡ 0 = omega (arith, z) in let before : c.loop-table.joins ≡ 0 = omega (arith, z) in c.step-joins.ensures.swept none (c.loop-table.invariant.swept before);
    }
