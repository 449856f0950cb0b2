use Rattle.std.proofs.Common.{◌+◌, ap, ◌∙◌, subst, add-zero, arith}
use Rattle.closure.specs.Working.{Grown}
use Rattle.closure.proofs.Merging.{grown_none, grown_more}
use Rattle.closure.proofs.Visiting.{joins_few}
use Rattle.closure.proofs.table.saturate.Goals as goal

pub loop-pending-init : goal.loop-pending-init
loop-pending-init c =
    grown_none c.args.places.now.bank.now c.args.places.now.terms c.args.labels.now c.requires.rooted

further : (c : goal.Else-found-eq0) → Grown c.args.places.now.bank.now c.args.places.now.terms c.args.labels.now c.sweep-found.new.labels (c.loop-pending.joins + c.sweep-found.result)
further c =
    grown_more c.args.places.now.bank.now c.args.places.now.terms c.args.labels.now c.loop-pending.labels c.sweep-found.new.labels c.loop-pending.joins c.sweep-found.result c.loop-pending.invariant c.sweep-found.ensures.grown

pub overflow_add-joins : goal.overflow_add-joins
overflow_add-joins c =
    omega (arith, joins_few c.args.places.now.bank.now c.args.places.now.terms c.args.labels.now c.sweep-found.new.labels (c.loop-pending.joins + c.sweep-found.result) (further c), c.args.places.now.few)

pub loop-pending-preserved : goal.loop-pending-preserved
loop-pending-preserved c = further c

pub loop-pending-smaller : goal.loop-pending-smaller
loop-pending-smaller c = omega (arith, c.sweep-found.ensures.grown.counted, c.if-found-eq0.false)

pub returns-then-found-eq0 : goal.returns-then-found-eq0
returns-then-found-eq0 c =
    record {
      grown = subst (Grown c.args.places.now.bank.now c.args.places.now.terms c.args.labels.now c.sweep-found.new.labels) (ap (λ k. c.loop-pending.joins + k) c.if-found-eq0.true ∙ add-zero c.loop-pending.joins) (grown_more c.args.places.now.bank.now c.args.places.now.terms c.args.labels.now c.loop-pending.labels c.sweep-found.new.labels c.loop-pending.joins c.sweep-found.result c.loop-pending.invariant c.sweep-found.ensures.grown);
      closed = c.sweep-found.ensures.closed c.if-found-eq0.true;
    }
