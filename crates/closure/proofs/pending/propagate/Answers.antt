use Rattle.std.proofs.Common.{◌≡◌, ◌+◌, true, ◌∷◌, sym, ◌∙◌, subst, arith}
use Rattle.queue.specs.Entries.{entries, room}
use Rattle.closure.specs.Working.{Joined}
use Rattle.closure.specs.Pending.{Due}
use Rattle.closure.proofs.Merging.{grown_none}
use Rattle.closure.proofs.Visiting.{joins_few}
use Rattle.closure.proofs.Postponing.{due_more, grown_due, classes_joined, entries_few}
use Rattle.closure.proofs.pending.propagate.Goals as goal

pub loop-equation-init : goal.loop-equation-init
loop-equation-init c =
    let rs = c.args.places.now.bank.now in
    let n = c.args.places.now.terms in
    let l = c.args.labels.now in
    let grown = grown_none rs n l c.requires.rooted in
    record {
      grown = grown;
      due = due_more rs n l l 0 (entries c.args.pending.now.queue) (entries c.revisit_users.new.pending) grown (subst (Due rs n l) (sym c.args.pending.now.empty) tt) c.revisit_users.ensures.added;
      short = c.revisit_users.ensures.roomy ∙ c.args.pending.now.short;
    }

pub overflow_add-joins : goal.overflow_add-joins
overflow_add-joins c =
    omega (arith, joins_few c.args.places.now.bank.now c.args.places.now.terms c.args.labels.now c.loop-equation.labels c.loop-equation.joins c.loop-equation.invariant.grown, c.args.places.now.few)

-- the equation that is settled, and the others, are due
parts : (c : goal.Then-settle) → Due c.args.places.now.bank.now c.args.places.now.terms c.args.labels.now (c.in-Some.equation ∷ entries c.pop.new.self)
parts c = subst (Due c.args.places.now.bank.now c.args.places.now.terms c.args.labels.now) c.in-Some.ensures.result c.loop-equation.invariant.due

short : (c : goal.Then-settle) → room c.settle.new.pending ≡ 64
short c = c.settle.ensures.roomy ∙ (c.pop.ensures.roomy ∙ c.loop-equation.invariant.short)

pub loop-equation-smaller-then-settle : goal.loop-equation-smaller-then-settle
loop-equation-smaller-then-settle c =
    let due = (parts c).0 in
    let fewer = classes_joined c.args.places.now.bank.now c.args.places.now.terms c.loop-equation.labels c.settle.new.labels c.in-Some.equation true due.0 due.1 c.loop-equation.invariant.grown.rooted (subst (Joined c.args.places.now.terms c.in-Some.equation.left c.in-Some.equation.right c.loop-equation.labels c.settle.new.labels) c.if-settle.true c.settle.ensures.joined) in
    omega (arith, fewer, entries_few c.settle.new.pending, short c)

pub loop-equation-preserved-then-settle : goal.loop-equation-preserved-then-settle
loop-equation-preserved-then-settle c =
    let rs = c.args.places.now.bank.now in
    let n = c.args.places.now.terms in
    let l = c.args.labels.now in
    let l'' = c.settle.new.labels in
    let due = parts c in
    let joined = subst (Joined n c.in-Some.equation.left c.in-Some.equation.right c.loop-equation.labels l'') c.if-settle.true c.settle.ensures.joined in
    let grown = grown_due rs n l c.loop-equation.labels l'' c.loop-equation.joins c.in-Some.equation true c.loop-equation.invariant.grown due.0 joined in
    record {
      grown = grown;
      due = due_more rs n l l'' (c.loop-equation.joins + 1) (entries c.pop.new.self) (entries c.settle.new.pending) grown due.1 c.settle.ensures.added;
      short = short c;
    }
