use Rattle.std.proofs.Common.{ap, ◌∙◌, ⊎_elim, arith}
use Rattle.std.proofs.lemmas.Bool.{eq-eqb}
use Rattle.closure.specs.Labels.{label}
use Rattle.closure.specs.Working.{negated, opposite}
use Rattle.closure.proofs.Entailing.{settled_different, settled_equal, broken_first, broken_later, broken_cases, never, joined_spare, joined_rooted}
use Rattle.closure.proofs.deciding.Question.is_forced.Goals as goal

pub returns-then-labels-left : goal.returns-then-labels-left
returns-then-labels-left c =
    let l = c.close.new.labels in
    let d = negated c.args.goal in
    let conds = c.args.self.now.conditions.now in
    let is = ap opposite c.in-Equal.is in
    record {
      settled = settled_different c.args.self.now.places.bank.now c.args.self.now.places.terms d conds l is c.close.ensures.settled;
      broken = (λ _. broken_first d conds l is c.if-labels-left.true, λ _. eq-eqb (label l d.left) (label l d.right) c.if-labels-left.true);
      spare = c.close.ensures.spare;
    }

pub returns-else-labels-left : goal.returns-else-labels-left
returns-else-labels-left c =
    let l = c.close.new.labels in
    let d = negated c.args.goal in
    let conds = c.args.self.now.conditions.now in
    record {
      settled = settled_different c.args.self.now.places.bank.now c.args.self.now.places.terms d conds l (ap opposite c.in-Equal.is) c.close.ensures.settled;
      broken = (λ e. broken_later d conds l (c.is_broken.ensures.0 e), λ b. ⊎_elim (λ w. absurd (c.if-labels-left.false w.1)) c.is_broken.ensures.1 (broken_cases d conds l b));
      spare = c.close.ensures.spare;
    }

pub returns-in-Different : goal.returns-in-Different
returns-in-Different c =
    let l = c.saturate.new.labels in
    let d = negated c.args.goal in
    let conds = c.args.self.now.conditions.now in
    let is = ap opposite c.in-Different.is in
    let tests = c.is_broken-in-Different.ensures in
    record {
      settled = settled_equal c.args.self.now.places.bank.now c.args.self.now.places.terms d conds c.close.new.labels c.join.new.labels l c.join.result c.saturate.result is c.requires.left c.requires.right c.args.self.now.lefts c.args.self.now.rights c.close.ensures.settled c.join.ensures c.saturate.ensures.grown c.saturate.ensures.closed;
      broken = (λ e. broken_later d conds l (tests.0 e), λ b. ⊎_elim (λ w. absurd (never d.sign w.0 is)) tests.1 (broken_cases d conds l b));
      spare = λ k le. c.saturate.ensures.grown.spare k le ∙ (joined_spare c.args.self.now.places.terms d.left d.right c.close.new.labels c.join.new.labels c.join.result c.join.ensures k le ∙ c.close.ensures.spare k le);
    }

pub saturate-requires : goal.saturate-requires
saturate-requires c =
    let q = c.args.self.now in
    let goal = c.args.goal in
    record {
      labelled = omega arith;
      rooted = joined_rooted q.places.bank.now q.places.terms goal.left goal.right c.close.new.labels c.join.new.labels c.join.result c.requires.left c.requires.right c.close.ensures.settled.rooted c.join.ensures;
    }
