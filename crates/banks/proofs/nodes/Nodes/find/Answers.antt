use Rattle.std.proofs.Common.{◌≡◌, rules, ap, sym, ◌∙◌, subst, arith}
use Rattle.std.proofs.Math.Logic.{∥∥₁_elim}
use Rattle.terms.specs.Bank.{node_at}
use Rattle.closure.specs.Working.{Reaches, Under, bucket_of}
use Rattle.closure.proofs.Chaining.{reached_next, none_reached, under_more}
use Rattle.banks.proofs.nodes.Nodes.find.Goals as goal

pub loop-at-preserved : goal.loop-at-preserved
loop-at-preserved c =
    let nodes = c.args.self.now in
    let k = c.in-Some.j in
    let below = subst (Under nodes.used) c.in-Some.is c.loop-at.invariant.0 in
    let other : node_at nodes.bank.now k ≡ c.args.node → ⊥ = search rules in (
      under_more k nodes.used _ (omega (arith, below)) (nodes.chains.down k),
      λ j r is. reached_next nodes.next k j (subst (λ p. Reaches nodes.next p j) c.in-Some.is (c.loop-at.invariant.1 j r is)) (λ e. other (ap (node_at nodes.bank.now) (sym e) ∙ is)),
    )

pub returns : goal.returns
returns c k lt is =
    let nodes = c.args.self.now in
    let bucket = c.bucket.ensures.value ∙ ap bucket_of (sym is) in
    ∥∥₁_elim nodes.listed (λ x y. absurd x)
    (λ listed. none_reached nodes.next k (subst (λ p. Reaches nodes.next p k) c.in_default.is (c.loop-at.invariant.1 k (rw bucket (listed k lt)) is)))
