use Rattle.std.proofs.Common.{◌≡◌, Decides, rules, get_or, None, sym, ap, ◌∙◌, subst, arith}
use Rattle.std.proofs.lemmas.Bool.{both_ways}
use Rattle.closure.specs.Working.{sig, Reaches, Under}
use Rattle.closure.proofs.Chaining.{reached_next, none_reached, under_more}
use Rattle.closure.proofs.table.Table.lookup.Goals as goal

pub loop-link-preserved : goal.loop-link-preserved
loop-link-preserved c =
    let k = c.in-Some.j in
    let next = c.args.self.now.next in
    let below = subst (Under c.args.self.now.seen) c.in-Some.is c.loop-link.invariant.0 in
    let decides : Decides c.eq.result (c.signature.result ≡ c.args.sought) = search rules in (
      under_more k c.args.self.now.seen _ (omega (arith, below)) (c.args.self.now.chains.down k),
      λ j r is. reached_next next k j (subst (λ p. Reaches next p j) c.in-Some.is (c.loop-link.invariant.1 j r is))
          (λ e. both_ways c.eq.result c.if-eq.false (decides.1 (c.signature.ensures ∙ (ap (sig c.args.places.now.bank.now c.args.labels.now) (sym e) ∙ is)))),
    )

pub returns : goal.returns
returns c j r is =
    let t = c.args.self.now in
    let start = subst (λ b. Reaches t.next (get_or t.heads b None) j) (sym c.requires.bucket) r in
    none_reached t.next j (subst (λ p. Reaches t.next p j) c.in_default.is (c.loop-link.invariant.1 j start is))
