use Rattle.std.proofs.Common.{◌∙◌, arith}
use Rattle.std.proofs.lemmas.Result.{err_from_is_err_and}
use Rattle.folding.proofs.Passes.{places_more, places_broken, places_all}
use Rattle.folding.proofs.rewriting.Rewriting.rewrite_places.Goals as goal

pub returns-in_err-place-clause-changed : goal.returns-in_err-place-clause-changed
returns-in_err-place-clause-changed c =
    let s = c.args.self.now in
    let l = c.loop-place in
    let end = c.rewrite.new.self in
    let p = err_from_is_err_and c.from_residual.result c.from_residual.ensures.1 in
    rw (p.1, p.2)
    (places_broken s.bank.now s.count.now.terms s.change.now s.suits l.place-index c.args.places.now l.places l.self.bank.now l.self.count.now.terms l.invariant.0 l.self.change.now l.invariant.1 c.loop-place-test.true (c.requires l.place-index c.loop-place-test.true) end.bank.now end.count.now.terms c.in_err-place.field-0.0 c.in_err-place.ensures.adding)

pub loop-place-preserved : goal.loop-place-preserved
loop-place-preserved c =
    let s = c.args.self.now in
    let l = c.loop-place in
    let end = c.rewrite.new.self in (
      places_more s.bank.now s.count.now.terms s.change.now s.suits l.place-index c.args.places.now l.places l.self.bank.now l.self.count.now.terms l.invariant.0 l.self.change.now l.invariant.1 c.loop-place-test.true (c.requires l.place-index c.loop-place-test.true) end.bank.now end.count.now.terms (omega (arith, c.loop-place-test.true, l.auto.places)) c.in_ok-place.field-0 c.in_ok-place.ensures.adding,
      c.rewrite.ensures.change ∙ l.invariant.1,
      c.rewrite.ensures.lent.0 ∙ l.invariant.2,
      c.rewrite.ensures.lent.1 ∙ l.invariant.3,
    )

pub returns-clause-changed : goal.returns-clause-changed
returns-clause-changed c = places_all _ _ _ _ _ _ _ _ c.loop-place.invariant.0 (omega (arith, c.loop-place-test.false))
