use Rattle.std.proofs.Common.{◌≡◌, ◌<◌, map, length, get_or, take, sym, refl, ◌∙◌, subst, arith}
use Rattle.std.proofs.lemmas.List.{length-map, get_or-map, length-set, take_all}
use Rattle.sheet.specs.System.{no_reading}
use Rattle.banks.specs.Gains.{Gained}
use Rattle.forms.specs.Rows.{start_of}
use Rattle.forms.specs.Candidate.{no_term}
use Rattle.candidates.proofs.Walking.{walked_start, over_nothing}
use Rattle.candidates.proofs.Listing.{added_break, placed_more, placed_break}
use Rattle.candidates.proofs.starting.start_vector.Goals as goal

pub loop-k-init : goal.loop-k-init
loop-k-init c = (refl, λ started named. (walked_start (over_nothing c.args.bank.now c.args.count.now.terms) started, λ k lt. absurd (omega arith)))

pub returns-in_err-out : goal.returns-in_err-out
returns-in_err-out c started named =
    let all = map start_of c.args.readings.now in
    let k = c.loop-k.k in
    let inside : k < length c.args.readings.now = c.loop-k-test.true in
    let inside' : k < length all = omega (arith, length-map c.args.readings.now start_of) in
    let t = start_of (get_or c.args.readings.now k no_reading) in
    let is : t ≡ get_or all k no_term = sym (get_or-map start_of c.args.readings.now k no_reading no_term inside) in
    let w = c.loop-k.invariant.1 started named in
    let x = c.in_err-out.ensures w.0.started (named k inside) in
    added_break _ _ _ _ _ _ _ _ x.0
    (placed_break all inside' is w.0 x.1 x.2) c.from_residual.ensures.1

pub loop-k-preserved : goal.loop-k-preserved
loop-k-preserved c = (
  length-set c.loop-k.out c.loop-k.k c.in_ok-out.field-0 ∙ c.loop-k.invariant.0,
  λ started named.
      let all = map start_of c.args.readings.now in
      let k = c.loop-k.k in
      let inside : k < length c.args.readings.now = c.loop-k-test.true in
      let inside' : k < length all = omega (arith, length-map c.args.readings.now start_of) in
      let t = start_of (get_or c.args.readings.now k no_reading) in
      let is : t ≡ get_or all k no_term = sym (get_or-map start_of c.args.readings.now k no_reading no_term inside) in
      let w = c.loop-k.invariant.1 started named in
      let x = c.in_ok-out.ensures w.0.started (named k inside) in
      placed_more all inside' is w.0 c.loop-k.out (omega (arith, c.loop-k.invariant.0)) w.1 c.start_place.auto.bank x.0 x.1,
)

pub returns : goal.returns
returns c started named =
    let all = map start_of c.args.readings.now in
    let w = c.loop-k.invariant.1 started named in
    let end : c.loop-k.k ≡ length c.args.readings.now = omega arith in
    let whole : take c.loop-k.k all ≡ all = take_all c.loop-k.k all (omega (arith, length-map c.args.readings.now start_of)) in
    (subst (λ ts. Gained c.args.bank.now c.args.count.now.terms ts c.loop-k.bank c.loop-k.count.terms) whole w.0.gained, λ k lt. w.1 k (omega arith))
