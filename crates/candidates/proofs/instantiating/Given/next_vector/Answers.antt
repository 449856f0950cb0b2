use Rattle.std.proofs.Common.{◌≡◌, ℕ, ◌<◌, map, length, get_or, take, sym, ◌∙◌, subst, arith}
use Rattle.std.proofs.lemmas.List.{length-set, take_all}
use Rattle.sheet.specs.declared.syntax.Reading.{Reading}
use Rattle.sheet.specs.Runs.{numbered}
use Rattle.sheet.specs.Stored.{term_in}
use Rattle.sheet.specs.System.{no_reading}
use Rattle.terms.specs.Terms.{Term}
use Rattle.banks.specs.Gains.{Gained}
use Rattle.forms.specs.Candidate.{no_term, terms_over}
use Rattle.candidates.specs.Working.{next_over}
use Rattle.candidates.proofs.Walking.{lent_more}
use Rattle.sheet.proofs.Numbering.{numbered_at, numbered-length}
use Rattle.candidates.proofs.Listing.{added_break, placed_more, placed_break}
use Rattle.candidates.proofs.instantiating.Given.next_vector.Goals as goal

pub returns-in_err-out-clause-places : goal.returns-in_err-out-clause-places
returns-in_err-out-clause-places c v over started =
    let values = terms_over v c.args.self.inputs.now (map term_in c.args.self.terms.now) in
    let f : ℕ → Reading → Term = λ n x. next_over c.args.chosen.now v values n x.next in
    let all = numbered f 0 c.args.readings.now in
    let long = numbered-length f 0 c.args.readings.now in
    let k = c.loop-k.k in
    let inside : k < length c.args.readings.now = c.loop-k-test.true in
    let inside' : k < length all = omega arith in
    let t = f k (get_or c.args.readings.now k no_reading) in
    let is : t ≡ get_or all k no_term = sym (numbered_at f c.args.readings.now k no_term no_reading inside) in
    let w = c.loop-k.invariant.2 v over started in
    let x = c.in_err-out.ensures.place v w.0.over w.0.started in
    added_break _ _ _ _ _ _ _ _ x.0
    (placed_break all inside' is w.0 x.1 x.2) c.from_residual.ensures.1

pub loop-k-preserved : goal.loop-k-preserved
loop-k-preserved c = (
  length-set c.loop-k.out c.loop-k.k c.in_ok-out.field-0 ∙ c.loop-k.invariant.0,
  lent_more c.args.memory.now c.loop-k.memory c.next_place.new.memory c.loop-k.invariant.1 c.next_place.ensures.lent,
  λ v over started.
      let values = terms_over v c.args.self.inputs.now (map term_in c.args.self.terms.now) in
      let f : ℕ → Reading → Term = λ n x. next_over c.args.chosen.now v values n x.next in
      let all = numbered f 0 c.args.readings.now in
      let long = numbered-length f 0 c.args.readings.now in
      let k = c.loop-k.k in
      let inside : k < length c.args.readings.now = c.loop-k-test.true in
      let inside' : k < length all = omega arith in
      let t = f k (get_or c.args.readings.now k no_reading) in
      let is : t ≡ get_or all k no_term = sym (numbered_at f c.args.readings.now k no_term no_reading inside) in
      let w = c.loop-k.invariant.2 v over started in
      let x = c.in_ok-out.ensures.place v w.0.over w.0.started in
      placed_more all inside' is w.0 c.loop-k.out (omega (arith, c.loop-k.invariant.0)) w.1 c.next_place.ensures.lent.2 x.0 x.1,
)

pub returns-clause-places : goal.returns-clause-places
returns-clause-places c v over started =
    let values = terms_over v c.args.self.inputs.now (map term_in c.args.self.terms.now) in
    let f : ℕ → Reading → Term = λ n x. next_over c.args.chosen.now v values n x.next in
    let all = numbered f 0 c.args.readings.now in
    let long = numbered-length f 0 c.args.readings.now in
    let w = c.loop-k.invariant.2 v over started in
    let end : c.loop-k.k ≡ length c.args.readings.now = omega arith in
    let whole : take c.loop-k.k all ≡ all = take_all c.loop-k.k all (omega arith) in
    (subst (λ ts. Gained c.args.memory.now.bank.now c.args.memory.now.count.now.terms ts c.loop-k.memory.bank.now c.loop-k.memory.count.now.terms) whole w.0.gained, record { made = λ k lt. w.1 k (omega arith); recalled = w.0.started.recalled })
