use Rattle.std.proofs.Common.{◌≡◌, ◌<◌, map, sym, ap, ◌∙◌, subst, ap₂, arith}
use Rattle.sheet.specs.declared.syntax.Term.TheVariants.{Apply}
use Rattle.sheet.specs.Memo.{before}
use Rattle.sheet.specs.Stored.{term_in}
use Rattle.terms.specs.declared.Node.TheVariants.{Name}
use Rattle.terms.specs.Terms.{name, unary, binary}
use Rattle.terms.proofs.Standing.{ternary_same}
use Rattle.forms.specs.Candidate.{no_term, terms_over}
use Rattle.candidates.specs.Working.{Placed}
use Rattle.candidates.proofs.Walking.{placed_interned, placed_held, walked_start, walked_more, walked_placed, walked_break, over_none, over_past, over_here, over_reading, over_input, over_zero, over_one, over_two, over_three, has_unary, has_binary, has_ternary}
use Rattle.candidates.proofs.instantiating.Given.+place_below.Goals.{then-n-below-via-then-n-below, then-n-below-via-else-n-below+then-n-self}
use Rattle.candidates.proofs.instantiating.Given.+place_below.Goals as goal

pub returns-then-n-below-clause-place : goal.returns-then-n-below-clause-place
returns-then-n-below-clause-place t c v over started =
    let values = terms_over v c.args.self.inputs.now (map term_in c.args.self.terms.now) in
    let none : before no_term values c.args.n c.args.below ≡ no_term =
    elim c.then-n-below.branch [
      | then-n-below-via-then-n-below w ↦ over_none v c.args.self.inputs.now c.args.self.terms.now w.if-n-below.true
      | then-n-below-via-else-n-below+then-n-self w ↦ over_past v c.args.self.inputs.now c.args.self.terms.now c.args.below w.if-n-self.true
    ] in
    placed_interned _ _ _ _ _ _ (Name 0) _ started (sym none) c.intern.result (c.intern.ensures.terms started.bank (omega arith)) c.intern.ensures.nodes

pub returns-in-Some-clause-place : goal.returns-in-Some-clause-place
returns-in-Some-clause-place t c v over started =
    let found = started.recalled c.args.n c.in-Some.place (sym c.in-Some.ensures) in
    placed_held _ _ _ _ _ c.in-Some.place started found.0 (found.1 ∙ sym (over_here v c.args.self.inputs.now c.args.self.terms.now c.if-n-below.false c.if-n-self.false))

pub returns-in-Reading-clause-place : goal.returns-in-Reading-clause-place
returns-in-Reading-clause-place t c v over started =
    let values = terms_over v c.args.self.inputs.now (map term_in c.args.self.terms.now) in
    let is = over_reading v c.args.self.inputs.now c.args.self.terms.now c.if-n-below.false c.if-n-self.false c.in-Reading.is in
    subst (λ x. Placed values c.args.memory.now.bank.now c.args.memory.now.count.now.terms x c.reading_place.new.memory.bank.now c.reading_place.new.memory.count.now.terms c.reading_place.new.memory.known c.reading_place.result) (sym is) (c.reading_place.ensures.place v over started)

pub returns-in-Input-clause-place : goal.returns-in-Input-clause-place
returns-in-Input-clause-place t c v over started =
    let small : c.at_or-name.result < 32 = omega (arith, c.at_or-name.ensures, over.small c.in-Input.i) in
    c.add.ensures.placed _ started small _ (ap name c.at_or-name.ensures ∙ sym (over_input v c.args.self.inputs.now c.args.self.terms.now c.if-n-below.false c.if-n-self.false c.in-Input.is)) (over_here v c.args.self.inputs.now c.args.self.terms.now c.if-n-below.false c.if-n-self.false)

pub returns-in-Zero-clause-place : goal.returns-in-Zero-clause-place
returns-in-Zero-clause-place t c v over started =
    c.add-in-Zero.ensures.placed _ started tt _ (sym (over_zero v c.args.self.inputs.now c.args.self.terms.now c.if-n-below.false c.if-n-self.false (c.in-Apply.is ∙ ap (Apply c.in-Apply.f) c.in-Zero.is))) (over_here v c.args.self.inputs.now c.args.self.terms.now c.if-n-below.false c.if-n-self.false)

pub returns-in_err-a-in-One-clause-place : goal.returns-in_err-a-in-One-clause-place
returns-in_err-a-in-One-clause-place t c v over started =
    let is = over_one v c.args.self.inputs.now c.args.self.terms.now c.if-n-below.false c.if-n-self.false (c.in-Apply.is ∙ ap (Apply c.in-Apply.f) c.in-One.is) in
    walked_break (walked_start over started) _ _ _ _ (λ all u. let p = has_unary all is u in (p.0, tt)) (c.in_err-a-in-One.ensures.place v over started) c.from_residual.ensures.1

pub returns-in_ok-a-in-One-clause-place : goal.returns-in_ok-a-in-One-clause-place
returns-in_ok-a-in-One-clause-place t c v over started =
    let is = over_one v c.args.self.inputs.now c.args.self.terms.now c.if-n-below.false c.if-n-self.false (c.in-Apply.is ∙ ap (Apply c.in-Apply.f) c.in-One.is) in
    let ha = c.in_ok-a-in-One.ensures.place v over started in
    let w₁ = walked_more (walked_start over started) c.place_below.ensures.lent.2 ha.0 ha.1 in
    walked_placed w₁ _ _ _ _ _ (λ all u. has_unary all is u) (c.add-in-One.ensures.placed _ w₁.started ha.1.made.0 _ (ap (unary c.in-Apply.f) ha.1.made.1 ∙ sym is) (over_here v c.args.self.inputs.now c.args.self.terms.now c.if-n-below.false c.if-n-self.false))

pub returns-in_err-a-in-Two-clause-place : goal.returns-in_err-a-in-Two-clause-place
returns-in_err-a-in-Two-clause-place t c v over started =
    let is = over_two v c.args.self.inputs.now c.args.self.terms.now c.if-n-below.false c.if-n-self.false (c.in-Apply.is ∙ ap (Apply c.in-Apply.f) c.in-Two.is) in
    walked_break (walked_start over started) _ _ _ _ (λ all u. let p = has_binary all is u in (p.0, tt)) (c.in_err-a-in-Two.ensures.place v over started) c.from_residual-in_err-a-in-Two.ensures.1

pub returns-in_err-b-in-Two-clause-place : goal.returns-in_err-b-in-Two-clause-place
returns-in_err-b-in-Two-clause-place t c v over started =
    let is = over_two v c.args.self.inputs.now c.args.self.terms.now c.if-n-below.false c.if-n-self.false (c.in-Apply.is ∙ ap (Apply c.in-Apply.f) c.in-Two.is) in
    let ha = c.in_ok-a-in-Two.ensures.place v over started in
    let w₁ = walked_more (walked_start over started) c.place_below-in-Two.ensures.lent.2 ha.0 ha.1 in
    walked_break w₁ _ _ _ _ (λ all u. let p = has_binary all is u in (p.0, (p.1.0, tt))) (c.in_err-b-in-Two.ensures.place v w₁.over w₁.started) c.from_residual-in_err-b-in-Two.ensures.1

pub returns-in_ok-b-in-Two-clause-place : goal.returns-in_ok-b-in-Two-clause-place
returns-in_ok-b-in-Two-clause-place t c v over started =
    let is = over_two v c.args.self.inputs.now c.args.self.terms.now c.if-n-below.false c.if-n-self.false (c.in-Apply.is ∙ ap (Apply c.in-Apply.f) c.in-Two.is) in
    let ha = c.in_ok-a-in-Two.ensures.place v over started in
    let w₁ = walked_more (walked_start over started) c.place_below-in-Two.ensures.lent.2 ha.0 ha.1 in
    let hb = c.in_ok-b-in-Two.ensures.place v w₁.over w₁.started in
    let w₂ = walked_more w₁ c.place_below-in-Two-2.ensures.lent.2 hb.0 hb.1 in
    let xb = hb.0.extends in
    walked_placed w₂ _ _ _ _ _ (λ all u. has_binary all is u) (c.add-in-Two.ensures.placed _ w₂.started (omega (arith, ha.1.made.0, xb.more), hb.1.made.0) _ (ap₂ (binary c.in-Apply.f) ((xb.stays c.in_ok-a-in-Two.a ha.1.made.0).1 ∙ ha.1.made.1) hb.1.made.1 ∙ sym is) (over_here v c.args.self.inputs.now c.args.self.terms.now c.if-n-below.false c.if-n-self.false))

pub returns-in_err-a-in-Three-clause-place : goal.returns-in_err-a-in-Three-clause-place
returns-in_err-a-in-Three-clause-place t c v over started =
    let is = over_three v c.args.self.inputs.now c.args.self.terms.now c.if-n-below.false c.if-n-self.false (c.in-Apply.is ∙ ap (Apply c.in-Apply.f) c.in-Three.is) in
    walked_break (walked_start over started) _ _ _ _ (λ all u. let p = has_ternary all is u in (p.0, tt)) (c.in_err-a-in-Three.ensures.place v over started) c.from_residual-in_err-a-in-Three.ensures.1

pub returns-in_err-b-in-Three-clause-place : goal.returns-in_err-b-in-Three-clause-place
returns-in_err-b-in-Three-clause-place t c v over started =
    let is = over_three v c.args.self.inputs.now c.args.self.terms.now c.if-n-below.false c.if-n-self.false (c.in-Apply.is ∙ ap (Apply c.in-Apply.f) c.in-Three.is) in
    let ha = c.in_ok-a-in-Three.ensures.place v over started in
    let w₁ = walked_more (walked_start over started) c.place_below-in-Three.ensures.lent.2 ha.0 ha.1 in
    walked_break w₁ _ _ _ _ (λ all u. let p = has_ternary all is u in (p.0, (p.1.0, tt))) (c.in_err-b-in-Three.ensures.place v w₁.over w₁.started) c.from_residual-in_err-b-in-Three.ensures.1

pub returns-in_err-c-in-Three-clause-place : goal.returns-in_err-c-in-Three-clause-place
returns-in_err-c-in-Three-clause-place t c v over started =
    let is = over_three v c.args.self.inputs.now c.args.self.terms.now c.if-n-below.false c.if-n-self.false (c.in-Apply.is ∙ ap (Apply c.in-Apply.f) c.in-Three.is) in
    let ha = c.in_ok-a-in-Three.ensures.place v over started in
    let w₁ = walked_more (walked_start over started) c.place_below-in-Three.ensures.lent.2 ha.0 ha.1 in
    let hb = c.in_ok-b-in-Three.ensures.place v w₁.over w₁.started in
    let w₂ = walked_more w₁ c.place_below-in-Three-2.ensures.lent.2 hb.0 hb.1 in
    walked_break w₂ _ _ _ _ (λ all u. let p = has_ternary all is u in (p.0, (p.1.0, (p.1.1.0, tt)))) (c.in_err-c-in-Three.ensures.place v w₂.over w₂.started) c.from_residual-in_err-c-in-Three.ensures.1

pub returns-in_ok-c-in-Three-clause-place : goal.returns-in_ok-c-in-Three-clause-place
returns-in_ok-c-in-Three-clause-place t c v over started =
    let is = over_three v c.args.self.inputs.now c.args.self.terms.now c.if-n-below.false c.if-n-self.false (c.in-Apply.is ∙ ap (Apply c.in-Apply.f) c.in-Three.is) in
    let ha = c.in_ok-a-in-Three.ensures.place v over started in
    let w₁ = walked_more (walked_start over started) c.place_below-in-Three.ensures.lent.2 ha.0 ha.1 in
    let hb = c.in_ok-b-in-Three.ensures.place v w₁.over w₁.started in
    let w₂ = walked_more w₁ c.place_below-in-Three-2.ensures.lent.2 hb.0 hb.1 in
    let hc = c.in_ok-c-in-Three.ensures.place v w₂.over w₂.started in
    let w₃ = walked_more w₂ c.place_below-in-Three-3.ensures.lent.2 hc.0 hc.1 in
    let xb = hb.0.extends in
    let xc = hc.0.extends in
    let ina : c.in_ok-a-in-Three.a < c.place_below-in-Three-2.new.memory.count.now.terms = omega (arith, ha.1.made.0, xb.more) in
    walked_placed w₃ _ _ _ _ _ (λ all u. has_ternary all is u) (c.add-in-Three.ensures.placed _ w₃.started (omega (arith, ina, xc.more), omega (arith, hb.1.made.0, xc.more), hc.1.made.0) _ (ternary_same c.in-Apply.f ((xc.stays c.in_ok-a-in-Three.a ina).1 ∙ ((xb.stays c.in_ok-a-in-Three.a ha.1.made.0).1 ∙ ha.1.made.1)) ((xc.stays c.in_ok-b-in-Three.b hb.1.made.0).1 ∙ hb.1.made.1) hc.1.made.1 ∙ sym is) (over_here v c.args.self.inputs.now c.args.self.terms.now c.if-n-below.false c.if-n-self.false))
