use Rattle.std.proofs.Common.{◌≡◌, ℕ, ◌≤◌, false, length, get_or, None, sym, ap, ◌∙◌, subst, rules}
use Rattle.sheet.specs.declared.truth.Given.{Given}
use Rattle.sheet.specs.declared.truth.Truths.{Truths}
use Rattle.sheet.specs.Memo.{before, truths_from}
use Rattle.sheet.proofs.Memos.{before_here, truth_past, truth_connected, truth_grounded, remembers_set}
use Rattle.sheet.proofs.truth.Truths.+below.Goals as goal
use Rattle.sheet.proofs.truth.Truths.+below.Goals.{After-remember, in-Some-operands, in-None}

pub returns-in_default-clause-value : goal.returns-in_default-clause-value
returns-in_default-clause-value t c =
    let g = c.args.self.now.given in
    let past : length g.formulas.now ≤ c.args.n = search rules in
    truth_past g.bits.now g.questions.now g.claims.now g.formulas.now c.args.n c.args.below past

-- what the formula says, by its kind
value_is : (t : ℕ) (c : After-remember t) → c.match-operands.value ≡ get_or (truths_from c.args.self.now.given) c.args.n false
value_is t c =
    let g = c.args.self.now.given in
    let at = c.in-Some.ensures.lookup in
    elim c.match-operands.branch [
      | in-Some-operands w ↦ w.value-is ∙ truth_connected g.bits.now g.questions.now g.claims.now g.formulas.now c.args.n at.3.0 c.in-Some.entry.now at.1 w.in-Some-operands.a w.in-Some-operands.b w.below-left.result w.below-right.result w.connect-value.result (sym w.in-Some-operands.ensures) w.below-left.ensures.value (subst (λ (h : Given). w.below-right.result ≡ before false (truths_from h) w.in-Some-operands.b c.args.n) w.below-left.ensures.given w.below-right.ensures.value) w.connect-value.ensures
      | in-None w ↦ w.value-is ∙ truth_grounded g.bits.now g.questions.now g.claims.now g.formulas.now c.args.n at.3.0 c.in-Some.entry.now at.1 w.ground-value.result (sym w.in-None.ensures) w.ground-value.ensures
    ]

pub invariant_of-self : goal.invariant_of-self
invariant_of-self t c =
    let g = c.args.self.now.given in
    let same : c.match-operands.self.given ≡ g =
    elim c.match-operands.branch [
      | in-Some-operands w ↦ ap (λ (s : Truths). s.given) w.self-is ∙ (w.below-right.ensures.given ∙ w.below-left.ensures.given)
      | in-None w ↦ ap (λ (s : Truths). s.given) w.self-is
    ] in
    record { right = λ k v q. remembers_set false (truths_from c.match-operands.self.given) c.match-operands.self.known c.args.n c.match-operands.value c.match-operands.self.right (value_is t (goal.at.invariant_of-self t c).After-remember ∙ ap (λ (h : Given). get_or (truths_from h) c.args.n false) (sym same)) k v (ap (λ l. get_or l k None) (sym c.remember.ensures) ∙ q) }

pub returns-clause-value : goal.returns-clause-value
returns-clause-value t c =
    value_is t (goal.at.returns-clause-value t c).After-remember ∙ sym (before_here false (truths_from c.args.self.now.given) c.args.n c.args.below c.if-n-below.false)
