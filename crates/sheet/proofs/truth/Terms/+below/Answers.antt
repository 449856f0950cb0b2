use Rattle.std.proofs.Common.{◌≡◌, ℕ, ◌≤◌, Bool, false, cond, List, length, get_or, None, sym, ap, ◌∙◌, ap₂, Bor, rules}
use Rattle.sheet.specs.declared.syntax.Choice.{Choice}
use Rattle.sheet.specs.declared.truth.Terms.{Terms}
use Rattle.sheet.specs.Memo.{before}
use Rattle.sheet.specs.Truth.{chosen}
use Rattle.sheet.proofs.Memos.{before_here, choice_past, choice_term, choice_if, remembers_set}
use Rattle.sheet.proofs.truth.Terms.+below.Goals as goal
use Rattle.sheet.proofs.truth.Terms.+below.Goals.{After-remember, in-Term, in-If, then-test, else-test}

pub returns-in_default-clause-value : goal.returns-in_default-clause-value
returns-in_default-clause-value t c =
    let truth : ℕ → Bool = λ f. get_or c.args.self.now.truths.now f false in
    let past : length c.args.self.now.choices.now ≤ c.args.n = search rules in
    choice_past truth c.args.self.now.choices.now c.args.n c.args.below past

-- what the choice comes to, by its kind
value_is : (t : ℕ) (c : After-remember t) → c.match-choice.value ≡ get_or (chosen (λ f. get_or c.args.self.now.truths.now f false) c.args.self.now.choices.now) c.args.n 0
value_is t c =
    let truth : ℕ → Bool = λ f. get_or c.args.self.now.truths.now f false in
    let choices = c.args.self.now.choices.now in
    let at = c.in-Some.ensures.lookup in
    elim c.match-choice.branch [
      | in-Term w ↦ choice_term truth choices c.args.n at.3.0 c.in-Some.choice.now at.1 w.in-Term.t c.match-choice.value w.in-Term.is w.value-is
      | in-If w ↦
          let test : w.unwrap_or-test.result ≡ truth w.in-If.f = search rules in
          let next : w.if-test.next ≡ cond (truth w.in-If.f) w.in-If.a w.in-If.b =
          elim w.if-test.branch [
            | then-test w' ↦ w'.next-is ∙ ap (λ x. cond x w.in-If.a w.in-If.b) (sym w'.if-test.true ∙ test)
            | else-test w' ↦ w'.next-is ∙ ap (λ x. cond x w.in-If.a w.in-If.b) (sym w'.if-test.false ∙ test)
          ] in
          choice_if truth choices c.args.n at.3.0 c.in-Some.choice.now at.1 w.in-If.f w.in-If.a w.in-If.b c.match-choice.value w.in-If.is (w.value-is ∙ (w.below-value.ensures.value ∙ ap (λ j. before 0 (chosen truth choices) j c.args.n) next))
    ]

pub invariant_of-self : goal.invariant_of-self
invariant_of-self t c =
    let ts : c.match-choice.self.truths ≡ c.args.self.now.truths =
    elim c.match-choice.branch [ in-Term w ↦ ap (λ (s : Terms). s.truths) w.self-is | in-If w ↦ ap (λ (s : Terms). s.truths) w.self-is ∙ w.below-value.ensures.truths ] in
    let ks : c.match-choice.self.choices ≡ c.args.self.now.choices =
    elim c.match-choice.branch [ in-Term w ↦ ap (λ (s : Terms). s.choices) w.self-is | in-If w ↦ ap (λ (s : Terms). s.choices) w.self-is ∙ w.below-value.ensures.choices ] in
    let is' = value_is t (goal.at.invariant_of-self t c).After-remember ∙ ap₂ (λ (x : Bor (List Bool)) (y : Bor (List Choice)). get_or (chosen (λ f. get_or x.now f false) y.now) c.args.n 0) (sym ts) (sym ks) in
    record { right = λ k v q. remembers_set 0 (chosen (λ f. get_or c.match-choice.self.truths.now f false) c.match-choice.self.choices.now) c.match-choice.self.known c.args.n c.match-choice.value c.match-choice.self.right is' k v (ap (λ l. get_or l k None) (sym c.remember.ensures) ∙ q) }

pub returns-clause-value : goal.returns-clause-value
returns-clause-value t c =
    value_is t (goal.at.returns-clause-value t c).After-remember ∙ sym (before_here 0 (chosen (λ f. get_or c.args.self.now.truths.now f false) c.args.self.now.choices.now) c.args.n c.args.below c.if-n-below.false)
