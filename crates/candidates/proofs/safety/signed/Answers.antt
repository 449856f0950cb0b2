use Rattle.std.proofs.Common.{ℕ, false, cond, nat_lt, length, get_or, ⊎_elim, ◌∙◌, sym, rules, arith}
use Rattle.std.proofs.lemmas.Bool.{cond-true, cond-false, cases_lt, lt-ltb, le-ltb}
use Rattle.std.proofs.lemmas.List.{get_or_past}
use Rattle.terms.specs.declared.Condition.{Condition}
use Rattle.closure.specs.Labels.{no_condition}
use Rattle.sheet.proofs.Arrays.{made}
use Rattle.candidates.specs.Cases.{with_answer}
use Rattle.candidates.proofs.safety.signed.Goals as goal

pub returns-clause-front : goal.returns-clause-front
returns-clause-front c k lt =
    let at : ℕ → Condition = λ j. cond (nat_lt j (length c.args.answers.now)) (with_answer (get_or c.args.list j no_condition) (get_or c.args.answers.now j false)) (get_or c.args.list j no_condition) in
    made _ _ at (λ j y q call. search rules) c.from_fn.result 22 c.from_fn.ensures.items k no_condition (omega arith)
    ∙ cond-true (nat_lt k (length c.args.answers.now)) (with_answer (get_or c.args.list k no_condition) (get_or c.args.answers.now k false)) (get_or c.args.list k no_condition) (lt-ltb k (length c.args.answers.now) lt)

pub returns-clause-back : goal.returns-clause-back
returns-clause-back c k le =
    let at : ℕ → Condition = λ j. cond (nat_lt j (length c.args.answers.now)) (with_answer (get_or c.args.list j no_condition) (get_or c.args.answers.now j false)) (get_or c.args.list j no_condition) in
    ⊎_elim
    (λ lt. made _ _ at (λ j y q call. search rules) c.from_fn.result 22 c.from_fn.ensures.items k no_condition lt
    ∙ cond-false (nat_lt k (length c.args.answers.now)) (with_answer (get_or c.args.list k no_condition) (get_or c.args.answers.now k false)) (get_or c.args.list k no_condition) (le-ltb k (length c.args.answers.now) le))
    (λ ge. get_or_past c.from_fn.result k no_condition (omega (arith, c.from_fn.ensures.items.long)) ∙ sym (get_or_past c.args.list k no_condition (search (rules, arith))))
    (cases_lt k 22)
