-- Labels that are closed and forced decide the conditions: a model from the labels, and congruence in every model.
use Rattle.std.proofs.Common.{◌≡◌, ℕ, zero, suc, ◌^◌, ◌<◌, ◌≤◌, true, false, cond, List, [], ◌∷◌, length, get_or, sym, refl, ap, ◌∙◌, subst, ⊎_elim, arith}
use Rattle.std.specs.List.{ContainsAt as Has, AllByRecursion}
use Rattle.std.proofs.lemmas.List.{get_or-map, length-map}
use Rattle.std.proofs.ByRecursion.{all-has, All-from_get_or, All-map}
use Rattle.std.proofs.lemmas.Bool.{cases_Bool, cases_lt, cond-true, cond-false, both_ways}
use Rattle.terms.specs.declared.Node.{Node}
use Rattle.terms.specs.declared.Node.TheVariants.{Name, Constant, Unary, Binary, Ternary}
use Rattle.terms.specs.declared.TermRecord.{TermRecord}
use Rattle.terms.specs.declared.Condition.{Condition}
use Rattle.terms.specs.declared.Sign.{Sign}
use Rattle.terms.specs.declared.Sign.TheVariants.{Equal, Different}
use Rattle.terms.specs.Terms.{Term, name, constant, Interpretation, eval, same, Literal, AreSigned, Holds, Sat}
use Rattle.terms.specs.Bank.{Fit, node_at, term_of, term_at, literal_of, relabel, Ordered}
use Rattle.terms.proofs.Standing.{term_at-ordered}
use Rattle.terms.proofs.Same.{same_self, same_true, node_from_term}
use Rattle.terms.proofs.Filing.{fit_more}
use Rattle.terms.proofs.Changing.{term_of-relabel}
use Rattle.closure.specs.Congruence.{Congruent, equation, itself, turned, chained, unaries, binaries, ternaries}
use Rattle.closure.specs.Labels.{no_condition, literals, label, ByCongruence}
use Rattle.closure.specs.Working.{sig, Closed, Rooted, Forced, Broken, Settled}

pub congruent_at : (cs : List Literal) (at at' : ℕ → Term) (n : ℕ) (node : Node) → Fit n node → ((a : ℕ) → a < n → Congruent cs (at a) (at' a)) → Congruent cs (term_of at node) (term_of at' node)
congruent_at cs at at' n (Name x) fit e = itself (name x)
congruent_at cs at at' n (Constant f) fit e = itself (constant f)
congruent_at cs at at' n (Unary f a) fit e = unaries f (e a fit)
congruent_at cs at at' n (Binary f a b) fit e = binaries f (e a fit.0) (e b fit.1)
congruent_at cs at at' n (Ternary f a b c) fit e = ternaries f (e a fit.0) (e b fit.1) (e c fit.2)

pub same_congruent : (cs : List Literal) (s t : Term) → s ≡ t → Congruent cs s t
same_congruent cs s t e = subst (Congruent cs s) e (itself s)

-- a place is congruent to the term of its signature
to_signature : (rs : List TermRecord) (n : ℕ) (cs : List Literal) (l : List ℕ) → Ordered rs n → Forced rs n cs l → (i : ℕ) → i < n → Congruent cs (term_at rs i) (term_of (term_at rs) (sig rs l i))
to_signature rs n cs l o forced i lt =
    chained (same_congruent cs (term_at rs i) (term_of (term_at rs) (node_at rs i)) (term_at-ordered rs n o i lt))
    (chained (congruent_at cs (term_at rs) (λ a. term_at rs (label l a)) i (node_at rs i) (o.fit i lt) (λ a h. forced a (omega arith)))
    (same_congruent cs (term_of (λ a. term_at rs (label l a)) (node_at rs i)) (term_of (term_at rs) (sig rs l i)) (sym (term_of-relabel (term_at rs) (label l) (node_at rs i)))))

-- places of one signature are congruent
pub congruent_sigs : (rs : List TermRecord) (n : ℕ) (cs : List Literal) (l : List ℕ) → Ordered rs n → Forced rs n cs l → (i j : ℕ) → i < n → j < n → sig rs l i ≡ sig rs l j → Congruent cs (term_at rs i) (term_at rs j)
congruent_sigs rs n cs l o forced i j p q e =
    chained (to_signature rs n cs l o forced i p)
    (turned (subst (λ s. Congruent cs (term_at rs j) (term_of (term_at rs) s)) (sym e) (to_signature rs n cs l o forced j q)))

-- places of one label are congruent
pub congruent_labels : (rs : List TermRecord) (n : ℕ) (cs : List Literal) (l : List ℕ) → Forced rs n cs l → (i j : ℕ) → i < n → j < n → label l i ≡ label l j → Congruent cs (term_at rs i) (term_at rs j)
congruent_labels rs n cs l forced i j p q e =
    chained (forced i p) (turned (subst (λ k. Congruent cs (term_at rs j) (term_at rs k)) (sym e) (forced j q)))

-- an interpretation makes the equations true
abbrev Agrees : List Literal → Interpretation → Type 0
Agrees cs m = (c : Literal) → Has cs c → c.sign ≡ Equal → eval m c.left ≡ eval m c.right

agrees_from_all : (cs : List Literal) (m : Interpretation) → AllByRecursion (Holds m) cs → Agrees cs m
agrees_from_all cs m met c has is = subst (λ g. AreSigned g (eval m c.left) (eval m c.right)) is (all-has (Holds m) cs c met has)

-- where the equations are true, congruent terms have one value
congruent_values : (cs : List Literal) (m : Interpretation) → Agrees cs m → {s t : Term} → Congruent cs s t → eval m s ≡ eval m t
congruent_values cs m agrees (equation c has is) = agrees c has is
congruent_values cs m agrees (itself t) = refl
congruent_values cs m agrees (turned p) = sym (congruent_values cs m agrees p)
congruent_values cs m agrees (chained p q) = congruent_values cs m agrees p ∙ congruent_values cs m agrees q
congruent_values cs m agrees (unaries f p) = let e = congruent_values cs m agrees p in cc
congruent_values cs m agrees (binaries f p q) = let e = congruent_values cs m agrees p in let e' = congruent_values cs m agrees q in cc
congruent_values cs m agrees (ternaries f p q r) =
    let e = congruent_values cs m agrees p in let e' = congruent_values cs m agrees q in let e'' = congruent_values cs m agrees r in cc

-- the value of a node over numbers
abbrev value_of : Interpretation → Node → ℕ
value_of m (Name x) = m.values x
value_of m (Constant f) = m.meaning f []
value_of m (Unary f a) = m.meaning f (a ∷ [])
value_of m (Binary f a b) = m.meaning f (a ∷ (b ∷ []))
value_of m (Ternary f a b c) = m.meaning f (a ∷ (b ∷ (c ∷ [])))

eval_of : (m : Interpretation) (at : ℕ → Term) (node : Node) → eval m (term_of at node) ≡ value_of m (relabel (λ a. eval m (at a)) node)
eval_of m at (Name x) = refl
eval_of m at (Constant f) = refl
eval_of m at (Unary f a) = refl
eval_of m at (Binary f a b) = refl
eval_of m at (Ternary f a b c) = refl

pub relabel-same : (to to' : ℕ → ℕ) (n : ℕ) (node : Node) → Fit n node → ((a : ℕ) → a < n → to a ≡ to' a) → relabel to node ≡ relabel to' node
relabel-same to to' n (Name x) fit e = refl
relabel-same to to' n (Constant f) fit e = refl
relabel-same to to' n (Unary f a) fit e = ap (Unary f) (e a fit)
relabel-same to to' n (Binary f a b) fit e = let p = e a fit.0 in let q = e b fit.1 in cc
relabel-same to to' n (Ternary f a b c) fit e = let p = e a fit.0 in let q = e b fit.1 in let r = e c fit.2 in cc

relabel_fit : (to : ℕ → ℕ) (n : ℕ) (node : Node) → Fit n node → ((a : ℕ) → a < n → to a ≤ a) → Fit n (relabel to node)
relabel_fit to n (Name x) fit e = fit
relabel_fit to n (Constant f) fit e = tt
relabel_fit to n (Unary f a) fit e = omega (arith, e a fit)
relabel_fit to n (Binary f a b) fit e = (omega (arith, e a fit.0), omega (arith, e b fit.1))
relabel_fit to n (Ternary f a b c) fit e = (omega (arith, e a fit.0), omega (arith, e b fit.1), omega (arith, e c fit.2))

-- what the model answers on a node over labels: the label of a place of that signature, and 0 where there is none
answer : List TermRecord → List ℕ → ℕ → Node → ℕ
answer rs l zero s = 0
answer rs l (suc k) s = cond (same (term_of name (sig rs l k)) (term_of name s)) (label l k) (answer rs l k s)

answer_small : (rs : List TermRecord) (l : List ℕ) (n b : ℕ) → 0 < b → ((i : ℕ) → i < n → label l i < b) → (k : ℕ) (s : Node) → k ≤ n → answer rs l k s < b
unfolding answer
answer_small rs l n b pos small zero s le = pos
answer_small rs l n b pos small (suc k) s le =
    let rest = answer_small rs l n b pos small k s (omega arith) in
    elim (same (term_of name (sig rs l k)) (term_of name s)) as (λ v. cond v (label l k) (answer rs l k s) < b) [ true ↦ small k (omega arith) | false ↦ rest ]

module _ (rs : List TermRecord) (n : ℕ) (l : List ℕ) (o : Ordered rs n) (rooted : Rooted n l) (closed : Closed rs n l) where
  sig_fit : (i : ℕ) → i < n → Fit n (sig rs l i)
  sig_fit i lt = fit_more i n (sig rs l i) (omega arith) (relabel_fit (label l) i (node_at rs i) (o.fit i lt) (λ a h. rooted.low a (omega arith)))

  answer_right : (k i : ℕ) → i < k → k ≤ n → answer rs l k (sig rs l i) ≡ label l i
  unfolding answer
  answer_right zero i lt le = absurd (omega arith)
  answer_right (suc k) i lt le =
      ⊎_elim
      (λ e. cond-true _ (label l k) (answer rs l k (sig rs l i)) e
      ∙ closed k i (omega arith) (omega arith) (node_from_term name n (sig rs l k) (sig rs l i) (sig_fit k (omega arith)) (sig_fit i (omega arith)) (λ a b p q s. let z : a ≡ b = cc in z) (same_true _ _ e)))
      (λ e. cond-false _ (label l k) (answer rs l k (sig rs l i)) e
      ∙ answer_right k i (⊎_elim (λ h. h) (λ h. let z : k ≡ i = omega arith in absurd (both_ways _ e (subst (λ j. same (term_of name (sig rs l k)) (term_of name (sig rs l j)) ≡ true) z (same_self (term_of name (sig rs l k)))))) (cases_lt i k)) (omega arith))
      (cases_Bool (same (term_of name (sig rs l k)) (term_of name (sig rs l i))))

  abbrev model_meaning : ℕ → List ℕ → ℕ
  model_meaning f [] = answer rs l n (Constant f)
  model_meaning f (a ∷ []) = answer rs l n (Unary f a)
  model_meaning f (a ∷ (b ∷ [])) = answer rs l n (Binary f a b)
  model_meaning f (a ∷ (b ∷ (c ∷ []))) = answer rs l n (Ternary f a b c)
  model_meaning f (a ∷ (b ∷ (c ∷ (d ∷ ds)))) = 0

  module _ (few : n ≤ 512) where
    answers-small : (s : Node) → answer rs l n s < 2 ^ 32
    answers-small s = answer_small rs l n (2 ^ 32) (omega arith) (λ i lt. omega (arith, rooted.low i lt)) n s (omega arith)

    meaning_small : (f : ℕ) (vs : List ℕ) → model_meaning f vs < 2 ^ 32
    meaning_small f [] = answers-small (Constant f)
    meaning_small f (a ∷ []) = answers-small (Unary f a)
    meaning_small f (a ∷ (b ∷ [])) = answers-small (Binary f a b)
    meaning_small f (a ∷ (b ∷ (c ∷ []))) = answers-small (Ternary f a b c)
    meaning_small f (a ∷ (b ∷ (c ∷ (d ∷ ds)))) = omega arith

    abbrev model : Interpretation
    model =
        record { meaning = model_meaning; values = λ x. answer rs l n (Name x); meaning_small = meaning_small; values_small = λ x. answers-small (Name x) }

    value_answer : (s : Node) → value_of model s ≡ answer rs l n s
    value_answer (Name x) = refl
    value_answer (Constant f) = refl
    value_answer (Unary f a) = refl
    value_answer (Binary f a b) = refl
    value_answer (Ternary f a b c) = refl

    -- in the model a place's value is its label
    eval-label : (k i : ℕ) → i < k → i < n → eval model (term_at rs i) ≡ label l i
    eval-label zero i lt in' = absurd (omega arith)
    eval-label (suc k) i lt in' =
        ap (eval model) (term_at-ordered rs n o i in')
        ∙ (eval_of model (term_at rs) (node_at rs i)
        ∙ (ap (value_of model) (relabel-same (λ a. eval model (term_at rs a)) (label l) i (node_at rs i) (o.fit i in') (λ a h. eval-label k a (omega arith) (omega arith)))
        ∙ (value_answer (sig rs l i) ∙ answer_right n i in' (omega arith))))

    label_value : (i : ℕ) → i < n → eval model (term_at rs i) ≡ label l i
    label_value i lt = eval-label (suc i) i (omega arith) lt

has_literal : (rs : List TermRecord) (conds : List Condition) (k : ℕ) → k < length conds → Has (literals rs conds) (literal_of rs (get_or conds k no_condition))
has_literal rs conds k lt = (k, rw length-map lt, λ d. get_or-map (literal_of rs) conds k no_condition d lt)

-- an equation among the conditions joins its terms
pub congruent_given : (rs : List TermRecord) (conds : List Condition) (k : ℕ) → k < length conds → (get_or conds k no_condition).sign ≡ Equal → Congruent (literals rs conds) (term_at rs (get_or conds k no_condition).left) (term_at rs (get_or conds k no_condition).right)
congruent_given rs conds k lt is = equation (literal_of rs (get_or conds k no_condition)) (has_literal rs conds k lt) is

module _ (rs : List TermRecord) (n : ℕ) (conds : List Condition) (l : List ℕ) (o : Ordered rs n) (few : n ≤ 512) (lefts : (k : ℕ) → k < length conds → (get_or conds k no_condition).left < n) (rights : (k : ℕ) → k < length conds → (get_or conds k no_condition).right < n) (s : Settled rs n conds l) where
  pub impossible : Broken conds l → Sat (literals rs conds) → ⊥
  impossible broken sat =
      let k = broken.0 in
      let c = get_or conds k no_condition in
      let joined = congruent_labels rs n (literals rs conds) l s.forced c.left c.right (lefts k broken.1) (rights k broken.1) broken.3 in
      let differ = subst (λ g. AreSigned g (eval sat.0 (term_at rs c.left)) (eval sat.0 (term_at rs c.right))) broken.2 (all-has (Holds sat.0) (literals rs conds) (literal_of rs c) sat.1 (has_literal rs conds k broken.1)) in
      differ (congruent_values (literals rs conds) sat.0 (agrees_from_all (literals rs conds) sat.0 sat.1) joined)

  abbrev built : Interpretation
  built = model rs n l o s.rooted s.closed few

  signed : (unbroken : Broken conds l → ⊥) (g : Sign) (k : ℕ) → k < length conds → (get_or conds k no_condition).sign ≡ g → AreSigned g (label l (get_or conds k no_condition).left) (label l (get_or conds k no_condition).right)
  signed unbroken Equal k lt is = s.meets k lt is
  signed unbroken Different k lt is = λ e. unbroken (k, lt, is, e)

  place_value : (i : ℕ) → i < n → eval built (term_at rs i) ≡ label l i
  place_value = label_value rs n l o s.rooted s.closed few

  holds_at : (unbroken : Broken conds l → ⊥) (k : ℕ) → k < length conds → Holds built (literal_of rs (get_or conds k no_condition))
  holds_at unbroken k lt =
      let c = get_or conds k no_condition in
      subst (λ v. AreSigned c.sign v (eval built (term_at rs c.right))) (sym (place_value c.left (lefts k lt)))
      (subst (λ v. AreSigned c.sign (label l c.left) v) (sym (place_value c.right (rights k lt))) (signed unbroken c.sign k lt refl))

  pub possible : (Broken conds l → ⊥) → Sat (literals rs conds)
  possible unbroken =
      (built, All-map (Holds built) (literal_of rs) conds (All-from_get_or (λ c. Holds built (literal_of rs c)) conds no_condition (holds_at unbroken)))

  built_agrees : Agrees (literals rs conds) built
  built_agrees c has is =
      let k = has.0 in
      let lt : k < length conds = subst (λ m. k < m) (length-map conds (literal_of rs)) has.1 in
      let d = get_or conds k no_condition in
      let at : literal_of rs d ≡ c = sym (get_or-map (literal_of rs) conds k no_condition c lt) ∙ has.2 c in
      let sign : d.sign ≡ Equal = ap (λ b. b.sign) at ∙ is in
      subst (λ b. eval built b.left ≡ eval built b.right) at
      (place_value d.left (lefts k lt) ∙ (s.meets k lt sign ∙ sym (place_value d.right (rights k lt))))

  pub by_congruence : ByCongruence rs n (literals rs conds) l
  by_congruence i j p q =
      (congruent_labels rs n (literals rs conds) l s.forced i j p q, λ joined. sym (place_value i p) ∙ (congruent_values (literals rs conds) built built_agrees joined ∙ place_value j q))
