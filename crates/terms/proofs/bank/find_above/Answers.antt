use Rattle.std.proofs.Common.{◌≡◌, ℕ, ◌+◌, ◌-◌, ◌<◌, ◌≤◌, List, length, take, drop, Some, None, Option, MatchOption, ◌≢◌, rules, tests, ◌∙◌, sym, ap, subst, arith, length-take, length-drop}
use Rattle.std.specs.Option.{IsSomeAnd}
use Rattle.std.specs.List.{AllWithin, HoldsAt}
use Rattle.std.proofs.lemmas.Iterator.{IsFirst-from_position, YieldsList-from_slice}
use Rattle.std.proofs.lemmas.List.{get_or-take, get_or-drop}
use Rattle.terms.specs.declared.Node.{Node}
use Rattle.terms.specs.declared.TermRecord.{TermRecord}
use Rattle.terms.specs.Bank.{node_at, no_record}
use Rattle.terms.proofs.Filing.{floor-fit}
use Rattle.terms.proofs.bank.find_above.Goals as goal

-- where the first such record of those from f on stands, in all of them
abbrev Found : List TermRecord → ℕ → ℕ → Node → Option ℕ → Type 0
Found rs n f node r = MatchOption r ((k : ℕ) → f ≤ k → k < n → node_at rs k ≢ node) (λ i. (f + i < n) × (node_at rs (f + i) ≡ node) × ((k : ℕ) → f ≤ k → k < f + i → node_at rs k ≢ node))

abbrev above : List TermRecord → ℕ → ℕ → List TermRecord
above rs n f = take (n - f) (drop f rs)

module _ (rs : List TermRecord) (n f : ℕ) (node : Node) (inside : n ≤ length rs) where
  same : (i : ℕ) → f + i < n → node_at (above rs n f) i ≡ node_at rs (f + i)
  same i lt = ap (λ s. s.node) (get_or-take (n - f) (drop f rs) i no_record (omega arith) ∙ get_or-drop f rs i no_record)

  long : f ≤ n → length (above rs n f) ≡ n - f
  long le = omega (arith, length-take (n - f) (drop f rs), length-drop f rs)

  missed : f ≤ n → (k : ℕ) → f ≤ k → k < n → (node_at (above rs n f) (k - f) ≡ node → ⊥) → node_at rs k ≢ node
  missed le k at lt none is = let k' : f + (k - f) ≡ k = omega arith in none (same (k - f) (omega arith) ∙ (ap (node_at rs) k' ∙ is))

  found : f ≤ n → (r : Option ℕ) → MatchOption r (AllWithin (λ s. s.node ≡ node → ⊥) (above rs n f) 0 (length (above rs n f))) (λ i. (i < length (above rs n f)) × HoldsAt (λ s. s.node ≡ node) (above rs n f) i × AllWithin (λ s. s.node ≡ node → ⊥) (above rs n f) 0 i) → Found rs n f node r
  found le None h = λ k at lt. missed le k at lt (h (k - f) no_record (omega arith) (omega (arith, long le)))
  found le (Some i) h =
      let lt : f + i < n = omega (arith, h.0, long le) in
      (lt, sym (same i lt) ∙ h.1 no_record, λ k at less. missed le k at (omega arith) (h.2 (k - f) no_record (omega arith) (omega arith)))

  -- the same by its place in all of them
  placed : (r m : Option ℕ) (Q : ℕ → ℕ → Type 0) → ((i j : ℕ) → Q i j → j ≡ f + i) → Found rs n f node r → MatchOption r (m ≡ None) (λ i. IsSomeAnd m (Q i)) → MatchOption m ((k : ℕ) → f ≤ k → k < n → node_at rs k ≢ node) (λ j. (f ≤ j) × (j < n) × (node_at rs j ≡ node) × ((k : ℕ) → f ≤ k → k < j → node_at rs k ≢ node))
  placed None m Q says here is = rw is here
  placed (Some i) (Some j) Q says here is = let e = says i j is in (omega (arith, e), omega (arith, e, here.0), ap (node_at rs) e ∙ here.1, λ k at less. here.2 k at (omega (arith, e)))
  placed (Some i) None Q says here is = absurd is

pub returns : goal.returns
returns c =
    let rs = c.args.bank.now in
    let n = c.args.terms in
    let node = c.args.node in
    let f = c.floor-floor.result in
    let le : f ≤ n = omega (arith, floor-fit n node c.requires.fit) in
    let first = IsFirst-from_position _ _ c.position.result (λ s. s.node ≡ node) (λ s. s.node ≡ node → ⊥) c.position.ensures.ran (YieldsList-from_slice (above rs n f) (search (rules, arith))) (λ x q k. search (rules, tests)) (λ x q k. search (rules, tests)) in
    subst (λ from. MatchOption c.map.result ((k : ℕ) → from ≤ k → k < n → node_at rs k ≢ node) (λ j. (from ≤ j) × (j < n) × (node_at rs j ≡ node) × ((k : ℕ) → from ≤ k → k < j → node_at rs k ≢ node))) c.floor-floor.ensures
    (placed rs n f node c.requires.inside c.position.result c.map.result _ (λ i j said. search rules) (found rs n f node c.requires.inside le c.position.result first) c.map.ensures.cases)
