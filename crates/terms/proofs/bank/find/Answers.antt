use Rattle.std.proofs.Common.{◌≡◌, ℕ, ◌<◌, ◌≤◌, List, length, take, Some, None, Option, MatchOption, rules, tests, ◌∙◌, sym, ap, arith, length-take}
use Rattle.std.specs.List.{AllWithin, HoldsAt}
use Rattle.std.proofs.lemmas.Iterator.{IsFirst-from_position, YieldsList-from_slice}
use Rattle.std.proofs.lemmas.List.{get_or-take}
use Rattle.terms.specs.declared.Node.{Node}
use Rattle.terms.specs.declared.TermRecord.{TermRecord}
use Rattle.terms.specs.Bank.{node_at, no_record, Lacks}
use Rattle.terms.proofs.bank.find.Goals as goal

found : (rs : List TermRecord) (n : ℕ) (node : Node) (r : Option ℕ) → n ≤ length rs → MatchOption r (AllWithin (λ s. s.node ≡ node → ⊥) (take n rs) 0 (length (take n rs))) (λ i. (i < length (take n rs)) × HoldsAt (λ s. s.node ≡ node) (take n rs) i × AllWithin (λ s. s.node ≡ node → ⊥) (take n rs) 0 i) → MatchOption r (Lacks rs n node) (λ i. (i < n) × (node_at rs i ≡ node) × Lacks rs i node)
found rs n node None le h = λ k lt is.
    h k no_record (omega arith) (simp length-take (omega arith)) (ap (λ s. s.node) (get_or-take n rs k no_record lt) ∙ is)
found rs n node (Some i) le h =
    let lt : i < n = omega (arith, simp length-take at h.0) in
    (lt, ap (λ s. s.node) (sym (get_or-take n rs i no_record lt)) ∙ h.1 no_record, λ k less is. h.2 k no_record (omega arith) less (ap (λ s. s.node) (get_or-take n rs k no_record (omega (arith, less, lt))) ∙ is))

pub returns : goal.returns
returns c =
    found c.args.bank.now c.args.terms c.args.node c.position.result c.requires
    (IsFirst-from_position _ _ c.position.result (λ s. s.node ≡ c.args.node) (λ s. s.node ≡ c.args.node → ⊥) c.position.ensures.ran (YieldsList-from_slice (take c.args.terms c.args.bank.now) (grind arith)) (λ x q k. search (rules, tests)) (λ x q k. search (rules, tests)))
