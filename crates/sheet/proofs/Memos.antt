-- Values that are worked out once.
use Rattle.std.proofs.Common.{◌≡◌, ℕ, zero, suc, ◌<◌, ◌≤◌, Bool, true, false, cond, eqb, ltb, ◌⊎◌, List, [], map, length, get_or, take, set, replicate, Some, None, Option, sym, refl, ap, ◌∙◌, ap₂, inl, inr, ⊎_elim, arith, length-take}
use lib.ListN.{length-map}
use Rattle.std.proofs.lemmas.List.{get_or-set_same, get_or-set_other, get_or_past, get_or-take, get_or-map, set_past}
use Rattle.std.proofs.lemmas.Option.{none-some, same_Some}
use Rattle.std.proofs.lemmas.Bool.Decides.{nat_tests, eqb_tells, leb_tells}
use Rattle.sheet.specs.declared.syntax.Choice.{Choice}
use Rattle.sheet.specs.declared.syntax.Formula.{Formula}
use Rattle.sheet.specs.declared.syntax.FormulaEntry.{FormulaEntry}
use Rattle.sheet.specs.Stored.{formula_in}
use Rattle.sheet.specs.Memo.{Remembers, before, operands_of, connected, grounded}
use Rattle.sheet.specs.Truth.{truth_of, truths, term_of_choice, chosen}
use Rattle.sheet.proofs.Growing.{grow_at, grow-length}

pub before_here : {V : Type 0} (d : V) (values : List V) (n below : ℕ) → n < below → before d values n below ≡ get_or values n d
before_here d values n below h = let t : ltb n below ≡ true = grind (arith, nat_tests) in rw t

pub before_none : {V : Type 0} (d : V) (values : List V) (n below : ℕ) → below ≤ n → before d values n below ≡ d
before_none d values n below h = let t : ltb n below ≡ false = grind (arith, nat_tests) in rw t

pub before_past : {V : Type 0} (d : V) (values : List V) (n below : ℕ) → length values ≤ n → before d values n below ≡ d
before_past d values n below h = by_test (ltb n below)
  where
    by_test : (b : Bool) → cond b (get_or values n d) d ≡ d
    by_test true = get_or_past values n d h
    by_test false = refl

-- what stands before n in a list
pub take-before : {V : Type 0} (d : V) (values : List V) (a n : ℕ) → get_or (take n values) a d ≡ before d values a n
take-before d values a n = ⊎_elim (λ (t : (ltb a n ≡ true) × (a < n)). get_or-take n values a d t.1 ∙ sym (before_here d values a n t.1)) (λ (t : (ltb a n ≡ false) × (n < suc a)). get_or_past (take n values) a d (omega (arith, length-take n values, t.1)) ∙ sym (before_none d values a n (omega (arith, t.1)))) (leb_tells (suc a) n)

pub remembers_set : {V : Type 0} (d : V) (values : List V) (known : List (Option V)) (n : ℕ) (v : V) → Remembers d values known → v ≡ get_or values n d → Remembers d values (set known n (Some v))
remembers_set {V} d values known n v r is k w e =
    ⊎_elim (λ (t : (eqb k n ≡ true) × (k ≡ n)). at_n t.1 (leb_tells (suc n) (length known))) (λ (t : (eqb k n ≡ false) × (k ≡ n → ⊥)). r k w (sym (get_or-set_other known n k (Some v) None t.1) ∙ e)) (eqb_tells k n)
  where
    at_n : k ≡ n → ((ltb n (length known) ≡ true) × (n < length known)) ⊎ ((ltb n (length known) ≡ false) × (length known < suc n)) → w ≡ get_or values k d
    at_n p (inl t) =
        let q : ◌≡◌ {A = Option V} (Some v) (Some w) = sym (get_or-set_same known n (Some v) None t.1) ∙ (ap (λ j. get_or (set known n (Some v)) j None) (sym p) ∙ e) in
        let vw : v ≡ w = cc in
        sym vw ∙ (is ∙ ap (λ j. get_or values j d) (sym p))
    at_n p (inr t) =
        let past : length known ≤ n = omega (arith, t.1) in
        r k w (ap (λ l. get_or l k None) (sym (set_past known n (Some v) past)) ∙ e)

-- a formula with operands, and one without
connected_is : (bits questions claims seen : List Bool) (f : Formula) (a b : ℕ) → operands_of f ≡ Some (a, b) → truth_of bits questions claims seen f ≡ connected f (get_or seen a false) (get_or seen b false)
connected_is bits questions claims seen Formula.True a b e = absurd (none-some _ e)
connected_is bits questions claims seen (Formula.Bit x) a b e = absurd (none-some _ e)
connected_is bits questions claims seen (Formula.Question x) a b e = absurd (none-some _ e)
connected_is bits questions claims seen (Formula.Claim x) a b e = absurd (none-some _ e)
connected_is bits questions claims seen (Formula.Not x) a b e = let p = ap (λ (t : ℕ × ℕ). t.0) (same_Some _ _ e) in rw p
connected_is bits questions claims seen (Formula.And x y) a b e = let p = ap (λ (t : ℕ × ℕ). t.0) (same_Some _ _ e) in let q = ap (λ (t : ℕ × ℕ). t.1) (same_Some _ _ e) in rw (p, q)
connected_is bits questions claims seen (Formula.Or x y) a b e = let p = ap (λ (t : ℕ × ℕ). t.0) (same_Some _ _ e) in let q = ap (λ (t : ℕ × ℕ). t.1) (same_Some _ _ e) in rw (p, q)

grounded_is : (bits questions claims seen : List Bool) (f : Formula) → operands_of f ≡ None → truth_of bits questions claims seen f ≡ grounded bits questions claims f
grounded_is bits questions claims seen Formula.True e = refl
grounded_is bits questions claims seen (Formula.Bit x) e = refl
grounded_is bits questions claims seen (Formula.Question x) e = refl
grounded_is bits questions claims seen (Formula.Claim x) e = refl
grounded_is bits questions claims seen (Formula.Not x) e = absurd (none-some _ (sym e))
grounded_is bits questions claims seen (Formula.And x y) e = absurd (none-some _ (sym e))
grounded_is bits questions claims seen (Formula.Or x y) e = absurd (none-some _ (sym e))

module _ (bits questions claims : List Bool) (entries : List FormulaEntry) (n : ℕ) (inside : n < length entries) (entry : FormulaEntry) (is : entry ≡ get_or entries n entry) where
  values : List Bool
  values = truths bits questions claims (map formula_in entries)

  truth_at : get_or values n false ≡ truth_of bits questions claims (take n values) (formula_in entry)
  unfolding values
  truth_at =
      let i : n < length (map formula_in entries) = omega (arith, length-map entries formula_in) in
      grow_at (truth_of bits questions claims) (map formula_in entries) n false Formula.True i ∙ ap (truth_of bits questions claims (take n (truths bits questions claims (map formula_in entries)))) (get_or-map formula_in entries n entry Formula.True inside ∙ ap formula_in (sym is))

  pub truth_connected : (a b : ℕ) (x y v : Bool) → operands_of (formula_in entry) ≡ Some (a, b) → x ≡ before false (truths bits questions claims (map formula_in entries)) a n → y ≡ before false (truths bits questions claims (map formula_in entries)) b n → v ≡ connected (formula_in entry) x y → v ≡ get_or (truths bits questions claims (map formula_in entries)) n false
  unfolding values
  truth_connected a b x y v o p q e =
      let p' = p ∙ sym (take-before false values a n) in
      let q' = q ∙ sym (take-before false values b n) in
      let c = connected_is bits questions claims (take n values) (formula_in entry) a b o in
      let t = truth_at in
      e ∙ (ap₂ (connected (formula_in entry)) p' q' ∙ (sym c ∙ sym t))

  pub truth_grounded : (v : Bool) → operands_of (formula_in entry) ≡ None → v ≡ grounded bits questions claims (formula_in entry) → v ≡ get_or (truths bits questions claims (map formula_in entries)) n false
  unfolding values
  truth_grounded v o e = e ∙ (sym (grounded_is bits questions claims (take n values) (formula_in entry) o) ∙ sym truth_at)

pub truth_past : (bits questions claims : List Bool) (entries : List FormulaEntry) (n below : ℕ) → length entries ≤ n → false ≡ before false (truths bits questions claims (map formula_in entries)) n below
truth_past bits questions claims entries n below h =
    sym (before_past false (truths bits questions claims (map formula_in entries)) n below (omega (arith, grow-length (truth_of bits questions claims) [] (map formula_in entries), length-map entries formula_in)))

module _ (truth : ℕ → Bool) (choices : List Choice) (n : ℕ) (inside : n < length choices) (choice : Choice) (is-choice : choice ≡ get_or choices n choice) where
  choice_at : get_or (chosen truth choices) n 0 ≡ term_of_choice truth (take n (chosen truth choices)) choice
  choice_at = grow_at (term_of_choice truth) choices n 0 choice inside ∙ ap (term_of_choice truth (take n (chosen truth choices))) (sym is-choice)

  pub choice_term : (t v : ℕ) → choice ≡ Choice.Term t → v ≡ t → v ≡ get_or (chosen truth choices) n 0
  choice_term t v e is = is ∙ (sym (ap (term_of_choice truth (take n (chosen truth choices))) e) ∙ sym choice_at)

  pub choice_if : (f a b v : ℕ) → choice ≡ Choice.If f a b → v ≡ before 0 (chosen truth choices) (cond (truth f) a b) n → v ≡ get_or (chosen truth choices) n 0
  choice_if f a b v e is =
      is ∙ (sym (take-before 0 (chosen truth choices) (cond (truth f) a b) n) ∙ (by_test (truth f) ∙ (sym (ap (term_of_choice truth (take n (chosen truth choices))) e) ∙ sym choice_at)))
    where
      by_test : (x : Bool) → get_or (take n (chosen truth choices)) (cond x a b) 0 ≡ cond x (get_or (take n (chosen truth choices)) a 0) (get_or (take n (chosen truth choices)) b 0)
      by_test true = refl
      by_test false = refl

pub choice_past : (truth : ℕ → Bool) (choices : List Choice) (n below : ℕ) → length choices ≤ n → 0 ≡ before 0 (chosen truth choices) n below
choice_past truth choices n below h =
    sym (before_past 0 (chosen truth choices) n below (omega (arith, grow-length (term_of_choice truth) [] choices)))

-- below the count, or past the end, a value is the one of its number
pub before_all : {V : Type 0} (d : V) (values : List V) (n count : ℕ) → count ≡ length values → before d values n count ≡ get_or values n d
before_all d values n count e = by_order (leb_tells (suc n) count)
  where
    by_order : ((ltb n count ≡ true) × (n < count)) ⊎ ((ltb n count ≡ false) × (count < suc n)) → before d values n count ≡ get_or values n d
    by_order (inl t) = before_here d values n count t.1
    by_order (inr t) = before_none d values n count (omega (arith, t.1)) ∙ sym (get_or_past values n d (omega (arith, t.1)))

-- of nothing known None is read
pub nones : {V : Type 0} (n k : ℕ) → ◌≡◌ {A = Option V} (get_or (replicate n None) k None) None
nones zero k = refl
nones (suc n) zero = refl
nones (suc n) (suc k) = nones n k

pub remembers_none : {V : Type 0} (d : V) (values : List V) (n : ℕ) → Remembers d values (replicate n None)
remembers_none d _ n k v e = absurd (none-some _ (sym (nones n k) ∙ e))

pub truths-length : (bits questions claims : List Bool) (entries : List FormulaEntry) → length entries ≡ length (truths bits questions claims (map formula_in entries))
truths-length bits questions claims entries = omega (arith, grow-length (truth_of bits questions claims) [] (map formula_in entries), length-map entries formula_in)

pub chosen-length : (truth : ℕ → Bool) (choices : List Choice) → length choices ≡ length (chosen truth choices)
chosen-length truth choices = omega (arith, grow-length (term_of_choice truth) [] choices)
