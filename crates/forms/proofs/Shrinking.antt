-- Each cut makes the vector smaller, so cutting comes to an end; and the way down ends at height 1.
use Rattle.std.proofs.Common.{◌≡◌, ℕ, zero, suc, ◌+◌, ◌<◌, ◌≤◌, max, Bool, true, false, cond, eqb, ltb, ◌⊎◌, List, [], ◌∷◌, map, Some, None, Option, sym, refl, ap, ◌∙◌, subst, inl, inr, ⊎_elim, arith}
use Rattle.std.proofs.lemmas.Bool.{cond_both, cond-true, cond-false, cases_Bool, cases_lt, ltb-true, eqb-true, eqb-false}
use Rattle.terms.proofs.Same.{same_self}
use Rattle.terms.specs.Terms.{Term, name, constant, unary, binary, ternary, height, same, replaced}
use Rattle.forms.specs.Rows.{Row, stands, lowest_from, lowest_free}
use Rattle.forms.specs.Form.{first_higher, lowest, replaced_row, Cut, low, nameless, cut, trimmed, Form}
use Rattle.forms.specs.Laws.{IsLowest, Rules}

-- how many symbols with arguments stand in a term
abbrev pub size : Term → ℕ
size (name x) = 0
size (constant f) = 0
size (unary f a) = suc (size a)
size (binary f a b) = suc (size a + size b)
size (ternary f a b c) = suc (size a + (size b + size c))

no_larger : (old : Term) (x : ℕ) (t : Term) → size (replaced old (name x) t) ≤ size t
no_larger old x (name y) = cond_both (same (name y) old) (name x) (name y) (λ u. size u ≤ 0) (λ _. omega arith) (λ _. omega arith)
no_larger old x (constant f) = cond_both (same (constant f) old) (name x) (constant f) (λ u. size u ≤ 0) (λ _. omega arith) (λ _. omega arith)
no_larger old x (unary f a) =
    let p = no_larger old x a in
    cond_both (same (unary f a) old) (name x) (unary f (replaced old (name x) a)) (λ u. size u ≤ suc (size a)) (λ _. omega arith) (λ _. omega arith)
no_larger old x (binary f a b) =
    let p = no_larger old x a in
    let q = no_larger old x b in
    cond_both (same (binary f a b) old) (name x) (binary f (replaced old (name x) a) (replaced old (name x) b)) (λ u. size u ≤ suc (size a + size b)) (λ _. omega arith) (λ _. omega arith)
no_larger old x (ternary f a b c) =
    let p = no_larger old x a in
    let q = no_larger old x b in
    let r = no_larger old x c in
    cond_both (same (ternary f a b c) old) (name x) (ternary f (replaced old (name x) a) (replaced old (name x) b) (replaced old (name x) c)) (λ u. size u ≤ suc (size a + (size b + size c))) (λ _. omega arith) (λ _. omega arith)

-- a term itself goes, or one of its arguments gets smaller
whole : (x : ℕ) (t rest : Term) → 0 < size t → size (cond (same t t) (name x) rest) < size t
whole x t rest large = rw (cond-true (same t t) (name x) rest (same_self t)) large

part : (x : ℕ) (old t rest : Term) → size rest < size t → size (cond (same t old) (name x) rest) < size t
part x old t rest less = cond_both (same t old) (name x) rest (λ u. size u < size t) (λ _. omega arith) (λ _. less)

smaller : (x : ℕ) (t : Term) → 0 < height t → size (replaced (lowest t) (name x) t) < size t
smaller x (name y) high = absurd (omega arith)
smaller x (constant f) high = absurd (omega arith)
smaller x (unary f a) high =
    cond_both (eqb (height a) 0) (unary f a) (lowest a) (λ old. size (replaced old (name x) (unary f a)) < suc (size a))
    (λ _. whole x (unary f a) (unary f (replaced (unary f a) (name x) a)) (omega arith))
    (λ e. let no' = eqb-false (height a) 0 e in let p = smaller x a (omega arith) in part x (lowest a) (unary f a) (unary f (replaced (lowest a) (name x) a)) (omega arith))
smaller x (binary f a b) high =
    cond_both (eqb (max (height a) (height b)) 0) (binary f a b) (cond (eqb (height a) (max (height a) (height b))) (lowest a) (lowest b)) (λ old. size (replaced old (name x) (binary f a b)) < suc (size a + size b))
    (λ _. whole x (binary f a b) (binary f (replaced (binary f a b) (name x) a) (replaced (binary f a b) (name x) b)) (omega arith))
    (λ e. let no' = eqb-false (max (height a) (height b)) 0 e in
    cond_both (eqb (height a) (max (height a) (height b))) (lowest a) (lowest b) (λ old. size (replaced old (name x) (binary f a b)) < suc (size a + size b))
    (λ e₁. let is = eqb-true (height a) (max (height a) (height b)) e₁ in let p = smaller x a (omega arith) in let q = no_larger (lowest a) x b in part x (lowest a) (binary f a b) (binary f (replaced (lowest a) (name x) a) (replaced (lowest a) (name x) b)) (omega arith))
    (λ e₁. let not' = eqb-false (height a) (max (height a) (height b)) e₁ in let p = smaller x b (omega arith) in let q = no_larger (lowest b) x a in part x (lowest b) (binary f a b) (binary f (replaced (lowest b) (name x) a) (replaced (lowest b) (name x) b)) (omega arith)))
smaller x (ternary f a b c) high =
    let top = max (height a) (max (height b) (height c)) in
    let P = λ (old : Term). size (replaced old (name x) (ternary f a b c)) < suc (size a + (size b + size c)) in
    cond_both (eqb top 0) (ternary f a b c) (cond (eqb (height a) top) (lowest a) (cond (eqb (height b) top) (lowest b) (lowest c))) P
    (λ _. whole x (ternary f a b c) (ternary f (replaced (ternary f a b c) (name x) a) (replaced (ternary f a b c) (name x) b) (replaced (ternary f a b c) (name x) c)) (omega arith))
    (λ e. let no' = eqb-false top 0 e in
    cond_both (eqb (height a) top) (lowest a) (cond (eqb (height b) top) (lowest b) (lowest c)) P
    (λ e₁. let is = eqb-true (height a) top e₁ in let p = smaller x a (omega arith) in let q = no_larger (lowest a) x b in let r = no_larger (lowest a) x c in part x (lowest a) (ternary f a b c) (ternary f (replaced (lowest a) (name x) a) (replaced (lowest a) (name x) b) (replaced (lowest a) (name x) c)) (omega arith))
    (λ e₁. let n₁ = eqb-false (height a) top e₁ in
    cond_both (eqb (height b) top) (lowest b) (lowest c) P
    (λ e₂. let is = eqb-true (height b) top e₂ in let p = smaller x b (omega arith) in let q = no_larger (lowest b) x a in let r = no_larger (lowest b) x c in part x (lowest b) (ternary f a b c) (ternary f (replaced (lowest b) (name x) a) (replaced (lowest b) (name x) b) (replaced (lowest b) (name x) c)) (omega arith))
    (λ e₂. let n₂ = eqb-false (height b) top e₂ in let p = smaller x c (omega arith) in let q = no_larger (lowest c) x a in let r = no_larger (lowest c) x b in part x (lowest c) (ternary f a b c) (ternary f (replaced (lowest c) (name x) a) (replaced (lowest c) (name x) b) (replaced (lowest c) (name x) c)) (omega arith))))

abbrev pub sizes : List Term → ℕ
sizes [] = 0
sizes (t ∷ ts) = size t + sizes ts

none_larger : (old : Term) (x : ℕ) (ts : List Term) → sizes (map (replaced old (name x)) ts) ≤ sizes ts
none_larger old x [] = omega arith
none_larger old x (t ∷ ts) = let p = no_larger old x t in let q = none_larger old x ts in omega arith

pub vector_smaller : (h x : ℕ) (t : Term) (ts : List Term) → first_higher h ts ≡ Some t → sizes (map (replaced (lowest t) (name x)) ts) < sizes ts
vector_smaller h x t [] is = let z : ◌≡◌ {A = ℕ} 0 1 = cc in absurd (omega arith)
vector_smaller h x t (u ∷ us) is = by (λ later. vector_smaller h x t us later) (cases_Bool (ltb h (height u)))
  where
    by : (first_higher h us ≡ Some t → sizes (map (replaced (lowest t) (name x)) us) < sizes us) → (ltb h (height u) ≡ true) ⊎ (ltb h (height u) ≡ false) → sizes (map (replaced (lowest t) (name x)) (u ∷ us)) < sizes (u ∷ us)
    by later (inl yes') =
        let e : ◌≡◌ {A = Option Term} (Some u) (Some t) = sym (cond-true (ltb h (height u)) (Some u) (first_higher h us) yes') ∙ is in
        let same' : u ≡ t = cc in
        let high = ltb-true h (height u) yes' in
        let q = none_larger (lowest t) x us in
        let p : size (replaced (lowest t) (name x) u) < size u = subst (λ w. size (replaced (lowest w) (name x) u) < size u) same' (smaller x u (omega arith)) in
        omega arith
    by later (inr no') =
        let q = later (sym (cond-false (ltb h (height u)) (Some u) (first_higher h us) no') ∙ is) in
        let p = no_larger (lowest t) x u in
        omega arith

cut_ends : (n h : ℕ) (row : Row) → sizes row.vector < n → (end : Option Row) × Cut h row end
cut_ends zero h row small = absurd (omega arith)
cut_ends (suc n) h row small = by (λ next less. cut_ends n h next less) (first_higher h row.vector) refl (lowest_free (stands row)) refl
  where
    by : ((next : Row) → sizes next.vector < n → (end : Option Row) × Cut h next end) → (o : Option Term) → first_higher h row.vector ≡ o → (p : Option ℕ) → lowest_free (stands row) ≡ p → (end : Option Row) × Cut h row end
    by more None e p f = (Some row, low row e)
    by more (Some t) e None f = (None, nameless row t e f)
    by more (Some t) e (Some x) f =
        let less = vector_smaller h x t row.vector e in
        let rest = more (replaced_row (lowest t) (name x) row) (omega arith) in
        (rest.0, cut row t x rest.0 e f rest.1)

pub some_form : (h : ℕ) (row : Row) → (outcome : Option Row) × Form h row outcome
some_form h row = by (cut_ends (suc (sizes row.vector)) h row (omega arith)).0 (cut_ends (suc (sizes row.vector)) h row (omega arith)).1
  where
    by : (end : Option Row) → Cut h row end → (outcome : Option Row) × Form h row outcome
    by None c = (None, c)
    by (Some end) c = (Some (trimmed h end), (end, c, refl))

-- the way down ends at height 1
way_down : (t : Term) → 0 < height t → height (lowest t) ≡ 1
way_down (name y) high = absurd (omega arith)
way_down (constant f) high = absurd (omega arith)
way_down (unary f a) high =
    cond_both (eqb (height a) 0) (unary f a) (lowest a) (λ u. height u ≡ 1) (λ e. ap suc (eqb-true (height a) 0 e)) (λ e. let no' = eqb-false (height a) 0 e in way_down a (omega arith))
way_down (binary f a b) high =
    cond_both (eqb (max (height a) (height b)) 0) (binary f a b) (cond (eqb (height a) (max (height a) (height b))) (lowest a) (lowest b)) (λ u. height u ≡ 1) (λ e. ap suc (eqb-true (max (height a) (height b)) 0 e))
    (λ e. let no' = eqb-false (max (height a) (height b)) 0 e in
    cond_both (eqb (height a) (max (height a) (height b))) (lowest a) (lowest b) (λ u. height u ≡ 1) (λ e₁. let is = eqb-true (height a) (max (height a) (height b)) e₁ in way_down a (omega arith)) (λ e₁. let n₁ = eqb-false (height a) (max (height a) (height b)) e₁ in way_down b (omega arith)))
way_down (ternary f a b c) high =
    let top = max (height a) (max (height b) (height c)) in
    cond_both (eqb top 0) (ternary f a b c) (cond (eqb (height a) top) (lowest a) (cond (eqb (height b) top) (lowest b) (lowest c))) (λ u. height u ≡ 1) (λ e. ap suc (eqb-true top 0 e))
    (λ e. let no' = eqb-false top 0 e in
    cond_both (eqb (height a) top) (lowest a) (cond (eqb (height b) top) (lowest b) (lowest c)) (λ u. height u ≡ 1) (λ e₁. let is = eqb-true (height a) top e₁ in way_down a (omega arith))
    (λ e₁. let n₁ = eqb-false (height a) top e₁ in cond_both (eqb (height b) top) (lowest b) (lowest c) (λ u. height u ≡ 1) (λ e₂. let is = eqb-true (height b) top e₂ in way_down b (omega arith)) (λ e₂. let n₂ = eqb-false (height b) top e₂ in way_down c (omega arith))))

-- the lowest free name, of those from `from` on, where all below are taken
lowest-from : (taken : ℕ → Bool) (k from : ℕ) → from + k ≡ 32 → ((y : ℕ) → y < from → taken y ≡ true) → IsLowest taken (lowest_from taken k from)
lowest-from taken zero from end below = λ y lt. below y (omega arith)
lowest-from taken (suc k) from end below =
    cond_both (taken from) (lowest_from taken k (suc from)) (Some from) (IsLowest taken) (λ yes'. lowest-from taken k (suc from) (omega arith) (more yes')) (λ no'. (omega arith, no', below))
  where
    more : taken from ≡ true → (y : ℕ) → y < suc from → taken y ≡ true
    more yes' y lt = ⊎_elim (λ less. below y less) (λ ge. let e : y ≡ from = omega arith in ap taken e ∙ yes') (cases_lt y from)

pub cutting_rules : Rules
cutting_rules = record { names = λ taken. lowest-from taken 32 0 (omega arith) (λ y lt. absurd (omega arith)); down = λ t. record { one = way_down t } }
