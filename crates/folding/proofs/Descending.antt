-- The way down from a term that is too high.
use Rattle.std.proofs.Common.{◌≡◌, ℕ, suc, ◌-◌, ◌<◌, Bool, true, false, max, cond, eqb, nat_lt, List, [], ◌∷◌, length, map, get_or, Some, None, Option, option_map, MatchOption, sym, refl, ap, ◌∙◌, subst, arith}
use Rattle.std.proofs.lemmas.Bool.{cond-true, cond-false, eq-eqb, ne_eqb, ltb-true}
use Rattle.std.specs.List.{find}
use Rattle.terms.specs.declared.Node.{Node}
use Rattle.terms.specs.declared.Node.TheVariants.{Unary, Binary, Ternary}
use Rattle.terms.specs.declared.TermRecord.{TermRecord}
use Rattle.terms.specs.Terms.{Term, unary, binary, ternary, height}
use Rattle.terms.specs.Bank.{Bank, Fit, no_record, node_at, term_at, term_of}
use Rattle.terms.proofs.Standing.{term_at-ordered}
use Rattle.forms.specs.Form.{first_higher, lowest}

-- whether the term at a place is higher than the bound, by its record
abbrev pub is_higher : List TermRecord → ℕ → ℕ → Bool
is_higher rs bound p = nat_lt bound (get_or rs p no_record).height

-- what the first such place is
pub found : (rs : List TermRecord) (n : ℕ) → Bank rs n → (bound : ℕ) (ps : List ℕ) → ((k : ℕ) → k < length ps → get_or ps k 0 < n) → (r : Option ℕ) → option_map (λ p. p) r ≡ find (is_higher rs bound) ps → MatchOption r (first_higher bound (map (term_at rs) ps) ≡ None) (λ p. (p < n) × (first_higher bound (map (term_at rs) ps) ≡ Some (term_at rs p)) × (bound < height (term_at rs p)))
found rs n bank bound ps below r is = of r is
  where
    Found : Option ℕ → Option Term → Type 0
    Found place first = MatchOption place (first ≡ None) (λ p. (p < n) × (first ≡ Some (term_at rs p)) × (bound < height (term_at rs p)))

    from : (b : Bool) (p : ℕ) (qs : List ℕ) → p < n → nat_lt bound (height (term_at rs p)) ≡ b → Found (find (is_higher rs bound) qs) (first_higher bound (map (term_at rs) qs)) → Found (cond b (Some p) (find (is_higher rs bound) qs)) (cond b (Some (term_at rs p)) (first_higher bound (map (term_at rs) qs)))
    from true p qs inside high others = (inside, refl, ltb-true bound (height (term_at rs p)) high)
    from false p qs inside low others = others

    all : (qs : List ℕ) → ((k : ℕ) → k < length qs → get_or qs k 0 < n) → Found (find (is_higher rs bound) qs) (first_higher bound (map (term_at rs) qs))
    all [] lower = refl
    all (q ∷ qs) lower =
        let inside : q < n = lower 0 (omega arith) in
        let same : is_higher rs bound q ≡ nat_lt bound (height (term_at rs q)) = ap (nat_lt bound) (bank.heights q inside) in
        rw same (from (nat_lt bound (height (term_at rs q))) q qs inside refl (all qs (λ k lt. lower (suc k) (omega arith))))

    of : (r : Option ℕ) → option_map (λ p. p) r ≡ find (is_higher rs bound) ps → Found r (first_higher bound (map (term_at rs) ps))
    of None is = subst (λ o. Found o (first_higher bound (map (term_at rs) ps))) (sym is) (all ps below)
    of (Some p) is = subst (λ o. Found o (first_higher bound (map (term_at rs) ps))) (sym is) (all ps below)

down_unary : (f : ℕ) (a : Term) → 1 < suc (height a) → lowest (unary f a) ≡ lowest a
down_unary f a high = cond-false (eqb (height a) 0) (unary f a) (lowest a) (ne_eqb (height a) 0 (omega arith))

down_binary : (f : ℕ) (a b : Term) → 1 < suc (max (height a) (height b)) → lowest (binary f a b) ≡ cond (eqb (height a) (max (height a) (height b))) (lowest a) (lowest b)
down_binary f a b high = cond-false (eqb (max (height a) (height b)) 0) (binary f a b) _ (ne_eqb (max (height a) (height b)) 0 (omega arith))

down_ternary : (f : ℕ) (a b c : Term) → 1 < suc (max (height a) (max (height b) (height c))) → lowest (ternary f a b c) ≡ cond (eqb (height a) (max (height a) (max (height b) (height c)))) (lowest a) (cond (eqb (height b) (max (height a) (max (height b) (height c)))) (lowest b) (lowest c))
down_ternary f a b c high =
    cond-false (eqb (max (height a) (max (height b) (height c))) 0) (ternary f a b c) _ (ne_eqb (max (height a) (max (height b) (height c))) 0 (omega arith))

-- one step down
pub record Step (rs : List TermRecord) (place r : ℕ) : Type 0 where
  pub lower : r < place
  pub way : lowest (term_at rs place) ≡ lowest (term_at rs r)
  pub one : height (term_at rs place) ≡ suc (height (term_at rs r))

module _ (rs : List TermRecord) (n : ℕ) (bank : Bank rs n) (place : ℕ) (inside : place < n) (high : 1 < height (term_at rs place)) where
  at_node : (node : Node) → node_at rs place ≡ node → term_at rs place ≡ term_of (term_at rs) node
  at_node node is = term_at-ordered rs n bank.ordered place inside ∙ ap (term_of (term_at rs)) is

  fit_node : (node : Node) → node_at rs place ≡ node → Fit place node
  fit_node node is = subst (Fit place) is (bank.ordered.fit place inside)

  -- the stored height of a place, and of the term itself less one
  stored : (a : ℕ) → a < place → (get_or rs a no_record).height ≡ height (term_at rs a)
  stored a lt = bank.heights a (omega arith)

  down_from : (t : Term) (r : ℕ) → term_at rs place ≡ t → r < place → lowest t ≡ lowest (term_at rs r) → height t ≡ suc (height (term_at rs r)) → Step rs place r
  down_from t r is lt way one = record { lower = lt; way = ap lowest is ∙ way; one = ap height is ∙ one }

  pub unary_step : (f a : ℕ) → node_at rs place ≡ Unary f a → Step rs place a
  unary_step f a is =
      let e = at_node (Unary f a) is in
      down_from (unary f (term_at rs a)) a e (fit_node (Unary f a) is) (down_unary f (term_at rs a) (subst (λ t. 1 < height t) e high)) refl

  module _ (f a b : ℕ) (is : node_at rs place ≡ Binary f a b) where
    pub binary_first : (get_or rs a no_record).height ≡ (get_or rs place no_record).height - 1 → Step rs place a
    binary_first same =
        let e = at_node (Binary f a b) is in
        let fit = fit_node (Binary f a b) is in
        let whole = bank.heights place inside ∙ ap height e in
        let part = stored a fit.0 in
        let top : height (term_at rs a) ≡ max (height (term_at rs a)) (height (term_at rs b)) = omega (arith, same, whole, part) in
        down_from (binary f (term_at rs a) (term_at rs b)) a e fit.0
        (down_binary f (term_at rs a) (term_at rs b) (subst (λ t. 1 < height t) e high) ∙ cond-true (eqb (height (term_at rs a)) (max (height (term_at rs a)) (height (term_at rs b)))) _ _ (eq-eqb (height (term_at rs a)) (max (height (term_at rs a)) (height (term_at rs b))) top)) (ap suc (sym top))

    pub binary_second : ((get_or rs a no_record).height ≡ (get_or rs place no_record).height - 1 → ⊥) → Step rs place b
    binary_second other =
        let e = at_node (Binary f a b) is in
        let fit = fit_node (Binary f a b) is in
        let whole = bank.heights place inside ∙ ap height e in
        let part = stored a fit.0 in
        let not_top : height (term_at rs a) ≡ max (height (term_at rs a)) (height (term_at rs b)) → ⊥ = λ top. other (omega (arith, top, whole, part)) in
        let top : height (term_at rs b) ≡ max (height (term_at rs a)) (height (term_at rs b)) = omega (arith, not_top) in
        down_from (binary f (term_at rs a) (term_at rs b)) b e fit.1
        (down_binary f (term_at rs a) (term_at rs b) (subst (λ t. 1 < height t) e high) ∙ cond-false (eqb (height (term_at rs a)) (max (height (term_at rs a)) (height (term_at rs b)))) _ _ (ne_eqb (height (term_at rs a)) (max (height (term_at rs a)) (height (term_at rs b))) not_top)) (ap suc (sym top))

  module _ (f a b c : ℕ) (is : node_at rs place ≡ Ternary f a b c) where
    abbrev most : ℕ
    most = max (height (term_at rs a)) (max (height (term_at rs b)) (height (term_at rs c)))

    abbrev whole : Term
    whole = ternary f (term_at rs a) (term_at rs b) (term_at rs c)

    height_is : (get_or rs place no_record).height ≡ suc most
    height_is = bank.heights place inside ∙ ap height (at_node (Ternary f a b c) is)

    tall : 1 < suc most
    tall = subst (λ t. 1 < height t) (at_node (Ternary f a b c) is) high

    pub ternary_first : (get_or rs a no_record).height ≡ (get_or rs place no_record).height - 1 → Step rs place a
    ternary_first same =
        let fit = fit_node (Ternary f a b c) is in
        let top : height (term_at rs a) ≡ most = omega (arith, same, height_is, stored a fit.0) in
        down_from whole a (at_node (Ternary f a b c) is) fit.0 (down_ternary f (term_at rs a) (term_at rs b) (term_at rs c) tall ∙ cond-true (eqb (height (term_at rs a)) most) _ _ (eq-eqb (height (term_at rs a)) most top)) (ap suc (sym top))

    module _ (not_a : (get_or rs a no_record).height ≡ (get_or rs place no_record).height - 1 → ⊥) where
      not_top : height (term_at rs a) ≡ most → ⊥
      not_top top = let fit = fit_node (Ternary f a b c) is in not_a (omega (arith, top, height_is, stored a fit.0))

      second : lowest whole ≡ cond (eqb (height (term_at rs b)) most) (lowest (term_at rs b)) (lowest (term_at rs c))
      second = down_ternary f (term_at rs a) (term_at rs b) (term_at rs c) tall ∙ cond-false (eqb (height (term_at rs a)) most) _ _ (ne_eqb (height (term_at rs a)) most not_top)

      pub ternary_second : (get_or rs b no_record).height ≡ (get_or rs place no_record).height - 1 → Step rs place b
      ternary_second same =
          let fit = fit_node (Ternary f a b c) is in
          let top : height (term_at rs b) ≡ most = omega (arith, same, height_is, stored b fit.1) in
          down_from whole b (at_node (Ternary f a b c) is) fit.1 (second ∙ cond-true (eqb (height (term_at rs b)) most) _ _ (eq-eqb (height (term_at rs b)) most top)) (ap suc (sym top))

      pub ternary_third : ((get_or rs b no_record).height ≡ (get_or rs place no_record).height - 1 → ⊥) → Step rs place c
      ternary_third not-b =
          let fit = fit_node (Ternary f a b c) is in
          let not_top_b : height (term_at rs b) ≡ most → ⊥ = λ top. not-b (omega (arith, top, height_is, stored b fit.1)) in
          let top : height (term_at rs c) ≡ most = omega (arith, not_top, not_top_b) in
          down_from whole c (at_node (Ternary f a b c) is) fit.2 (second ∙ cond-false (eqb (height (term_at rs b)) most) _ _ (ne_eqb (height (term_at rs b)) most not_top_b)) (ap suc (sym top))
