-- What joining two labels keeps: roots, soundness and the count of classes.
use Rattle.std.proofs.Common.{◌≡◌, ℕ, zero, suc, ◌+◌, ◌-◌, ◌<◌, ◌≤◌, min, max, Bool, true, false, cond, eqb, ltb, ◌⊎◌, List, sym, refl, ap, ◌∙◌, subst, inl, inr, ⊎_elim, arith}
use Rattle.std.proofs.lemmas.Bool.Decides.{nat_tests}
use Rattle.std.proofs.lemmas.Bool.{cases_eq, cases_lt, cond-true, cond-false, eq-eqb, ne_eqb}
use Rattle.terms.specs.declared.TermRecord.{TermRecord}
use Rattle.terms.specs.Terms.{Literal}
use Rattle.terms.specs.Bank.{term_at}
use Rattle.closure.specs.Congruence.{Congruent, itself, turned, chained}
use Rattle.closure.specs.Labels.{label, classes}
use Rattle.closure.specs.Working.{Rooted, Forced, Spare, merge, Merged, Joined, Grown}

-- what a join of places a and b keeps and does
pub record JoinFacts (rs : List TermRecord) (n a b : ℕ) (l l' : List ℕ) : Type 0 where
  pub rooted : Rooted n l'
  pub coarser : (i k : ℕ) → i < n → k < n → label l i ≡ label l k → label l' i ≡ label l' k
  pub forced : (cs : List Literal) → Congruent cs (term_at rs a) (term_at rs b) → Forced rs n cs l → Forced rs n cs l'
  pub counted : 1 + classes n l' ≡ classes n l
  pub spare : Spare n l l'

merge_hit : (lo hi x : ℕ) → x ≡ hi → merge lo hi x ≡ lo
merge_hit lo hi x e = cond-true (eqb x hi) lo x (eq-eqb x hi e)

merge_miss : (lo hi x : ℕ) → (x ≡ hi → ⊥) → merge lo hi x ≡ x
merge_miss lo hi x e = cond-false (eqb x hi) lo x (ne_eqb x hi e)

-- a label is merged or stays, by cases
merge_cases : (lo hi x : ℕ) → ((x ≡ hi) × (merge lo hi x ≡ lo)) ⊎ ((x ≡ hi → ⊥) × (merge lo hi x ≡ x))
merge_cases lo hi x = ⊎_elim (λ e. inl (e, merge_hit lo hi x e)) (λ e. inr (e, merge_miss lo hi x e)) (cases_eq x hi)

module _ (n lo hi : ℕ) (l l' : List ℕ) (rooted : Rooted n l) (less : lo < hi) (inside : hi < n) (lo-root : label l lo ≡ lo) (hi-root : label l hi ≡ hi) (merged : Merged n lo hi l l') where
  merged_low : (i : ℕ) → i < n → label l' i ≤ i
  merged_low i lt =
      let e = merged.0 i lt in
      let low = rooted.low i lt in
      ⊎_elim (λ w. omega (arith, e, low, w.0, w.1)) (λ w. omega (arith, e, low, w.1)) (merge_cases lo hi (label l i))

  lo_stays : label l' lo ≡ lo
  lo_stays = merged.0 lo (omega arith) ∙ (ap (merge lo hi) lo-root ∙ merge_miss lo hi lo (omega arith))

  merged_root : (i : ℕ) → i < n → label l' (label l' i) ≡ label l' i
  merged_root i lt =
      let e = merged.0 i lt in
      let x = label l i in
      let in' : x < n = omega (arith, rooted.low i lt) in
      ⊎_elim
      (λ w. let is : label l' i ≡ lo = e ∙ w.1 in ap (label l') is ∙ (lo_stays ∙ sym is))
      (λ w. let is : label l' i ≡ x = e ∙ w.1 in
      ap (label l') is ∙ (merged.0 x in' ∙ (ap (merge lo hi) (rooted.root i lt) ∙ (w.1 ∙ sym is))))
      (merge_cases lo hi x)

  merged_coarser : (i k : ℕ) → i < n → k < n → label l i ≡ label l k → label l' i ≡ label l' k
  merged_coarser i k p q e = merged.0 i p ∙ (ap (merge lo hi) e ∙ sym (merged.0 k q))

  merged_forced : (rs : List TermRecord) (cs : List Literal) → Congruent cs (term_at rs lo) (term_at rs hi) → Forced rs n cs l → Forced rs n cs l'
  merged_forced rs cs joined forced i lt =
      let e = merged.0 i lt in
      ⊎_elim
      (λ w. chained (forced i lt) (subst (λ x. Congruent cs (term_at rs x) (term_at rs (label l' i))) (sym w.0) (subst (λ y. Congruent cs (term_at rs hi) (term_at rs y)) (sym (e ∙ w.1)) (turned joined))))
      (λ w. subst (λ y. Congruent cs (term_at rs i) (term_at rs y)) (sym (e ∙ w.1)) (forced i lt))
      (merge_cases lo hi (label l i))

  -- a place keeps being its own label, but for hi
  own_label : (i : ℕ) → i < n → cond (eqb (label l' i) i) 1 0 + cond (eqb i hi) 1 0 ≡ cond (eqb (label l i) i) 1 0
  own_label i lt =
      let e = merged.0 i lt in
      let low = rooted.low i lt in
      ⊎_elim (λ w. let a = w.0 in let b = w.1 in grind (arith, nat_tests)) (λ w. let a = w.0 in let b = w.1 in grind (arith, nat_tests)) (merge_cases lo hi (label l i))

  merged_classes : (k : ℕ) → k ≤ n → classes k l' + cond (ltb hi k) 1 0 ≡ classes k l
  merged_classes zero le = grind (arith, nat_tests)
  merged_classes (suc k) le =
      let ih = merged_classes k (omega arith) in
      let own = own_label k (omega arith) in
      grind (arith, nat_tests)

  merged_facts : (rs : List TermRecord) (a b : ℕ) → ((cs : List Literal) → Congruent cs (term_at rs a) (term_at rs b) → Forced rs n cs l → Congruent cs (term_at rs lo) (term_at rs hi)) → JoinFacts rs n a b l l'
  merged_facts rs a b why =
      record {
        rooted = record { low = merged_low; root = merged_root };
        coarser = merged_coarser;
        forced = λ cs joined forced. merged_forced rs cs (why cs joined forced) forced;
        counted = let e = merged_classes n (omega arith) in grind (arith, nat_tests);
        spare = merged.1;
      }

-- what joining two places that were apart does
pub join_facts : (rs : List TermRecord) (n a b : ℕ) (l l' : List ℕ) → a < n → b < n → Rooted n l → (label l a ≡ label l b → ⊥) → Merged n (min (label l a) (label l b)) (max (label l a) (label l b)) l l' → JoinFacts rs n a b l l'
join_facts rs n a b l l' p q rooted apart merged =
    let x = label l a in
    let y = label l b in
    let x_low = rooted.low a p in
    let y_low = rooted.low b q in
    let linked : (cs : List Literal) → Congruent cs (term_at rs a) (term_at rs b) → Forced rs n cs l → Congruent cs (term_at rs x) (term_at rs y) = λ cs joined forced. chained (turned (forced a p)) (chained joined (forced b q)) in
    ⊎_elim
    (λ lt.
    let lo_is : min x y ≡ x = omega arith in
    let hi_is : max x y ≡ y = omega arith in
    merged_facts n x y l l' rooted lt (omega arith) (rooted.root a p) (rooted.root b q) (subst (λ u. Merged n u y l l') lo_is (subst (λ u. Merged n (min x y) u l l') hi_is merged)) rs a b linked)
    (λ ge.
    let lt : y < x = omega (arith, apart) in
    let lo_is : min x y ≡ y = omega arith in
    let hi_is : max x y ≡ x = omega arith in
    merged_facts n y x l l' rooted lt (omega arith) (rooted.root b q) (rooted.root a p) (subst (λ u. Merged n u x l l') lo_is (subst (λ u. Merged n (min x y) u l l') hi_is merged)) rs a b (λ cs joined forced. turned (linked cs joined forced)))
    (cases_lt x y)

-- after a join the two places have one label
pub join_meets : (n a b : ℕ) (l l' : List ℕ) (r : Bool) → a < n → b < n → Joined n a b l l' r → label l' a ≡ label l' b
join_meets n a b l l' true p q joined =
    let x = label l a in
    let y = label l b in
    let e = joined.1.0 a p in
    let e' = joined.1.0 b q in
    e ∙ (⊎_elim
    (λ lt. let h : y ≡ max x y = omega arith in let m : x ≡ max x y → ⊥ = omega arith in let s : x ≡ min x y = omega arith in merge_miss (min x y) (max x y) x m ∙ (s ∙ sym (merge_hit (min x y) (max x y) y h)))
    (λ ge. let h : x ≡ max x y = omega arith in let m : y ≡ max x y → ⊥ = omega (arith, joined.0) in let s : min x y ≡ y = omega arith in merge_hit (min x y) (max x y) x h ∙ (s ∙ sym (merge_miss (min x y) (max x y) y m)))
    (cases_lt x y) ∙ sym e')
join_meets n a b l l' false p q joined = subst (λ m. label m a ≡ label m b) (sym joined.1) joined.0

-- joining two places that every such congruence joins
pub grown_join : (rs : List TermRecord) (n a b : ℕ) (l l' : List ℕ) → a < n → b < n → Rooted n l → (label l a ≡ label l b → ⊥) → Merged n (min (label l a) (label l b)) (max (label l a) (label l b)) l l' → ((cs : List Literal) → Forced rs n cs l → Congruent cs (term_at rs a) (term_at rs b)) → Grown rs n l l' 1
grown_join rs n a b l l' p q rooted apart merged why =
    let f = join_facts rs n a b l l' p q rooted apart merged in
    record { rooted = f.rooted; coarser = f.coarser; forced = λ cs forced. f.forced cs (why cs forced) forced; counted = f.counted; spare = f.spare }

pub grown_none : (rs : List TermRecord) (n : ℕ) (l : List ℕ) → Rooted n l → Grown rs n l l 0
grown_none rs n l rooted =
    record { rooted = rooted; coarser = λ i k p q e. e; forced = λ cs f. f; counted = omega arith; spare = λ k h. refl }

pub grown_more : (rs : List TermRecord) (n : ℕ) (l l' l'' : List ℕ) (j k : ℕ) → Grown rs n l l' j → Grown rs n l' l'' k → Grown rs n l l'' (j + k)
grown_more rs n l l' l'' j k g h =
    record {
      rooted = h.rooted;
      coarser = λ i u p q e. h.coarser i u p q (g.coarser i u p q e);
      forced = λ cs f. h.forced cs (g.forced cs f);
      counted = omega (arith, g.counted, h.counted);
      spare = λ i le. h.spare i le ∙ g.spare i le;
    }

-- labels that are the places themselves: every term a class of its own
pub rooted_start : (n : ℕ) (l : List ℕ) → ((k : ℕ) → k < n → label l k ≡ k) → Rooted n l
rooted_start n l is =
    record { low = λ i lt. omega (arith, is i lt); root = λ i lt. ap (label l) (is i lt) }

pub classes-start : (l : List ℕ) (n : ℕ) → ((k : ℕ) → k < n → label l k ≡ k) → classes n l ≡ n
classes-start l zero is = refl
classes-start l (suc n) is =
    let rest = classes-start l n (λ k lt. is k (omega arith)) in
    let own = is n (omega arith) in
    grind (arith, nat_tests)

pub forced_start : (rs : List TermRecord) (n : ℕ) (cs : List Literal) (l : List ℕ) → ((k : ℕ) → k < n → label l k ≡ k) → Forced rs n cs l
forced_start rs n cs l is i lt = subst (λ k. Congruent cs (term_at rs i) (term_at rs k)) (sym (is i lt)) (itself (term_at rs i))

classes_some : (l : List ℕ) (n : ℕ) → 0 < n → label l 0 ≡ 0 → 1 ≤ classes n l
classes_some l zero some is = absurd (omega arith)
classes_some l (suc n) some is =
    ⊎_elim (λ h. let e = classes_some l n h is in omega arith) (λ h. let z : n ≡ 0 = omega arith in subst (λ m. 1 ≤ classes (suc m) l) (sym z) (grind (arith, nat_tests))) (cases_lt 0 n)

-- fewer joins than terms
pub joins_bounded : (n j : ℕ) (l : List ℕ) → Rooted n l → j + classes n l ≡ n → j ≤ n - 1
joins_bounded n j l rooted counted =
    ⊎_elim (λ some. omega (arith, counted, classes_some l n some (omega (arith, rooted.low 0 some)))) (λ none. omega (arith, counted)) (cases_lt 0 n)

pub classes_few : (l : List ℕ) (n : ℕ) → classes n l ≤ n
classes_few l zero = omega arith
classes_few l (suc n) = let e = classes_few l n in grind (arith, nat_tests)
