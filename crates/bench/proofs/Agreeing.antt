-- What is worked out from lists by number is the same for lists that are the same by number.
use Rattle.std.proofs.Common.{◌≡◌, ℕ, zero, suc, ◌<◌, Bool, true, false, eqb, ltb, List, [], ◌∷◌, ◌++◌, map, length, get_or, take, Some, None, Option, sym, refl, ap, ◌∙◌, ap₂, ⊎_elim, arith}
use Rattle.std.proofs.lemmas.List.{get_or_past}
use Rattle.std.proofs.lemmas.Bool.{and_parts}
use Rattle.std.proofs.lemmas.Bool.Decides.{leb_tells}
use Rattle.sheet.specs.declared.syntax.Equation.{Equation}
use Rattle.sheet.specs.declared.syntax.Formula.{Formula}
use Rattle.sheet.specs.declared.syntax.Term.{Term}
use Rattle.sheet.specs.declared.syntax.TermInfo.{TermInfo}
use Rattle.sheet.specs.Grow.{grow}
use Rattle.sheet.specs.Lawful.{each_at}
use Rattle.sheet.specs.Rules.{no_info, input_at, term_info, term_infos}
use Rattle.sheet.specs.Runs.{or_kept, numbered}
use Rattle.sheet.specs.Truth.{Meaning, term_value, term_values, equal, answers, truth_of, truths}
use Rattle.sheet.proofs.Growing.{grow_at, grow-length}
use Rattle.bench.specs.Outcome.{Same}
use Rattle.bench.specs.Values.{Due}
use Rattle.bench.proofs.Evaluating.{term_known, cut_due, unlike}

grow-same : {N V : Type 0} (f g : List V → N → V) → ((seen : List V) (x : N) → f seen x ≡ g seen x) → (seen : List V) (xs : List N) → grow f seen xs ≡ grow g seen xs
grow-same f g h seen [] = refl
grow-same f g h seen (x ∷ xs) = grow-same f g h (seen ++ f seen x ∷ []) xs ∙ ap (λ v. grow g (seen ++ v ∷ []) xs) (h seen x)

pub map_same : {A B : Type 0} (f g : A → B) → ((x : A) → f x ≡ g x) → (xs : List A) → map f xs ≡ map g xs
map_same f g h [] = refl
map_same f g h (x ∷ xs) = ap₂ (λ y ys. y ∷ ys) (h x) (map_same f g h xs)

pub numbered-same : {A B : Type 0} (f g : ℕ → A → B) → ((n : ℕ) (x : A) → f n x ≡ g n x) → (n : ℕ) (xs : List A) → numbered f n xs ≡ numbered g n xs
numbered-same f g h n [] = refl
numbered-same f g h n (x ∷ xs) = ap₂ (λ y ys. y ∷ ys) (h n x) (numbered-same f g h (suc n) xs)

pub or_kept_same : {A : Type 0} (f g : ℕ → A) (x y : A) → ((n : ℕ) → f n ≡ g n) → x ≡ y → (o : Option ℕ) → or_kept f x o ≡ or_kept g y o
or_kept_same f g x y h e None = e
or_kept_same f g x y h e (Some n) = h n

module _ (m : Meaning) (rs ts inputs : List ℕ) (same : Same 0 rs ts) where
  value_same : (seen : List ℕ) (x : Term) → term_value m rs inputs seen x ≡ term_value m ts inputs seen x
  value_same seen (Term.Reading r) = same r
  value_same seen (Term.Input i) = refl
  value_same seen (Term.Apply f args) = refl

  pub values_same : (terms : List Term) → term_values m rs inputs terms ≡ term_values m ts inputs terms
  values_same terms = grow-same (term_value m rs inputs) (term_value m ts inputs) value_same [] terms

equal-same : (vs ws : List ℕ) → Same 0 vs ws → (e : Equation) → equal vs e ≡ equal ws e
equal-same vs ws h e = ap₂ eqb (h e.left) (h e.right)

pub answers-same : (vs ws : List ℕ) → Same 0 vs ws → (es : List Equation) → answers vs es ≡ answers ws es
answers-same vs ws h es = map_same (equal vs) (equal ws) (equal-same vs ws h) es

module _ (bs cs qs rs ks ls : List Bool) (hb : Same false bs cs) (hq : Same false qs rs) (hk : Same false ks ls) where
  truth_same : (seen : List Bool) (f : Formula) → truth_of bs qs ks seen f ≡ truth_of cs rs ls seen f
  truth_same seen Formula.True = refl
  truth_same seen (Formula.Bit b) = hb b
  truth_same seen (Formula.Question q) = hq q
  truth_same seen (Formula.Claim c) = hk c
  truth_same seen (Formula.Not a) = refl
  truth_same seen (Formula.And a b) = refl
  truth_same seen (Formula.Or a b) = refl

  pub truths-same : (fs : List Formula) → truths bs qs ks fs ≡ truths cs rs ls fs
  truths-same fs = grow-same (truth_of bs qs ks) (truth_of cs rs ls) truth_same [] fs

pub not_due : (x : Bool) → Due false x → x ≡ false
not_due true d = sym (d refl)
not_due false d = refl

-- without inputs a term's value does not depend on them
module _ (m : Meaning) (readings is js : List ℕ) (terms : List Term) where
  either : (seen : List ℕ) (infos : List TermInfo) (x : Term) → (term_info infos x).has_input ≡ false → term_value m readings is seen x ≡ term_value m readings js seen x
  either seen infos (Term.Reading r) e = refl
  either seen infos (Term.Input i) e = unlike (sym e)
  either seen infos (Term.Apply f args) e = refl

  Agree : ℕ → Type 0
  Agree k = input_at (term_infos terms) k ≡ false → get_or (term_values m readings is terms) k 0 ≡ get_or (term_values m readings js terms) k 0

  from-below : (k : ℕ) → ((a : ℕ) → a < k → Agree a) → Agree k
  unfolding Agree
  from-below k before e = ⊎_elim (λ (t : (ltb k (length terms) ≡ true) × (k < length terms)). inside t.1) (λ (t : (ltb k (length terms) ≡ false) × (length terms < suc k)). get_or_past (term_values m readings is terms) k 0 (omega (arith, t.1, grow-length (term_value m readings is) [] terms)) ∙ sym (get_or_past (term_values m readings js terms) k 0 (omega (arith, t.1, grow-length (term_value m readings js) [] terms)))) (leb_tells (suc k) (length terms))
    where
      inside : k < length terms → get_or (term_values m readings is terms) k 0 ≡ get_or (term_values m readings js terms) k 0
      inside l =
          let x = get_or terms k (Term.Reading 0) in
          let infos = take k (term_infos terms) in
          let a = grow_at (term_value m readings is) terms k 0 (Term.Reading 0) l in
          let b = grow_at (term_value m readings js) terms k 0 (Term.Reading 0) l in
          let about : (term_info infos x).has_input ≡ false = ap (λ (i : TermInfo). i.has_input) (sym (grow_at term_info terms k no_info (Term.Reading 0) l)) ∙ e in
          let agree = cut_due false (term_infos terms) (term_values m readings is terms) (term_values m readings js terms) k (λ a h d. before a h (not_due (input_at (term_infos terms) a) d)) in
          a ∙ (term_known false infos (take k (term_values m readings is terms)) (take k (term_values m readings js terms)) agree m readings is x (λ t. unlike (sym about ∙ t)) ∙ (either (take k (term_values m readings js terms)) infos x about ∙ sym b))

  below : (n k : ℕ) → k < n → Agree k
  below zero k h = absurd (omega arith)
  below (suc n) k h = from-below k (λ a l. below n a (omega arith))

  pub plain-same : (k : ℕ) → input_at (term_infos terms) k ≡ false → get_or (term_values m readings is terms) k 0 ≡ get_or (term_values m readings js terms) k 0
  unfolding Agree
  plain-same k e = below (suc k) k (omega arith) e

pub map_each : {A B : Type 0} (p : ℕ → A → Bool) (f g : A → B) → ((n : ℕ) (x : A) → p n x ≡ true → f x ≡ g x) → (n : ℕ) (xs : List A) → each_at p n xs ≡ true → map f xs ≡ map g xs
map_each p f g h n [] e = refl
map_each p f g h n (x ∷ xs) e = let a = and_parts (p n x) (each_at p (suc n) xs) e in ap₂ (λ y ys. y ∷ ys) (h n x a.0) (map_each p f g h (suc n) xs a.1)
