-- The inputs' names are new and different, so they can have the inputs' values.
use Rattle.std.proofs.Common.{◌≡◌, ℕ, zero, suc, ◌^◌, ◌<◌, Bool, true, false, cond, ◌||◌, eqb, List, [], ◌∷◌, map, length, Some, None, Option, sym, refl, ap, ◌∙◌, subst, arith}
use Rattle.std.specs.List.{AllByRecursion as All}
use Rattle.std.proofs.ByRecursion.{All-weaker}
use Rattle.std.proofs.lemmas.Bool.{cond_both, cond-true, cond-false, eq-eqb, ne_eqb, or_parts, or_left, or_right, both_ways}
use Rattle.terms.specs.Terms.{Term, name, constant, unary, binary, ternary, Interpretation, eval, occurs, Literal, Holds}
use Rattle.forms.specs.Rows.{occurs_in_terms, occurs_in_literals, lowest_free}
use Rattle.forms.specs.Candidate.{or_none, names_for}
use Rattle.forms.proofs.Values.{signed_same}
use Rattle.forms.proofs.Cutting.{free_name}

abbrev pub Distinct : List ℕ → Type 0
Distinct [] = Unit {0}
Distinct (x ∷ xs) = All (λ y. eqb y x ≡ false) xs × Distinct xs

pub record New (taken : ℕ → Bool) (n : ℕ) (xs : List ℕ) : Type 0 where
  pub long : length xs ≡ n
  pub free : All (λ y. taken y ≡ false) xs
  pub distinct : Distinct xs

pub names_new : (n : ℕ) (taken : ℕ → Bool) (xs : List ℕ) → names_for n taken ≡ Some xs → New taken n xs
names_new zero taken xs is =
    let e : [] ≡ xs = cc in subst (New taken zero) e (record { long = refl; free = tt; distinct = tt })
names_new (suc n) taken xs is = first (λ x ys e. names_new n (λ y. eqb y x || taken y) ys e) (lowest_free taken) refl is
  where
    more : (x : ℕ) → taken x ≡ false → (ys : List ℕ) → New (λ y. eqb y x || taken y) n ys → New taken (suc n) (x ∷ ys)
    more x free ys new =
        record { long = ap suc new.long; free = (free, All-weaker (λ y. (eqb y x || taken y) ≡ false) (λ y. taken y ≡ false) (λ y e. (or_parts (eqb y x) (taken y) e).1) ys new.free); distinct = (All-weaker (λ y. (eqb y x || taken y) ≡ false) (λ y. eqb y x ≡ false) (λ y e. (or_parts (eqb y x) (taken y) e).0) ys new.free, new.distinct) }

    second : (x : ℕ) → taken x ≡ false → ((ys : List ℕ) → names_for n (λ y. eqb y x || taken y) ≡ Some ys → New (λ y. eqb y x || taken y) n ys) → (o : Option (List ℕ)) → names_for n (λ y. eqb y x || taken y) ≡ o → or_none o (λ ys. Some (x ∷ ys)) ≡ Some xs → New taken (suc n) xs
    second x free ih None e is' = let z : ◌≡◌ {A = ℕ} 0 1 = cc in absurd (omega arith)
    second x free ih (Some ys) e is' = let same' : x ∷ ys ≡ xs = cc in subst (New taken (suc n)) same' (more x free ys (ih ys e))

    first : ((x : ℕ) (ys : List ℕ) → names_for n (λ y. eqb y x || taken y) ≡ Some ys → New (λ y. eqb y x || taken y) n ys) → (o : Option ℕ) → lowest_free taken ≡ o → or_none o (λ x. or_none (names_for n (λ y. eqb y x || taken y)) (λ ys. Some (x ∷ ys))) ≡ Some xs → New taken (suc n) xs
    first ih None e is' = let z : ◌≡◌ {A = ℕ} 0 1 = cc in absurd (omega arith)
    first ih (Some x) e is' = second x (free_name taken x e) (ih x) (names_for n (λ y. eqb y x || taken y)) refl is'

-- the names have these values, every other name the one that it had
abbrev pub values_for : List ℕ → List ℕ → (ℕ → ℕ) → ℕ → ℕ
values_for [] vs old y = old y
values_for (x ∷ xs) [] old y = old y
values_for (x ∷ xs) (v ∷ vs) old y = cond (eqb y x) v (values_for xs vs old y)

pub values_small : (xs vs : List ℕ) (old : ℕ → ℕ) → All (λ v. v < 2 ^ 32) vs → ((y : ℕ) → old y < 2 ^ 32) → (y : ℕ) → values_for xs vs old y < 2 ^ 32
values_small [] vs old all small y = small y
values_small (x ∷ xs) [] old all small y = small y
values_small (x ∷ xs) (v ∷ vs) old all small y =
    cond_both (eqb y x) v (values_for xs vs old y) (λ k. k < 2 ^ 32) (λ _. all.0) (λ _. values_small xs vs old all.1 small y)

abbrev pub assigned : Interpretation → (xs vs : List ℕ) → All (λ v. v < 2 ^ 32) vs → Interpretation
assigned i xs vs all = record { meaning = i.meaning; values = values_for xs vs i.values; meaning_small = i.meaning_small; values_small = values_small xs vs i.values all i.values_small }

pub values_elsewhere : (xs vs : List ℕ) (old : ℕ → ℕ) (y : ℕ) → All (λ x. eqb y x ≡ false) xs → values_for xs vs old y ≡ old y
values_elsewhere [] vs old y other = refl
values_elsewhere (x ∷ xs) [] old y other = refl
values_elsewhere (x ∷ xs) (v ∷ vs) old y other =
    cond-false (eqb y x) v (values_for xs vs old y) other.0 ∙ values_elsewhere xs vs old y other.1

map_elsewhere : (x v : ℕ) (w : ℕ → ℕ) (ys : List ℕ) → All (λ y. eqb y x ≡ false) ys → map (λ y. cond (eqb y x) v (w y)) ys ≡ map w ys
map_elsewhere x v w [] other = refl
map_elsewhere x v w (y ∷ ys) other =
    let p = cond-false (eqb y x) v (w y) other.0 in let q = map_elsewhere x v w ys other.1 in cc

pub values_given : (xs vs : List ℕ) (old : ℕ → ℕ) → length xs ≡ length vs → Distinct xs → map (values_for xs vs old) xs ≡ vs
values_given [] [] old long distinct = refl
values_given [] (v ∷ vs) old long distinct = absurd (omega arith)
values_given (x ∷ xs) [] old long distinct = absurd (omega arith)
values_given (x ∷ xs) (v ∷ vs) old long distinct =
    let p : cond (eqb x x) v (values_for xs vs old x) ≡ v = cond-true (eqb x x) v (values_for xs vs old x) (eq-eqb x x refl) in
    let q : map (values_for (x ∷ xs) (v ∷ vs) old) xs ≡ vs = map_elsewhere x v (values_for xs vs old) xs distinct.0 ∙ values_given xs vs old (omega arith) distinct.1 in
    cc

-- a name that is taken is none of the free ones
pub taken_elsewhere : (taken : ℕ → Bool) (xs : List ℕ) (y : ℕ) → taken y ≡ true → All (λ x. taken x ≡ false) xs → All (λ x. eqb y x ≡ false) xs
taken_elsewhere taken xs y is all =
    All-weaker (λ x. taken x ≡ false) (λ x. eqb y x ≡ false) (λ x free. ne_eqb y x (λ e. both_ways (taken x) free (ap taken (sym e) ∙ is))) xs all

-- Where the names of a term keep their values, so does the term.
abbrev pub Alike : Interpretation → Interpretation → (ℕ → Bool) → Type 0
Alike i j named = (x : ℕ) → named x ≡ true → j.values x ≡ i.values x

pub eval_alike : (i j : Interpretation) → j.meaning ≡ i.meaning → (t : Term) → Alike i j (λ x. occurs x t) → eval j t ≡ eval i t
eval_alike i j m (name x) alike = alike x (eq-eqb x x refl)
eval_alike i j m (constant f) alike = ap (λ (k : ℕ → List ℕ → ℕ). k f []) m
eval_alike i j m (unary f a) alike = let p = eval_alike i j m a alike in cc
eval_alike i j m (binary f a b) alike =
    let p = eval_alike i j m a (λ x e. alike x (or_left (occurs x a) (occurs x b) e)) in
    let q = eval_alike i j m b (λ x e. alike x (or_right (occurs x a) (occurs x b) e)) in
    cc
eval_alike i j m (ternary f a b c) alike =
    let p = eval_alike i j m a (λ x e. alike x (or_left (occurs x a) (occurs x b || occurs x c) e)) in
    let q = eval_alike i j m b (λ x e. alike x (or_right (occurs x a) (occurs x b || occurs x c) (or_left (occurs x b) (occurs x c) e))) in
    let r = eval_alike i j m c (λ x e. alike x (or_right (occurs x a) (occurs x b || occurs x c) (or_right (occurs x b) (occurs x c) e))) in
    cc

pub vector_alike : (i j : Interpretation) → j.meaning ≡ i.meaning → (ts : List Term) → Alike i j (λ x. occurs_in_terms x ts) → map (eval j) ts ≡ map (eval i) ts
vector_alike i j m [] alike = refl
vector_alike i j m (t ∷ ts) alike =
    let p = eval_alike i j m t (λ x e. alike x (or_left (occurs x t) (occurs_in_terms x ts) e)) in
    let q = vector_alike i j m ts (λ x e. alike x (or_right (occurs x t) (occurs_in_terms x ts) e)) in
    cc

pub conditions_alike : (i j : Interpretation) → j.meaning ≡ i.meaning → (cs : List Literal) → Alike i j (λ x. occurs_in_literals x cs) → All (Holds i) cs → All (Holds j) cs
conditions_alike i j m [] alike all = tt
conditions_alike i j m (c ∷ cs) alike all =
    let l = eval_alike i j m c.left (λ x e. alike x (or_left (occurs x c.left || occurs x c.right) (occurs_in_literals x cs) (or_left (occurs x c.left) (occurs x c.right) e))) in
    let r = eval_alike i j m c.right (λ x e. alike x (or_left (occurs x c.left || occurs x c.right) (occurs_in_literals x cs) (or_right (occurs x c.left) (occurs x c.right) e))) in
    (signed_same c.sign (eval i c.left) (eval j c.left) (eval i c.right) (eval j c.right) (sym l) (sym r) all.0, conditions_alike i j m cs (λ x e. alike x (or_right (occurs x c.left || occurs x c.right) (occurs_in_literals x cs) e)) all.1)
