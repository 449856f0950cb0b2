-- Tests of each element with its number.
use Rattle.std.proofs.Common.{◌≡◌, ℕ, zero, suc, ◌+◌, ◌<◌, Bool, true, List, [], ◌∷◌, ◌++◌, length, get_or, set, sym, refl, ap, ◌∙◌, add-zero, arith}
use Rattle.std.proofs.lemmas.Bool.{and_from, and_parts}
use Rattle.sheet.specs.Lawful.{each_at}

pub each_push : {A : Type 0} (p : ℕ → A → Bool) (n : ℕ) (xs : List A) (x : A) → each_at p n xs ≡ true → p (n + length xs) x ≡ true → each_at p n (xs ++ x ∷ []) ≡ true
each_push p n [] x e h = and_from (p n x) true (ap (λ m. p m x) (sym (add-zero n)) ∙ h) refl
each_push p n (y ∷ ys) x e h =
    let a = and_parts (p n y) (each_at p (suc n) ys) e in
    and_from (p n y) (each_at p (suc n) (ys ++ x ∷ [])) a.0 (each_push p (suc n) ys x a.1 (ap (λ m. p m x) (omega arith) ∙ h))

pub each_weaker : {A : Type 0} (p q : ℕ → A → Bool) (n : ℕ) (xs : List A) → ((m : ℕ) (x : A) → m < n + length xs → p m x ≡ true → q m x ≡ true) → each_at p n xs ≡ true → each_at q n xs ≡ true
each_weaker p q n [] w e = refl
each_weaker p q n (y ∷ ys) w e =
    let a = and_parts (p n y) (each_at p (suc n) ys) e in
    and_from (q n y) (each_at q (suc n) ys) (w n y (omega arith) a.0) (each_weaker p q (suc n) ys (λ m x h. w m x (omega arith)) a.1)

pub each_at-index : {A : Type 0} (p : ℕ → A → Bool) (n : ℕ) (xs : List A) (i : ℕ) (d : A) → each_at p n xs ≡ true → i < length xs → p (n + i) (get_or xs i d) ≡ true
each_at-index p n [] i d e h = absurd (omega arith)
each_at-index p n (y ∷ ys) zero d e h = ap (λ m. p m y) (add-zero n) ∙ (and_parts (p n y) (each_at p (suc n) ys) e).0
each_at-index p n (y ∷ ys) (suc i) d e h =
    let m : n + suc i ≡ suc n + i = omega arith in
    rw m (each_at-index p (suc n) ys i d (and_parts (p n y) (each_at p (suc n) ys) e).1 (omega arith))

pub each_set : {A : Type 0} (p : ℕ → A → Bool) (n : ℕ) (xs : List A) (i : ℕ) (x : A) → each_at p n xs ≡ true → p (n + i) x ≡ true → each_at p n (set xs i x) ≡ true
each_set p n [] i x e h = refl
each_set p n (y ∷ ys) zero x e h = and_from (p n x) (each_at p (suc n) ys) (ap (λ m. p m x) (sym (add-zero n)) ∙ h) (and_parts (p n y) (each_at p (suc n) ys) e).1
each_set p n (y ∷ ys) (suc i) x e h =
    let a = and_parts (p n y) (each_at p (suc n) ys) e in
    and_from (p n y) (each_at p (suc n) (set ys i x)) a.0 (each_set p (suc n) ys i x a.1 (ap (λ m. p m x) (omega arith) ∙ h))

pub each_from : {A : Type 0} (p : ℕ → A → Bool) (n : ℕ) (xs : List A) (d : A) → ((i : ℕ) → i < length xs → p (n + i) (get_or xs i d) ≡ true) → each_at p n xs ≡ true
each_from p n [] d h = refl
each_from p n (y ∷ ys) d h =
    and_from (p n y) (each_at p (suc n) ys) (ap (λ m. p m y) (sym (add-zero n)) ∙ h 0 (omega arith)) (each_from p (suc n) ys d (λ i l. ap (λ m. p m (get_or ys i d)) (omega arith) ∙ h (suc i) (omega arith)))
