-- Lists that are filled from the front: values, a branch's answers and the inputs' names.
use Rattle.std.proofs.Common.{◌≡◌, ℕ, zero, suc, ◌+◌, ◌-◌, ◌/◌, ◌%◌, ◌^◌, ◌<◌, ◌≤◌, Bool, true, false, cond, ◌||◌, eqb, List, [], ◌∷◌, ◌++◌, length, get_or, take, drop, set, replicate, Some, None, Option, sym, refl, ap, ◌∙◌, append_assoc, append-nil, arith, length-take}
use Rattle.std.proofs.Math.Bool.{or_comm}
use Rattle.std.proofs.Math.Path.{fun_ext}
use Rattle.std.specs.Prelude.{bit_or}
use Rattle.std.proofs.lemmas.List.{take_more, take_more_set, get_or-take, ext_get_or}
use Rattle.std.proofs.lemmas.Nat.{shr-shr}
use Rattle.terms.specs.Terms.{name}
use Rattle.terms.proofs.NameSets.{mentions_occurs}
use Rattle.forms.specs.Rows.{lowest_from, lowest_free}
use Rattle.forms.specs.Candidate.{branch_answers, or_none, names_for}
use Rattle.forms.proofs.Branches.{answers_long}
use Rattle.rows.specs.Names.{is_in}
use Rattle.rows.proofs.Sets.{in-union}

-- one value more
pub filled_more : {V : Type 0} (d : V) (out values : List V) (k : ℕ) (x : V) → k < length out → k < length values → x ≡ get_or values k d → take k out ≡ take k values → take (k + 1) (set out k x) ≡ take (k + 1) values
filled_more d out values k x room inside is old =
    let a = take_more_set out k x room in
    let b = take_more values k d inside in
    a ∙ (ap (λ l. l ++ x ∷ []) old ∙ (ap (λ y. take k values ++ y ∷ []) is ∙ sym b))

-- a branch's answers are its bits
answers_at : (count branch k : ℕ) → k < count → get_or (branch_answers count branch) k false ≡ eqb (branch / 2 ^ k % 2) 1
answers_at zero branch k lt = absurd (omega arith)
answers_at (suc count) branch zero lt = let e : branch / 2 ^ 0 ≡ branch = omega arith in ap (λ b. eqb (b % 2) 1) (sym e)
answers_at (suc count) branch (suc k) lt =
    let next : 1 + k ≡ suc k = omega arith in
    let e : branch / 2 / 2 ^ k ≡ branch / 2 ^ suc k = shr-shr branch 1 k ∙ ap (λ j. branch / 2 ^ j) next in
    answers_at count (branch / 2) k (omega arith) ∙ ap (λ b. eqb (b % 2) 1) e

pub answers_from_bits : (out : List Bool) (count branch : ℕ) → count ≤ length out → ((k : ℕ) → k < count → get_or out k false ≡ eqb (branch / 2 ^ k % 2) 1) → take count out ≡ branch_answers count branch
answers_from_bits out count branch room bits =
    let long : length (take count out) ≡ length (branch_answers count branch) = omega (arith, length-take count out, answers_long count branch) in
    ext_get_or false (take count out) (branch_answers count branch) long
    (λ k lt. let lt' : k < count = omega (arith, length-take count out) in get_or-take count out k false lt' ∙ (bits k lt' ∙ sym (answers_at count branch k lt')))

-- one name more
with_name : (set x : ℕ) → ◌≡◌ {A = ℕ → Bool} (λ y. eqb y x || is_in set y) (is_in (bit_or set (2 ^ x)))
with_name set x = fun_ext (λ y. sym (in-union set (2 ^ x) y ∙ (ap (λ b. is_in set y || b) (mentions_occurs y (name x)) ∙ or_comm (is_in set y) (eqb y x))))

pub named_more : (m set x : ℕ) (front : List ℕ) → lowest_free (is_in set) ≡ Some x → or_none (names_for (suc m) (is_in set)) (λ ys. Some (front ++ ys)) ≡ or_none (names_for m (is_in (bit_or set (2 ^ x)))) (λ ys. Some ((front ++ x ∷ []) ++ ys))
named_more m set x front is =
    ap (λ o. or_none (or_none o (λ z. or_none (names_for m (λ y. eqb y z || is_in set y)) (λ xs. Some (z ∷ xs)))) (λ ys. Some (front ++ ys))) is
    ∙ (ap (λ (taken : ℕ → Bool). or_none (or_none (names_for m taken) (λ xs. Some (x ∷ xs))) (λ ys. Some (front ++ ys))) (with_name set x) ∙ by (names_for m (is_in (bit_or set (2 ^ x)))))
  where
    by : (o : Option (List ℕ)) → or_none (or_none o (λ xs. Some (x ∷ xs))) (λ ys. Some (front ++ ys)) ≡ or_none o (λ ys. Some ((front ++ x ∷ []) ++ ys))
    by None = refl
    by (Some ys) = ap Some (sym (append_assoc front (x ∷ []) ys))

pub named_start : (n : ℕ) (taken : ℕ → Bool) → names_for n taken ≡ or_none (names_for (n - 0) taken) (λ ys. Some ys)
named_start n taken = let z : n ≡ n - 0 = omega arith in ap (λ m. names_for m taken) z ∙ by (names_for (n - 0) taken)
  where
    by : (o : Option (List ℕ)) → o ≡ or_none o (λ ys. Some ys)
    by None = refl
    by (Some ys) = refl

pub named_all : (n i : ℕ) (taken : ℕ → Bool) (out : List ℕ) → i ≡ n → or_none (names_for (n - i) taken) (λ ys. Some (take i out ++ ys)) ≡ Some (take n out)
named_all n i taken out end =
    let none : n - i ≡ 0 = omega arith in
    ap (λ m. or_none (names_for m taken) (λ ys. Some (take i out ++ ys))) none ∙ ap Some (append-nil (take i out) ∙ ap (λ m. take m out) end)

pub named_none : (m set : ℕ) (front : List ℕ) → lowest_free (is_in set) ≡ None → or_none (names_for (suc m) (is_in set)) (λ ys. Some (front ++ ys)) ≡ None
named_none m set front is =
    ap (λ o. or_none (or_none o (λ z. or_none (names_for m (λ y. eqb y z || is_in set y)) (λ xs. Some (z ∷ xs)))) (λ ys. Some (front ++ ys))) is

-- every value of a list is small, and one more
pub small-set : (m : ℕ) (xs : List ℕ) (i x : ℕ) → ((k : ℕ) → get_or xs k 0 < m) → x < m → (k : ℕ) → get_or (set xs i x) k 0 < m
small-set m [] i x old new k = old k
small-set m (y ∷ ys) zero x old new zero = new
small-set m (y ∷ ys) zero x old new (suc k) = old (suc k)
small-set m (y ∷ ys) (suc i) x old new zero = old zero
small-set m (y ∷ ys) (suc i) x old new (suc k) = small-set m ys i x (λ j. old (suc j)) new k

pub zeros-small : (n k : ℕ) → get_or (replicate n 0) k 0 < 32
zeros-small zero k = omega arith
zeros-small (suc n) zero = omega arith
zeros-small (suc n) (suc k) = zeros-small n k

pub small-append : (m : ℕ) (xs ys : List ℕ) → ((k : ℕ) → get_or xs k 0 < m) → ((k : ℕ) → get_or ys k 0 < m) → (k : ℕ) → get_or (xs ++ ys) k 0 < m
small-append m [] ys first second k = second k
small-append m (x ∷ xs) ys first second zero = first zero
small-append m (x ∷ xs) ys first second (suc k) = small-append m xs ys (λ j. first (suc j)) second k

pub small-drop : (m n : ℕ) (xs : List ℕ) → ((k : ℕ) → get_or xs k 0 < m) → (k : ℕ) → get_or (drop n xs) k 0 < m
small-drop m zero xs small k = small k
small-drop m (suc n) [] small k = small k
small-drop m (suc n) (x ∷ xs) small k = small-drop m n xs (λ j. small (suc j)) k

lowest-below : (taken : ℕ → Bool) (k x y : ℕ) → lowest_from taken k x ≡ Some y → y < x + k
lowest-below taken zero x y e = let z : ◌≡◌ {A = ℕ} 0 1 = cc in absurd (omega arith)
lowest-below taken (suc k) x y e = by (taken x) (λ e'. lowest-below taken k (suc x) y e') e
  where
    by : (b : Bool) → (lowest_from taken k (suc x) ≡ Some y → y < suc x + k) → cond b (lowest_from taken k (suc x)) (Some x) ≡ Some y → y < x + suc k
    by true ih e' = omega (arith, ih e')
    by false ih e' = let s : x ≡ y = cc in omega arith

pub free_small : (taken : ℕ → Bool) (x : ℕ) → lowest_free taken ≡ Some x → x < 32
free_small taken x e = lowest-below taken 32 0 x e
