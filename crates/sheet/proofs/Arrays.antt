-- Arrays that a closure gives place by place.
use Rattle.std.proofs.Common.{◌≡◌, ℕ, zero, suc, ◌+◌, ◌<◌, ◌≤◌, List, length, get_or, take, set, subst, sym, ◌∙◌, ⊎_elim, arith, below_more}
use denote.Param.Members.{Mut}
use Rattle.std.specs.Array.{IsFromFnResult, IsFromFnResultFrom}
use Rattle.std.specs.Fn.{Called}
use Rattle.std.proofs.lemmas.Bool.{cases_lt}
use Rattle.std.proofs.lemmas.List.{ext_get_or, get_or-take, get_or-set_same, get_or-set_other, get_or_past, length-take-le}

-- each call gives h of its number, and leaves the closure as it is
abbrev pub Says : {F B : Type 0} → Mut F (ℕ × Unit {0}) B → F → (ℕ → B) → Type 0
Says {F} {B} g f h = (k : ℕ) (y : B) (q : F) → Called g f (k, tt) y q → (q ≡ f) × (y ≡ h k)

made-from : {F B : Type 0} (g : Mut F (ℕ × Unit {0}) B) (f : F) (h : ℕ → B) → Says g f h → (ys : List B) (i n : ℕ) → IsFromFnResultFrom g f ys i n → (k : ℕ) (d : B) → k < n → get_or ys (i + k) d ≡ h (i + k)
made-from g f h says ys i zero made k d lt = absurd (omega arith)
made-from g f h says ys i (suc n) made zero d lt = let z : i + 0 ≡ i = omega arith in rw z (made.2.1 d ∙ (says i made.1 made.0 made.3).1)
made-from g f h says ys i (suc n) made (suc k) d lt =
    let s : i + suc k ≡ i + 1 + k = omega arith in
    rw s (made-from g f h says ys (i + 1) n (subst (λ p. IsFromFnResultFrom g p ys (i + 1) n) (says i made.1 made.0 made.3).0 made.4) k d (omega arith))

-- Where each call says h, each place is h of its number.
pub made : {F B : Type 0} (g : Mut F (ℕ × Unit {0}) B) (f : F) (h : ℕ → B) → Says g f h → (ys : List B) (n : ℕ) → IsFromFnResult g f ys n → (k : ℕ) (d : B) → k < n → get_or ys k d ≡ h k
made g f h says ys n m k d lt = let z : 0 + k ≡ k = omega arith in rw z at (made-from g f h says ys 0 n m.each k d lt)

-- An array of m values, and then of defaults.
pub begins : {F B : Type 0} {g : Mut F (ℕ × Unit {0}) B} {f : F} (values : List B) (d : B) → Says g f (λ k. get_or values k d) → (ys : List B) (n : ℕ) → IsFromFnResult g f ys n → (m : ℕ) → m ≡ length values → m ≤ n → (take m ys ≡ values) × ((k : ℕ) → m ≤ k → get_or ys k d ≡ d)
begins {F} {B} {g} {f} values d says ys n made_ m is few =
    let at : (k : ℕ) → k < n → get_or ys k d ≡ get_or values k d = λ k. made g f (λ j. get_or values j d) says ys n made_ k d in
    let long : length (take m ys) ≡ m = length-take-le m ys (omega (arith, made_.long)) in
    (ext_get_or d (take m ys) values (omega arith) (λ k lt. get_or-take m ys k d (omega arith) ∙ at k (omega arith)), λ k h. ⊎_elim (λ lt. at k lt ∙ get_or_past values k d (omega arith)) (λ ge. get_or_past ys k d (omega (arith, made_.long))) (cases_lt k n))

-- What is filled in as far as the values go agrees everywhere.
pub filled_all : {V : Type 0} (d : V) (out values : List V) → ((k : ℕ) → k < length out → get_or out k d ≡ get_or values k d) → length values ≤ length out → (k : ℕ) → get_or out k d ≡ get_or values k d
filled_all d out values h long k = ⊎_elim (λ lt. h k lt) (λ ge. get_or_past out k d ge ∙ sym (get_or_past values k d (omega arith))) (cases_lt k (length out))

-- What is true of each place stays true when one more is written.
pub set_more : {V : Type 0} (P : ℕ → V → Type 0) (xs : List V) (i : ℕ) (x d : V) → i < length xs → ((k : ℕ) → k < i → P k (get_or xs k d)) → P i x → (k : ℕ) → k < i + 1 → P k (get_or (set xs i x) k d)
set_more P xs i x d inside old new =
    below_more (λ k. P k (get_or (set xs i x) k d)) i (λ k lt. subst (P k) (sym (get_or-set_other xs i k x d (λ e. omega arith))) (old k lt)) (subst (P i) (sym (get_or-set_same xs i x d inside)) new)
