-- Lists by number.
use Rattle.std.proofs.Common.{◌≡◌, ℕ, zero, suc, ◌+◌, ◌<◌, ◌≤◌, List, [], ◌∷◌, length, get_or, Some, None, Option, Bor, sym, refl, ap, ◌∙◌, add-zero, arith, rules}
use Rattle.std.specs.Prelude.{MatchOption}
use Rattle.std.specs.Slice.{IsItemAt}
use Rattle.std.proofs.lemmas.List.{get_or_past}
use Rattle.sheet.specs.Runs.{numbered}

pub numbered-length : {X Y : Type 0} (f : ℕ → X → Y) (n : ℕ) (xs : List X) → length (numbered f n xs) ≡ length xs
numbered-length f n [] = refl
numbered-length f n (x ∷ xs) = ap suc (numbered-length f (suc n) xs)

numbered-from : {X Y : Type 0} (f : ℕ → X → Y) (n : ℕ) (xs : List X) (k : ℕ) (d : Y) (e : X) → k < length xs → get_or (numbered f n xs) k d ≡ f (n + k) (get_or xs k e)
numbered-from f n [] k d e h = absurd (omega arith)
numbered-from f n (x ∷ xs) zero d e h = ap (λ m. f m x) (sym (add-zero n))
numbered-from f n (x ∷ xs) (suc k) d e h = let m : n + suc k ≡ suc n + k = omega arith in rw m (numbered-from f (suc n) xs k d e (omega arith))

pub numbered_at : {X Y : Type 0} (f : ℕ → X → Y) (xs : List X) (k : ℕ) (d : Y) (e : X) → k < length xs → get_or (numbered f 0 xs) k d ≡ f k (get_or xs k e)
numbered_at f xs k d e h = let z : 0 + k ≡ k = omega arith in rw z at (numbered-from f 0 xs k d e h)

pub numbered_past : {X Y : Type 0} (f : ℕ → X → Y) (xs : List X) (k : ℕ) (d : Y) → length xs ≤ k → get_or (numbered f 0 xs) k d ≡ d
numbered_past f xs k d h = get_or_past (numbered f 0 xs) k d (omega (arith, numbered-length f 0 xs))

-- x is the element of number k
pub numbered_got : {X Y : Type 0} (f : ℕ → X → Y) (xs : List X) (k : ℕ) (x : X) (d : Y) → k < length xs → x ≡ get_or xs k x → f k x ≡ get_or (numbered f 0 xs) k d
numbered_got f xs k x d h is = ap (f k) is ∙ sym (numbered_at f xs k d x h)

-- what is read from an element, where there is one
pub numbered_item : {X V : Type 0} (f : ℕ → X → V) (xs : List X) (k : ℕ) (d r : V) (P : Bor X → Type 0) (o : Option (Bor X)) → IsItemAt xs k o → ((x : Bor X) → P x → r ≡ f k x.now) → MatchOption o (r ≡ d) P → r ≡ get_or (numbered f 0 xs) k d
numbered_item f xs k d r P None item says none = none ∙ sym (numbered_past f xs k d (search (item, rules)))
numbered_item f xs k d r P (Some x) item says some = says x some ∙ numbered_got f xs k x.now d (search (item, rules)) (search (item, rules))
