-- What a push, a pop and the length are of the list that a ring stands for.
use Rattle.std.proofs.Common.{◌≡◌, ℕ, zero, suc, ◌+◌, ◌-◌, ◌<◌, ◌≤◌, List, [], ◌∷◌, ◌++◌, length, get_or, take, drop, set, refl, ◌∙◌, sub-one, arith, length-append, length-drop, length-set, length-take}
use Rattle.std.proofs.lemmas.List.{drop-set-add, drop-set-lt, take-append-le, take_more_set, set-append_right, drop_more, drop_all}
use Rattle.queue.specs.Entries.{ring}

pub length-ring : {T : Type 0} (s : List T) (h l : ℕ) → l ≤ length s → length (ring s h l) ≡ l
length-ring s h l fits = simp (length-take, length-append) (omega arith)

pub push_before_end : {T : Type 0} (s : List T) (h l at : ℕ) (x : T) → l < length s - h → at ≡ h + l → ring (set s at x) h (l + 1) ≡ ring s h l ++ (x ∷ [])
push_before_end s h l at x lt is =
    let long : l < length (drop h s) = simp length-drop (omega arith) in
    let more : l + 1 ≤ length (set (drop h s) l x) = simp (length-set, length-drop) (omega arith) in
    let less : l ≤ length (drop h s) = omega arith in
    rw (is, drop-set-add h s l x, take-append-le (l + 1) (set (drop h s) l x) (set s (h + l) x) more, take_more_set (drop h s) l x long, take-append-le l (drop h s) s less)

pub push_at_start : {T : Type 0} (s : List T) (h l at : ℕ) (x : T) → h ≤ length s → length s - h ≤ l → l < length s → at ≡ l - (length s - h) → ring (set s at x) h (l + 1) ≡ ring s h l ++ (x ∷ [])
push_at_start s h l at x le from lt is =
    let under : l - (length s - h) < h = omega arith in
    let there : l < length (drop h s ++ s) = simp (length-append, length-drop) (omega arith) in
    let moved = set-append_right (drop h s) s (length s - h) l x (length-drop h s) from in
    rw (is, drop-set-lt h s (l - (length s - h)) x under, ← moved, take_more_set (drop h s ++ s) l x there)

first_of : {T : Type 0} (s : List T) (h l : ℕ) (d : T) → h < length s → 0 < l → ring s h l ≡ get_or s h d ∷ take (l - 1) (drop (h + 1) s ++ s)
first_of s h zero d lt some = absurd (omega arith)
first_of s h (suc k) d lt some = rw (drop_more s h d lt, sub-one) refl

pub pop_before_end : {T : Type 0} (s : List T) (h l next : ℕ) (d : T) → h < length s → 0 < l → next ≡ h + 1 → ring s h l ≡ get_or s h d ∷ ring s next (l - 1)
pop_before_end s h l next d lt some is = rw is (first_of s h l d lt some)

pub pop_at_end : {T : Type 0} (s : List T) (h l next : ℕ) (d : T) → h < length s → 0 < l → l ≤ length s → length s ≤ h + 1 → next ≡ 0 → ring s h l ≡ get_or s h d ∷ ring s next (l - 1)
pop_at_end s h l next d lt some fits end is =
    let less : l - 1 ≤ length s = omega arith in
    first_of s h l d lt some ∙ rw (is, drop_all (h + 1) s end, take-append-le (l - 1) s s less) refl
