-- A list that is built front to back.
use Rattle.std.proofs.Common.{◌≡◌, ℕ, zero, suc, ◌+◌, ◌<◌, Bool, true, false, cond, List, [], ◌∷◌, ◌++◌, map, length, get_or, take, sym, refl, ap, ◌∙◌, add-zero, zero-add, arith}
use Rattle.sheet.specs.Grow.{grow}
use Rattle.std.proofs.lemmas.List.{map_push, length_push, get_or_append_left, same_lists, length-take-le, get_or-take, take-take, take_at, get_or_at}

pub grow-push : {N V : Type 0} (step : List V → N → V) (seen : List V) (xs : List N) (x : N) → grow step seen (xs ++ x ∷ []) ≡ grow step seen xs ++ step (grow step seen xs) x ∷ []
grow-push step seen [] x = refl
grow-push step seen (y ∷ ys) x = grow-push step (seen ++ step seen y ∷ []) ys x

-- entries that store with each node what it comes to, and one more
informed_push : {E N V : Type 0} (node : E → N) (info : E → V) (step : List V → N → V) (es es' : List E) (e : E) → map info es ≡ grow step [] (map node es) → info e ≡ step (map info es) (node e) → es' ≡ es ++ e ∷ [] → map info es' ≡ grow step [] (map node es')
informed_push node info step es es' e known new is =
    let a : map info es' ≡ map info es ++ info e ∷ [] = ap (map info) is ∙ map_push info es e in
    let b : map node es' ≡ map node es ++ node e ∷ [] = ap (map node) is ∙ map_push node es e in
    let c : grow step [] (map node es') ≡ grow step [] (map node es) ++ step (grow step [] (map node es)) (node e) ∷ [] = ap (grow step []) b ∙ grow-push step [] (map node es) (node e) in
    cc

-- the same where the one more may be refused
pub informed_tried : {E N V : Type 0} (node : E → N) (info : E → V) (step : List V → N → V) (added : Bool) (es es' : List E) (e : E) → map info es ≡ grow step [] (map node es) → info e ≡ step (map info es) (node e) → es' ≡ cond added (es ++ e ∷ []) es → map info es' ≡ grow step [] (map node es')
informed_tried node info step true es es' e known new is = informed_push node info step es es' e known new is
informed_tried node info step false es es' e known new is = rw is known

pub grow-length : {N V : Type 0} (step : List V → N → V) (seen : List V) (xs : List N) → length (grow step seen xs) ≡ length seen + length xs
grow-length step seen [] = sym (add-zero (length seen))
grow-length step seen (x ∷ xs) = grow-length step (seen ++ step seen x ∷ []) xs ∙ omega (arith, length_push seen (step seen x))

-- what is there stays
pub grow-keeps : {N V : Type 0} (step : List V → N → V) (seen : List V) (xs : List N) (i : ℕ) (d : V) → i < length seen → get_or (grow step seen xs) i d ≡ get_or seen i d
grow-keeps step seen [] i d h = refl
grow-keeps step seen (x ∷ xs) i d h =
    grow-keeps step (seen ++ step seen x ∷ []) xs i d (omega (arith, length_push seen (step seen x))) ∙ get_or_append_left seen (step seen x ∷ []) d i h

pub take-grow : {N V : Type 0} (step : List V → N → V) (seen : List V) (xs : List N) → take (length seen) (grow step seen xs) ≡ seen
take-grow step seen xs =
    same_lists (take (length seen) (grow step seen xs)) seen (length-take-le (length seen) (grow step seen xs) (omega (arith, grow-length step seen xs))) (λ k d h. let k' : k < length seen = omega (arith, length-take-le (length seen) (grow step seen xs) (omega (arith, grow-length step seen xs))) in get_or-take (length seen) (grow step seen xs) k d k' ∙ grow-keeps step seen xs k d k')

-- each value comes from its node and the values before it
grow_at_from : {N V : Type 0} (step : List V → N → V) (seen : List V) (xs : List N) (i : ℕ) (d : V) (e : N) → i < length xs → get_or (grow step seen xs) (length seen + i) d ≡ step (take (length seen + i) (grow step seen xs)) (get_or xs i e)
grow_at_from step seen [] i d e h = absurd (omega arith)
grow_at_from step seen (x ∷ xs) zero d e h =
    let seen' = seen ++ step seen x ∷ [] in
    let more : length seen' ≡ length seen + 1 = length_push seen (step seen x) in
    let front : take (length seen) (grow step seen' xs) ≡ seen = sym (take-take (length seen) (length seen') (grow step seen' xs) (omega arith)) ∙ (ap (take (length seen)) (take-grow step seen' xs) ∙ take_at seen (step seen x ∷ []) (length seen) refl) in
    ap (λ j. get_or (grow step seen' xs) j d) (add-zero (length seen)) ∙ (grow-keeps step seen' xs (length seen) d (omega arith) ∙ (get_or_at seen (step seen x) [] d (length seen) refl ∙ ap (λ l. step l x) (sym front ∙ ap (λ j. take j (grow step seen' xs)) (sym (add-zero (length seen))))))
grow_at_from step seen (x ∷ xs) (suc i) d e h =
    let seen' = seen ++ step seen x ∷ [] in
    let at : length seen + suc i ≡ length seen' + i = omega (arith, length_push seen (step seen x)) in
    rw at (grow_at_from step seen' xs i d e (omega arith))

pub grow_at : {N V : Type 0} (step : List V → N → V) (xs : List N) (i : ℕ) (d : V) (e : N) → i < length xs → get_or (grow step [] xs) i d ≡ step (take i (grow step [] xs)) (get_or xs i e)
grow_at step xs i d e h = rw zero-add at (grow_at_from step [] xs i d e h)
