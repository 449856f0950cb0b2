-- Reading and counting a list that lies in another, part by part: the marks of rows side by side.
use Rattle.std.proofs.Common.{◌≡◌, ℕ, zero, suc, ◌+◌, ◌-◌, ◌*◌, ◌<◌, ◌≤◌, Bool, cond, List, [], ◌∷◌, ◌++◌, map, length, take, drop, replicate, Some, None, Option, refl, sym, ap, ap₂, ◌∙◌, sum, arith, add-one, zero-add, append_assoc}
use Rattle.std.specs.List.{count_by, sum_by, slice_get}
use Rattle.std.specs.Prelude.{slice_set, slice_index_or}
use Rattle.std.proofs.Math.Nat.{zero-mul, suc-mul}
use Rattle.std.proofs.Math.Seq.{take-take, drop-drop, take-set-lt, take-add, drop-append_seam}
use Rattle.std.proofs.lemmas.List.{take_more_set, replicate_more, take-set-le, drop-set-lt, drop-set-add, drop-take, take-append-le, length-take-le}
use Rattle.std.proofs.lemmas.List.Sums.{sum_by-cons, sum_by-append, sum-map}
use Rattle.std.proofs.lemmas.Option.{slice_get_past, slice_get-get_or}
use Rattle.rules.specs.declared.Mark.{Mark}
use Rattle.rules.specs.declared.Mark.TheVariants.{Waiting}
use Rattle.forms.specs.Candidate.{or_none}
use Rattle.table.specs.Memory.{marks_by_row}

-- an element of a part is one of the list
pub get_taken : {X : Type 0} (w : ℕ) (xs : List X) (b : ℕ) → b < w → slice_get (take w xs) b ≡ slice_get xs b
get_taken zero xs b h = absurd (omega arith)
get_taken (suc w) [] b h = refl
get_taken (suc w) (x ∷ xs) zero h = refl
get_taken (suc w) (x ∷ xs) (suc b) h = get_taken w xs b (omega arith)

pub get_dropped : {X : Type 0} (k : ℕ) (xs : List X) (b : ℕ) → slice_get (drop k xs) b ≡ slice_get xs (k + b)
get_dropped zero xs b = ap (slice_get xs) (sym (zero-add b))
get_dropped (suc k) [] b = refl
get_dropped (suc k) (x ∷ xs) b =
    let e : suc (k + b) ≡ suc k + b = omega arith in
    get_dropped k xs b ∙ ap (slice_get (x ∷ xs)) e

-- row r of the marks
pub row_of_marks : (w n : ℕ) (marks : List Mark) (r : ℕ) → r < n → slice_get (marks_by_row w n marks) r ≡ Some (take w (drop (r * w) marks))
row_of_marks w zero marks r h = absurd (omega arith)
row_of_marks w (suc n) marks zero h = ap (λ (k : ℕ). Some (take w (drop k marks))) (sym (zero-mul w))
row_of_marks w (suc n) marks (suc r) h =
    let e : w + r * w ≡ suc r * w = omega (arith, suc-mul r w) in
    row_of_marks w n (drop w marks) r (omega arith) ∙ ap (λ (xs : List Mark). Some (take w xs)) (drop-drop (r * w) w marks ∙ ap (λ (k : ℕ). drop k marks) e)

pub rows_of_marks : (w n : ℕ) (marks : List Mark) → length (marks_by_row w n marks) ≡ n
rows_of_marks w zero marks = refl
rows_of_marks w (suc n) marks = ap suc (rows_of_marks w n (drop w marks))

-- the mark of a branch that is there
pub reads : (w n : ℕ) (marks : List Mark) (r b place : ℕ) → r < n → b < w → place ≡ r * w + b → place < length marks → or_none (slice_get (marks_by_row w n marks) r) (λ ms. slice_get ms b) ≡ Some (slice_index_or marks place Waiting)
reads w n marks r b place row number is inside =
    ap (λ (o : Option (List Mark)). or_none o (λ ms. slice_get ms b)) (row_of_marks w n marks r row)
    ∙ (get_taken w (drop (r * w) marks) b number ∙ (get_dropped (r * w) marks b ∙ (ap (slice_get marks) (sym is) ∙ slice_get-get_or marks place Waiting inside)))

-- past the rows, and past a row's branches
pub no_row_there : (w n : ℕ) (marks : List Mark) (r b : ℕ) → n ≤ r → or_none (slice_get (marks_by_row w n marks) r) (λ ms. slice_get ms b) ≡ None
no_row_there w n marks r b h =
    let past : length (marks_by_row w n marks) ≤ r = omega (arith, rows_of_marks w n marks) in
    ap (λ (o : Option (List Mark)). or_none o (λ ms. slice_get ms b)) (slice_get_past (marks_by_row w n marks) r past)

taken_few : {X : Type 0} (w : ℕ) (xs : List X) → length (take w xs) ≤ w
taken_few zero xs = omega arith
taken_few (suc w) [] = omega arith
taken_few (suc w) (x ∷ xs) = omega (arith, taken_few w xs)

pub no_branch_there : (w n : ℕ) (marks : List Mark) (r b : ℕ) → r < n → w ≤ b → or_none (slice_get (marks_by_row w n marks) r) (λ ms. slice_get ms b) ≡ None
no_branch_there w n marks r b h past =
    let few : length (take w (drop (r * w) marks)) ≤ b = omega (arith, taken_few w (drop (r * w) marks)) in
    ap (λ (o : Option (List Mark)). or_none o (λ ms. slice_get ms b)) (row_of_marks w n marks r h) ∙ slice_get_past (take w (drop (r * w) marks)) b few

-- one mark changed
pub writes : (w n : ℕ) (marks : List Mark) (r b place : ℕ) (m : Mark) → r < n → b < w → place ≡ r * w + b → marks_by_row w n (slice_set marks place m) ≡ slice_set (marks_by_row w n marks) r (slice_set (take w (drop (r * w) marks)) b m)
writes w zero marks r b place m row number is = absurd (omega arith)
writes w (suc n) marks zero b place m row number is =
    let z : zero * w ≡ 0 = zero-mul w in
    let at : place ≡ b = omega (arith, is, z) in
    let lt : place < w = omega arith in
    ap₂ (λ (xs : List Mark) (rest : List (List Mark)). xs ∷ rest)
    (take-set-lt w marks place m lt ∙ ap₂ (λ (p k : ℕ). slice_set (take w (drop k marks)) p m) at (sym z))
    (ap (marks_by_row w n) (drop-set-lt w marks place m lt))
writes w (suc n) marks (suc r) b place m row number is =
    let e : w + r * w ≡ suc r * w = omega (arith, suc-mul r w) in
    let at : place ≡ w + (r * w + b) = omega (arith, is, e) in
    let past : w ≤ w + (r * w + b) = omega arith in
    ap (λ (p : ℕ). marks_by_row w (suc n) (slice_set marks p m)) at
    ∙ ap₂ (λ (xs : List Mark) (rest : List (List Mark)). xs ∷ rest)
    (take-set-le w marks (w + (r * w + b)) m past)
    (ap (marks_by_row w n) (drop-set-add w marks (r * w + b) m)
    ∙ (writes w n (drop w marks) r b (r * w + b) m (omega arith) number refl
    ∙ ap (λ (xs : List Mark). slice_set (marks_by_row w n (drop w marks)) r (slice_set (take w xs) b m)) (drop-drop (r * w) w marks ∙ ap (λ (k : ℕ). drop k marks) e)))

-- the marks past the rows do not matter
pub front_of_marks : (w n k : ℕ) (marks : List Mark) → n * w ≤ k → marks_by_row w n (take k marks) ≡ marks_by_row w n marks
front_of_marks w zero k marks h = refl
front_of_marks w (suc n) k marks h =
    let s : suc n * w ≡ n * w + w = suc-mul n w in
    let le : w ≤ k = omega (arith, s) in
    let e : k ≡ w + (k - w) = omega arith in
    ap₂ (λ (xs : List Mark) (rest : List (List Mark)). xs ∷ rest)
    (take-take w k marks le)
    (ap (λ (j : ℕ). marks_by_row w n (drop w (take j marks))) e ∙ (ap (marks_by_row w n) (drop-take w (k - w) marks) ∙ front_of_marks w n (k - w) (drop w marks) (omega (arith, s))))

-- one row more
pub last_of_marks : (w n : ℕ) (marks : List Mark) → marks_by_row w (suc n) marks ≡ marks_by_row w n marks ++ take w (drop (n * w) marks) ∷ []
last_of_marks w zero marks = ap (λ (k : ℕ). take w (drop k marks) ∷ []) (sym (zero-mul w))
last_of_marks w (suc n) marks =
    let e : w + n * w ≡ suc n * w = omega (arith, suc-mul n w) in
    ap (λ (rest : List (List Mark)). take w marks ∷ rest)
    (last_of_marks w n (drop w marks) ∙ ap (λ (xs : List Mark). marks_by_row w n (drop w marks) ++ take w xs ∷ []) (drop-drop (n * w) w marks ∙ ap (λ (k : ℕ). drop k marks) e))

pub more_marks : (w n : ℕ) (marks marks' last : List Mark) → n * w ≤ length marks → take (n * w + w) marks' ≡ take (n * w) marks ++ last → marks_by_row w (n + 1) marks' ≡ marks_by_row w n marks ++ last ∷ []
more_marks w n marks marks' last long h =
    let full : length (take (n * w) marks) ≡ n * w = length-take-le (n * w) marks long in
    let le : n * w ≤ length (take (n * w) marks) = omega arith in
    let before : take (n * w) marks' ≡ take (n * w) marks =
    sym (take-take (n * w) (n * w + w) marks' (omega arith)) ∙ (ap (take (n * w)) h ∙ (take-append-le (n * w) (take (n * w) marks) last le ∙ take-take (n * w) (n * w) marks (omega arith))) in
    let at : take w (drop (n * w) marks') ≡ last =
    sym (drop-take (n * w) w marks') ∙ (ap (drop (n * w)) h ∙ (ap (λ (k : ℕ). drop k (take (n * w) marks ++ last)) (sym full) ∙ drop-append_seam (take (n * w) marks) last)) in
    let e : n + 1 ≡ suc n = add-one n in
    ap (λ (k : ℕ). marks_by_row w k marks') e
    ∙ (last_of_marks w n marks'
    ∙ ap₂ (λ (rows : List (List Mark)) (xs : List Mark). rows ++ xs ∷ [])
    (sym (front_of_marks w n (n * w) marks' (omega arith)) ∙ (ap (marks_by_row w n) before ∙ front_of_marks w n (n * w) marks (omega arith)))
    at)

-- counting row by row is counting all
pub counted : (p : Mark → Bool) (w n : ℕ) (marks : List Mark) → sum (map (count_by p) (marks_by_row w n marks)) ≡ count_by p (take (n * w) marks)
counted p w n marks = sum-map (count_by p) (marks_by_row w n marks) ∙ by n marks
  where
    by : (n : ℕ) (marks : List Mark) → sum_by (count_by p) (marks_by_row w n marks) ≡ count_by p (take (n * w) marks)
    by zero marks = ap (λ (k : ℕ). count_by p (take k marks)) (sym (zero-mul w))
    by (suc n) marks =
        let e : w + n * w ≡ suc n * w = omega (arith, suc-mul n w) in
        sum_by-cons (count_by p) (take w marks) (marks_by_row w n (drop w marks))
        ∙ (ap (λ (k : ℕ). count_by p (take w marks) + k) (by n (drop w marks))
        ∙ (sym (sum_by-append (λ x. cond (p x) 1 0) (take w marks) (take (n * w) (drop w marks)))
        ∙ (ap (count_by p) (sym (take-add w (n * w) marks)) ∙ ap (λ (k : ℕ). count_by p (take k marks)) e)))

-- one mark more waits
pub waited : (marks old : List Mark) (from k : ℕ) → from ≤ k → k < length marks → take k marks ≡ take from old ++ replicate (k - from) Waiting → take (k + 1) (slice_set marks k Waiting) ≡ take from old ++ replicate (k + 1 - from) Waiting
waited marks old from k low high h =
    let e : k - from + 1 ≡ k + 1 - from = omega arith in
    take_more_set marks k Waiting high ∙ (ap (λ (x : List Mark). x ++ Waiting ∷ []) h ∙ (append_assoc (take from old) (replicate (k - from) Waiting) (Waiting ∷ []) ∙ ap (λ (x : List Mark). take from old ++ x) (replicate_more (k - from) Waiting ∙ ap (λ (n : ℕ). replicate n Waiting) e)))
