-- A text's words, one after another. Assumes nothing.
use Rattle.std.proofs.Common.{◌≡◌, ℕ, zero, suc, ◌<◌, ◌≤◌, Bool, true, false, cond, not, List, [], ◌∷◌, length, take, drop, get_or, ◌⊎◌, refl, sym, ap, ◌∙◌, ⊎_elim, inl, inr, arith}
use Rattle.std.proofs.lemmas.Bool.Decides.{nat_tests}
use Rattle.std.specs.Prelude.{◌==◌, filter}
use Rattle.std.specs.List.{slice_split, onto_first}
use Rattle.text_words.specs.Words.{blank, words_in}

abbrev said : List ℕ → Bool
said word = not (length word == 0)

-- a blank in front says nothing
skipped : (x : ℕ) (xs : List ℕ) → blank x ≡ true → words_in (x ∷ xs) ≡ words_in xs
skipped x xs is = ap (λ b. filter said (cond b ([] ∷ slice_split blank xs) (onto_first x (slice_split blank xs)))) is

pub words_later : (n : ℕ) (xs : List ℕ) → n ≤ length xs → ((k : ℕ) → k < n → blank (get_or xs k 0) ≡ true) → words_in xs ≡ words_in (drop n xs)
words_later zero xs le all = refl
words_later (suc n) [] le all = absurd (omega (arith, le))
words_later (suc n) (x ∷ xs) le all = skipped x xs (all 0 (omega arith)) ∙ words_later n xs (omega (arith, le)) (λ k lt. all (suc k) (omega (arith, lt)))

pub words_none : (xs : List ℕ) → ((k : ℕ) → k < length xs → blank (get_or xs k 0) ≡ true) → words_in xs ≡ []
words_none [] all = refl
words_none (x ∷ xs) all = skipped x xs (all 0 (omega arith)) ∙ words_none xs (λ k lt. all (suc k) (omega (arith, lt)))

-- the pieces: the first n bytes are no blanks, and a blank or the end comes behind them
pieces : (n : ℕ) (xs : List ℕ) → n ≤ length xs → ((k : ℕ) → k < n → blank (get_or xs k 0) ≡ false) → (n ≡ length xs) ⊎ (blank (get_or xs n 0) ≡ true) → (ys : List (List ℕ)) × (slice_split blank xs ≡ take n xs ∷ ys) × (filter said ys ≡ words_in (drop n xs))
pieces zero [] le none end = ([], refl, refl)
pieces zero (x ∷ xs) le none end =
    let is : blank x ≡ true = ⊎_elim (λ e. absurd (omega (arith, e))) (λ is. is) end in
    (slice_split blank xs, ap (λ b. cond b ([] ∷ slice_split blank xs) (onto_first x (slice_split blank xs))) is, sym (skipped x xs is))
pieces (suc n) [] le none end = absurd (omega (arith, le))
pieces (suc n) (x ∷ xs) le none end =
    let rest = pieces n xs (omega (arith, le)) (λ k lt. none (suc k) (omega (arith, lt))) (⊎_elim (λ e. inl (omega (arith, e))) (λ is. inr is) end) in
    (rest.0, ap (λ b. cond b ([] ∷ slice_split blank xs) (onto_first x (slice_split blank xs))) (none 0 (omega arith)) ∙ ap (onto_first x) rest.1, rest.2)

pub words_first : (n : ℕ) (xs : List ℕ) → 0 < n → n ≤ length xs → ((k : ℕ) → k < n → blank (get_or xs k 0) ≡ false) → (n ≡ length xs) ⊎ (blank (get_or xs n 0) ≡ true) → words_in xs ≡ take n xs ∷ words_in (drop n xs)
words_first zero xs more le none end = absurd (omega (arith, more))
words_first (suc n) [] more le none end = absurd (omega (arith, le))
words_first (suc n) (x ∷ xs) more le none end =
    let p = pieces (suc n) (x ∷ xs) le none end in
    let is : said (x ∷ take n xs) ≡ true = grind (arith, nat_tests) in
    ap (filter said) p.1 ∙ ap (λ b. cond b ((x ∷ take n xs) ∷ filter said p.0) (filter said p.0)) is ∙ ap (λ ws. (x ∷ take n xs) ∷ ws) p.2
