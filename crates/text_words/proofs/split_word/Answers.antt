use Rattle.std.proofs.Common.{◌≡◌, ℕ, zero, suc, ◌<◌, Bool, not, List, [], ◌∷◌, ◌++◌, length, take, drop, get_or, true, false, Some, None, Option, MatchOption, unwrap_or, subst, sym, ap, ◌∙◌, inl, inr, refl, rules, tests, arith}
use Rattle.std.specs.List.{AllWithin, HoldsAt}
use Rattle.std.proofs.lemmas.List.{take-append-drop}
use Rattle.std.proofs.lemmas.List.{get_or-drop}
use Rattle.std.proofs.lemmas.Iterator.{IsFirst-from_position, YieldsList-from_slice}
use Rattle.text_words.specs.Words.{blank, words_in}
use Rattle.text_words.proofs.Spaced.{words_later, words_none, words_first}
use Rattle.text_words.proofs.split_word.Goals as goal

-- where the first byte that is a blank, or that is none, stands
abbrev First : Bool → List ℕ → Option ℕ → Type 0
First is text r = MatchOption r (AllWithin (λ b. blank b ≡ not is) text 0 (length text)) (λ i. (i < length text) × HoldsAt (λ b. blank b ≡ is) text i × AllWithin (λ b. blank b ≡ not is) text 0 i)

-- a word ends where the first blank stands
ends : (xs : List ℕ) → 0 < length xs → blank (get_or xs 0 0) ≡ false → (r : Option ℕ) → First true xs r → words_in xs ≡ take (unwrap_or r (length xs)) xs ∷ words_in (drop (unwrap_or r (length xs)) xs)
ends xs more said None h = words_first (length xs) xs more (omega arith) (λ k lt. h k 0 (omega arith) lt) (inl refl)
ends xs more said (Some zero) h = let is = h.1 0 in absurd (cc)
ends xs more said (Some (suc i)) h = words_first (suc i) xs (omega arith) (omega (arith, h.0)) (λ k lt. h.2 k 0 (omega arith) lt) (inr (h.1 0))

-- and has a byte at least
long : (xs : List ℕ) → 0 < length xs → blank (get_or xs 0 0) ≡ false → (r : Option ℕ) → First true xs r → 0 < unwrap_or r (length xs)
long xs more said None h = more
long xs more said (Some zero) h = let is = h.1 0 in absurd (cc)
long xs more said (Some (suc i)) h = omega arith

no_start : (xs : List ℕ) (r : Option ℕ) → r ≡ None → First false xs r → words_in xs ≡ []
no_start xs r is h = words_none xs (λ k lt. (subst (First false xs) is h) k 0 (omega arith) lt)

starts : (xs : List ℕ) (r : Option ℕ) (i : ℕ) → r ≡ Some i → First false xs r → (i < length xs) × (words_in xs ≡ words_in (drop i xs)) × (blank (get_or (drop i xs) 0 0) ≡ false) × ((k : ℕ) → k < i → blank (get_or xs k 0) ≡ true)
starts xs r i is h =
    let at = subst (First false xs) is h in
    (at.0, words_later i xs (omega (arith, at.0)) (λ k lt. at.2 k 0 (omega arith) lt), ap blank (get_or-drop i xs 0 0 ∙ ap (λ k. get_or xs k 0) (omega arith)) ∙ at.1 0, λ k lt. at.2 k 0 (omega arith) lt)

pub returns-in_err-start-clause-words : goal.returns-in_err-start-clause-words
returns-in_err-start-clause-words c =
    rw c.from_residual.ensures
    (no_start c.args.text.now c.position.result c.in_err-start.was
    (IsFirst-from_position _ _ c.position.result (λ b. blank b ≡ false) (λ b. blank b ≡ true) c.position.ensures.ran (YieldsList-from_slice c.args.text.now (search (rules, arith))) (λ x q k. search (rules, tests)) (λ x q k. search (rules, tests))))

module _ (c : goal.After-split_at-2) where
  start : (c.in_ok-start.start < length c.args.text.now) × (words_in c.args.text.now ≡ words_in (drop c.in_ok-start.start c.args.text.now)) × (blank (get_or (drop c.in_ok-start.start c.args.text.now) 0 0) ≡ false) × ((k : ℕ) → k < c.in_ok-start.start → blank (get_or c.args.text.now k 0) ≡ true)
  start =
      starts c.args.text.now c.position.result c.in_ok-start.start c.in_ok-start.was
      (IsFirst-from_position _ _ c.position.result (λ b. blank b ≡ false) (λ b. blank b ≡ true) c.position.ensures.ran (YieldsList-from_slice c.args.text.now (search (rules, arith))) (λ x q k. search (rules, tests)) (λ x q k. search (rules, tests)))

  more : 0 < length c.split_at.result.1.now
  more = omega (arith, start.0, c.split_at.ensures.back_len)

  begins : blank (get_or c.split_at.result.1.now 0 0) ≡ false
  begins = subst (λ ys. blank (get_or ys 0 0) ≡ false) (sym c.split_at.ensures.back) start.2

  end : First true c.split_at.result.1.now c.position-2.result
  end = IsFirst-from_position _ _ c.position-2.result (λ b. blank b ≡ true) (λ b. blank b ≡ false) c.position-2.ensures.ran (YieldsList-from_slice c.split_at.result.1.now (search (rules, arith))) (λ x q k. search (rules, tests)) (λ x q k. search (rules, tests))

pub returns-clause-words : goal.returns-clause-words
returns-clause-words c =
    (start c).1 ∙ ap words_in (sym c.split_at.ensures.back) ∙ ends c.split_at.result.1.now (more c) (begins c) c.position-2.result (end c)
    ∙ ap (λ n. take n c.split_at.result.1.now ∷ words_in (drop n c.split_at.result.1.now)) (sym c.unwrap_or-end.ensures)
    ∙ ap (λ w. w ∷ words_in (drop c.unwrap_or-end.result c.split_at.result.1.now)) (sym c.split_at-2.ensures.front)
    ∙ ap (λ ys. c.split_at-2.result.0.now ∷ words_in ys) (sym c.split_at-2.ensures.back)

pub returns-clause-shorter : goal.returns-clause-shorter
returns-clause-shorter c =
    omega (arith, long c.split_at.result.1.now (more c) (begins c) c.position-2.result (end c), c.unwrap_or-end.ensures, c.split_at.ensures.back_len, c.split_at-2.ensures.back_len)

pub returns-clause-parts : goal.returns-clause-parts
returns-clause-parts c =
    let said = c.split_at.result.1.now in
    let end = c.unwrap_or-end.result in
    record {
      blanks = c.in_ok-start.start;
      front = (start c).3;
      back = sym c.split_at.ensures.back ∙ (sym (take-append-drop end said) ∙ (ap (λ w. w ++ drop end said) (sym c.split_at-2.ensures.front) ∙ ap (λ ys. c.split_at-2.result.0.now ++ ys) (sym c.split_at-2.ensures.back)));
    }
