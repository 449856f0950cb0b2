-- A number is read digit by digit. Assumes nothing.
use Rattle.std.proofs.Common.{◌≡◌, ℕ, ◌+◌, ◌-◌, ◌*◌, ◌<◌, ◌≤◌, true, List, [], ◌∷◌, length, get_or, drop, Ok, Err, sym, ◌∙◌, ⊎_elim, arith, rules, tests}
use Rattle.std.proofs.lemmas.Bool.{cases_Bool}
use Rattle.std.proofs.lemmas.Bool.Decides.{nat_tests}
use Rattle.std.proofs.lemmas.List.{at_drop_more}
use Rattle.std.proofs.lemmas.List.Folds.{list_all_at}
use Rattle.std.proofs.str.Laws.{order}
use Rattle.std.specs.Char.{is_ascii_digit}
use Rattle.std.specs.List.{list_all}
use Rattle.text_words.specs.declared.NotNumber.{NotNumber}
use Rattle.text_words.specs.declared.NotNumber.TheVariants.{TooLarge}
use Rattle.text_words.specs.Words.{value_after, within}

pub digit_at : (bs : List ℕ) (i : ℕ) → list_all is_ascii_digit bs ≡ true → i < length bs → 48 ≤ get_or bs i 0
digit_at bs i all h =
    ⊎_elim
    (λ yes. search (rules, tests))
    (λ no. let none = list_all_at is_ascii_digit bs i 0 h no in absurd (cc))
    (cases_Bool (is_ascii_digit (get_or bs i 0)))

after-le : (n : ℕ) (bs : List ℕ) → n ≤ value_after n bs
after-le n [] = omega arith
after-le n (b ∷ bs) = let h = after-le (10 * n + (b - 48)) bs in omega arith

pub value_more : (n : ℕ) (bs : List ℕ) (i : ℕ) → i < length bs → value_after n (drop i bs) ≡ value_after (10 * n + (get_or bs i 0 - 48)) (drop (i + 1) bs)
value_more n bs i h = at_drop_more (value_after n) bs i 0 h

pub within-fits : (most n : ℕ) → n ≤ most → within most n ≡ Ok n
within-fits most n h = grind (arith, nat_tests)

within_past : (most n : ℕ) → most < n → within most n ≡ Err TooLarge
within_past most n h = grind (arith, nat_tests)

pub within_is : (most n m : ℕ) → within most n ≡ Ok m → m ≡ n
within_is most n m h =
    ⊎_elim
    (λ gt. let e = within_past most n gt in absurd (cc))
    (λ le. let e = within-fits most n le in cc)
    (order most n)

-- a value that is too large stays so
pub too_large : (most n : ℕ) (bs : List ℕ) (p : NotNumber) → within most n ≡ Err p → within most (value_after n bs) ≡ Err p
too_large most n bs p h =
    ⊎_elim
    (λ gt. within_past most (value_after n bs) (let h = after-le n bs in omega arith) ∙ sym (within_past most n gt) ∙ h)
    (λ le. let e = within-fits most n le in absurd (cc))
    (order most n)

pub within-le : (most n m : ℕ) → within most n ≡ Ok m → m ≤ most
within-le most n m h =
    ⊎_elim
    (λ gt. let e = within_past most n gt in absurd (cc))
    (λ le. let e = within_is most n m h in omega arith)
    (order most n)
