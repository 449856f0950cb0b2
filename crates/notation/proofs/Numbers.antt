-- The decimal form of numbers of one, two and three digits.
use Rattle.std.proofs.Common.{◌≡◌, ℕ, ◌+◌, ◌*◌, ◌/◌, ◌%◌, ◌<◌, List, [], ◌∷◌, ◌++◌, decimal, refl, ◌∙◌, arith}
use Rattle.std.proofs.lemmas.Fmt.{decimal_digit, decimal_step}

pub one_digit : (a : ℕ) (t r : List ℕ) → a < 10 → t ≡ (48 + a) ∷ r → t ≡ decimal a ++ r
one_digit a t r lt e = rw (decimal_digit a lt) e

two : (a b : ℕ) → 0 < a → a < 10 → b < 10 → decimal (a * 10 + b) ≡ (48 + a) ∷ ((48 + b) ∷ [])
two a b some p q =
    let up : (a * 10 + b) / 10 ≡ a = omega arith in
    let low : (a * 10 + b) % 10 ≡ b = omega arith in
    rw (decimal_step (a * 10 + b) (omega arith) (omega arith), up, low, decimal_digit a p) refl

pub two_digits : (a b : ℕ) (t r s : List ℕ) → 0 < a → a < 10 → b < 10 → t ≡ (48 + a) ∷ r → r ≡ (48 + b) ∷ s → t ≡ decimal (a * 10 + b) ++ s
two_digits a b t r s some p q e f = e ∙ rw (two a b some p q, f) refl

pub three_digits : (a b c : ℕ) (t r s u : List ℕ) → 0 < a → a < 10 → b < 10 → c < 10 → t ≡ (48 + a) ∷ r → r ≡ (48 + b) ∷ s → s ≡ (48 + c) ∷ u → t ≡ decimal ((a * 10 + b) * 10 + c) ++ u
three_digits a b c t r s u some p q w e f g =
    let n = (a * 10 + b) * 10 + c in
    let up : ((a * 10 + b) * 10 + c) / 10 ≡ a * 10 + b = omega arith in
    let low : ((a * 10 + b) * 10 + c) % 10 ≡ c = omega arith in
    e ∙ rw (decimal_step ((a * 10 + b) * 10 + c) (omega arith) (omega arith), up, low, two a b some p q, f, g) refl
