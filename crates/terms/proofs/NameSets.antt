-- Bit x of a term's name set is set exactly where name x stands in the term.
use Rattle.std.proofs.Common.{◌≡◌, ℕ, suc, ◌+◌, ◌-◌, ◌*◌, ◌/◌, ◌%◌, ◌^◌, ◌<◌, ◌≤◌, Bool, true, false, cond, ◌||◌, eqb, sym, refl, ap, ◌∙◌, ⊎_elim, lt_of_lt_of_le, one-mul, arith, pow_mono}
use native.Mathlib.Nat.{div-eq_of_lt}
use lib.Bits.{bit_or}
use Rattle.std.proofs.lemmas.Nat.{pow_pos, pow-add, pow_below, shl-shr, or_shr, or_mod}
use Rattle.std.proofs.lemmas.Bool.{cases_order, eq-eqb, ne_eqb}
use Rattle.terms.specs.Terms.{Term, name, constant, unary, binary, ternary, occurs, name_set}

abbrev pub flag : Bool → ℕ
flag b = cond b 1 0

or_flags : (p q : Bool) → bit_or (flag p) (flag q) ≡ flag (p || q)
or_flags true true = refl
or_flags true false = refl
or_flags false true = refl
or_flags false false = refl

pub bit_or-bit : (a b x : ℕ) (p q : Bool) → a / 2 ^ x % 2 ≡ flag p → b / 2 ^ x % 2 ≡ flag q → bit_or a b / 2 ^ x % 2 ≡ flag (p || q)
bit_or-bit a b x p q e f = rw (or_shr a b x, or_mod (a / 2 ^ x) (b / 2 ^ x) 1, e, f) (or_flags p q)

pow_over : (k : ℕ) → 2 ^ k / 2 ^ k ≡ 1
pow_over k = let e = shl-shr 1 k in rw one-mul at e

pow_above : (x y : ℕ) → x < y → 2 ^ y / 2 ^ x % 2 ≡ 0
pow_above x y h =
    let d : y ≡ (1 + (y - suc x)) + x = omega arith in
    let s : 2 ^ y ≡ 2 ^ (1 + (y - suc x)) * 2 ^ x = ap (λ k. 2 ^ k) d ∙ pow-add 2 (1 + (y - suc x)) x in
    rw (s, shl-shr (2 ^ (1 + (y - suc x))) x, pow-add 2 1 (y - suc x)) (omega arith)

bit_name : (x y : ℕ) → 2 ^ y / 2 ^ x % 2 ≡ flag (eqb x y)
bit_name x y =
    ⊎_elim
    (λ e. ap (λ k. k % 2) (ap (λ k. 2 ^ k / 2 ^ x) (sym e) ∙ pow_over x) ∙ ap flag (sym (eq-eqb x y e)))
    (⊎_elim (λ h. pow_above x y h ∙ ap flag (sym (ne_eqb x y (omega arith)))) (λ h. ap (λ k. k % 2) (div-eq_of_lt (pow_below y x h)) ∙ ap flag (sym (ne_eqb x y (omega arith)))))
    (cases_order x y)

pub bit_occurs : (x : ℕ) (t : Term) → name_set t / 2 ^ x % 2 ≡ flag (occurs x t)
bit_occurs x (name y) = bit_name x y
bit_occurs x (constant f) = rw (div-eq_of_lt (pow_pos x)) refl
bit_occurs x (unary f a) = bit_occurs x a
bit_occurs x (binary f a b) = bit_or-bit (name_set a) (name_set b) x (occurs x a) (occurs x b) (bit_occurs x a) (bit_occurs x b)
bit_occurs x (ternary f a b c) =
    bit_or-bit (name_set a) (bit_or (name_set b) (name_set c)) x (occurs x a) (occurs x b || occurs x c) (bit_occurs x a) (bit_or-bit (name_set b) (name_set c) x (occurs x b) (occurs x c) (bit_occurs x b) (bit_occurs x c))

flag_test : (b : Bool) → eqb (flag b) 1 ≡ b
flag_test true = refl
flag_test false = refl

pub mentions_occurs : (x : ℕ) (t : Term) → eqb (name_set t / 2 ^ x % 2) 1 ≡ occurs x t
mentions_occurs x t = rw (bit_occurs x t) (flag_test (occurs x t))

-- a name past the set's bits stands nowhere
pub occurs-small : (x : ℕ) (t : Term) → 32 ≤ x → name_set t < 2 ^ 32 → occurs x t ≡ false
occurs-small x t far fits =
    sym (mentions_occurs x t) ∙ ap (λ k. eqb (k % 2) 1) (div-eq_of_lt (lt_of_lt_of_le fits (pow_mono far)))
