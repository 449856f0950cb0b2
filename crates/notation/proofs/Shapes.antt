-- A text that begins with the parts of a term or of a line.
use Rattle.std.proofs.Common.{◌≡◌, ℕ, List, [], ◌∷◌, ◌++◌, decimal, refl}
use Rattle.std.proofs.lemmas.List.{append_assoc}
use Rattle.terms.specs.Terms.{Term, unary, binary, ternary}
use Rattle.terms.specs.declared.Sign.{Sign}
use Rattle.notation.specs.Written.{written, sign_text}

pub unary_read : (f : ℕ) (A T : Term) (t t₁ t₂ t₃ t₄ t₅ : List ℕ) → t ≡ 115 ∷ t₁ → t₁ ≡ decimal f ++ t₂ → t₂ ≡ 40 ∷ t₃ → t₃ ≡ written A ++ t₄ → t₄ ≡ 41 ∷ t₅ → T ≡ unary f A → t ≡ written T ++ t₅
unary_read f A T t t₁ t₂ t₃ t₄ t₅ p q r s u e = rw (p, q, r, s, u, e) (simp append_assoc refl)

pub binary_read : (f : ℕ) (A B T : Term) (t t₁ t₂ t₃ t₄ t₅ t₆ t₇ : List ℕ) → t ≡ 115 ∷ t₁ → t₁ ≡ decimal f ++ t₂ → t₂ ≡ 40 ∷ t₃ → t₃ ≡ written A ++ t₄ → t₄ ≡ 44 ∷ t₅ → t₅ ≡ written B ++ t₆ → t₆ ≡ 41 ∷ t₇ → T ≡ binary f A B → t ≡ written T ++ t₇
binary_read f A B T t t₁ t₂ t₃ t₄ t₅ t₆ t₇ p q r s u v w e = rw (p, q, r, s, u, v, w, e) (simp append_assoc refl)

pub ternary_read : (f : ℕ) (A B C T : Term) (t t₁ t₂ t₃ t₄ t₅ t₆ t₇ t₈ t₉ : List ℕ) → t ≡ 115 ∷ t₁ → t₁ ≡ decimal f ++ t₂ → t₂ ≡ 40 ∷ t₃ → t₃ ≡ written A ++ t₄ → t₄ ≡ 44 ∷ t₅ → t₅ ≡ written B ++ t₆ → t₆ ≡ 44 ∷ t₇ → t₇ ≡ written C ++ t₈ → t₈ ≡ 41 ∷ t₉ → T ≡ ternary f A B C → t ≡ written T ++ t₉
ternary_read f A B C T t t₁ t₂ t₃ t₄ t₅ t₆ t₇ t₈ t₉ p q r s u v w x y e = rw (p, q, r, s, u, v, w, x, y, e) (simp append_assoc refl)

pub line_read : (A B : Term) (g : Sign) (t t₁ t₂ t₃ t₄ : List ℕ) → t ≡ written A ++ t₁ → t₁ ≡ sign_text g ++ t₂ → t₂ ≡ written B ++ t₃ → t₃ ≡ 10 ∷ t₄ → t ≡ (written A ++ (sign_text g ++ (written B ++ (10 ∷ [])))) ++ t₄
line_read A B g t t₁ t₂ t₃ t₄ p q r s = rw (p, q, r, s) (simp append_assoc refl)
