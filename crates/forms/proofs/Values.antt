-- Values of terms and truth of conditions under changed values of the names.
use Rattle.std.proofs.Common.{◌≡◌, ℕ, ◌^◌, ◌<◌, false, cond, eqb, [], ◌∷◌, sym, refl, ◌∙◌}
use Rattle.std.proofs.lemmas.Bool.{cond_both, cond-true, cond-false, eq-eqb, ne_eqb, eqb-false}
use Rattle.terms.specs.declared.Sign.{Sign}
use Rattle.terms.specs.declared.Sign.TheVariants.{Equal, Different}
use Rattle.terms.specs.Terms.{Term, name, constant, unary, binary, ternary, Interpretation, eval, AreSigned}

pub signed_same : (g : Sign) (a a' b b' : ℕ) → a ≡ a' → b ≡ b' → AreSigned g a b → AreSigned g a' b'
signed_same Equal a a' b b' p q e = sym p ∙ (e ∙ q)
signed_same Different a a' b b' p q ne = λ e. ne (p ∙ (e ∙ sym q))

pub eval-small : (i : Interpretation) (t : Term) → eval i t < 2 ^ 32
eval-small i (name x) = i.values_small x
eval-small i (constant f) = i.meaning_small f []
eval-small i (unary f a) = i.meaning_small f (eval i a ∷ [])
eval-small i (binary f a b) = i.meaning_small f (eval i a ∷ (eval i b ∷ []))
eval-small i (ternary f a b c) = i.meaning_small f (eval i a ∷ (eval i b ∷ (eval i c ∷ [])))

-- name x has the value v, every other name the one that it had
abbrev pub with_value : Interpretation → (x v : ℕ) → v < 2 ^ 32 → Interpretation
with_value i x v small = record { meaning = i.meaning; values = λ y. cond (eqb y x) v (i.values y); meaning_small = i.meaning_small; values_small = λ y. cond_both (eqb y x) v (i.values y) (λ k. k < 2 ^ 32) (λ _. small) (λ _. i.values_small y) }

pub value_here : (i : Interpretation) (x v : ℕ) (small : v < 2 ^ 32) → (with_value i x v small).values x ≡ v
value_here i x v small = cond-true (eqb x x) v (i.values x) (eq-eqb x x refl)

pub value_elsewhere : (i : Interpretation) (x v : ℕ) (small : v < 2 ^ 32) (y : ℕ) → eqb x y ≡ false → (with_value i x v small).values y ≡ i.values y
value_elsewhere i x v small y other = cond-false (eqb y x) v (i.values y) (ne_eqb y x (λ e. eqb-false x y other (sym e)))
