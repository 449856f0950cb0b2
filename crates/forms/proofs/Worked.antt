-- The worked examples.
use Rattle.std.proofs.Common.{◌≡◌, ℕ, [], ◌∷◌, refl, arith}
use Rattle.terms.specs.Terms.{name, unary, binary, Interpretation}
use Rattle.forms.specs.Form.{low, cut}
use Rattle.forms.specs.Matching.{Takes}
use Rattle.forms.specs.Examples.{row_of, row_with, tall, is_constant, Examples}

-- every name has the value 1, every symbol 0
ones : Interpretation
ones = record { meaning = λ _ _. 0; values = λ _. 1; meaning_small = λ _ _. omega arith; values_small = λ _. omega arith }

not_apart : Takes (row_of (name 0 ∷ name 0 ∷ [])) (row_of (name 0 ∷ name 1 ∷ [])) → ⊥
not_apart t =
    let to = t.0 in
    let e = t.1.vector in
    let p : to 0 ≡ 0 = cc in
    let q : to 0 ≡ 1 = cc in
    omega arith

not_bare : Takes (row_with (name 0 ∷ []) (is_constant ∷ [])) (row_of (name 0 ∷ [])) → ⊥
unfolding ones
not_bare t = let e : ◌≡◌ {A = ℕ} 1 0 = t.1.conditions.0 ones tt in omega arith

pub examples : Examples
examples =
    record {
      cut = (row_of (binary 1 (name 2) (name 0) ∷ []), cut (row_of (tall ∷ [])) tall 0 _ refl refl (cut (row_of (binary 1 (binary 1 (name 1) (name 0)) (unary 0 (name 1)) ∷ [])) (binary 1 (binary 1 (name 1) (name 0)) (unary 0 (name 1))) 2 _ refl refl (cut (row_of (binary 1 (name 2) (unary 0 (name 1)) ∷ [])) (binary 1 (name 2) (unary 0 (name 1))) 0 _ refl refl (low (row_of (binary 1 (name 2) (name 0) ∷ [])) refl))), refl);
      joins = (λ _. 3, record { names = λ _. omega arith; bits = refl; vector = refl; conditions = tt });
      parts = not_apart;
      conditioned = not_bare;
    }
