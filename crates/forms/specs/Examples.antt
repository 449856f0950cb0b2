-- Worked examples of a cut and of a merge. Assumes nothing.
use Rattle.std.specs.Prelude.{List, [], ◌∷◌, Some}
use Rattle.terms.specs.declared.Sign.TheVariants.{Equal}
use Rattle.terms.specs.Terms.{Term, name, constant, unary, binary, Literal}
use Rattle.forms.specs.Rows.{Row}
use Rattle.forms.specs.Form.{Form}
use Rattle.forms.specs.Matching.{Takes}

abbrev pub row_with : List Term → List Literal → Row
row_with vector conditions = record { bits = []; vector = vector; conditions = conditions }

abbrev pub row_of : List Term → Row
row_of vector = row_with vector []

-- g(g(x1,f(x2)),f(x1)), with f as symbol 0 and g as symbol 1
abbrev pub tall : Term
tall = binary 1 (binary 1 (name 1) (unary 0 (name 2))) (unary 0 (name 1))

-- x0 = c, with c as symbol 2
abbrev pub is_constant : Literal
is_constant = record { left = name 0; right = constant 2; sign = Equal }

pub record Examples : Type 0 where
  pub cut : Form 1 (row_of (tall ∷ [])) (Some (row_of (binary 1 (name 2) (name 0) ∷ [])))
  pub joins : Takes (row_of (name 0 ∷ name 1 ∷ [])) (row_of (name 3 ∷ name 3 ∷ []))
  pub parts : Takes (row_of (name 0 ∷ name 0 ∷ [])) (row_of (name 0 ∷ name 1 ∷ [])) → ⊥
  pub conditioned : Takes (row_with (name 0 ∷ []) (is_constant ∷ [])) (row_of (name 0 ∷ [])) → ⊥
