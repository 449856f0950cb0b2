-- What the affine model means. Assumes nothing.
use Rattle.std.specs.Prelude.{◌≡◌, ℕ, ◌+◌, ◌*◌, ◌%◌, List, ◌==◌, find, unwrap_or, slice_index}
use Rattle.plant.specs.First.{First}
use Rattle.plant.specs.declared.affine.Curve.{Curve}

abbrev pub zeros : ℕ → Curve
zeros symbol = record { symbol = symbol; p = 0; q = 0; r = 0; s = 0 }

-- the first curve of the symbol, or one of zeros
abbrev pub curve_of : List Curve → ℕ → Curve
curve_of curves symbol = unwrap_or (find (λ c. c.symbol == symbol) curves) (zeros symbol)

abbrev pub FirstCurve : List Curve → ℕ → Curve → Type 0
FirstCurve curves symbol = First (λ c. c.symbol ≡ symbol) (λ c. c) (zeros symbol) curves

-- the sum of a curve at values: a missing value counts 0, and one past the third counts nothing
abbrev pub sum : Curve → List ℕ → ℕ
sum c values = c.p * slice_index values 0 + c.q * slice_index values 1 + c.r * slice_index values 2 + c.s

abbrev pub affine : ℕ → List Curve → ℕ → List ℕ → ℕ
affine modulus curves symbol values = sum (curve_of curves symbol) values % modulus
