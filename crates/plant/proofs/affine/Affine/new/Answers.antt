use Rattle.std.proofs.Common.{ℕ, List, unwrap_or, refl}
use Rattle.std.proofs.lemmas.Bool.Decides.{Decides-eqb}
use Rattle.plant.specs.declared.affine.Curve.{Curve}
use Rattle.plant.specs.Affine.{zeros, curve_of, FirstCurve}
use Rattle.plant.proofs.Firsts.{first}
use Rattle.plant.proofs.affine.Affine.new.Goals as goal

first-curve : (curves : List Curve) (symbol : ℕ) → FirstCurve curves symbol (curve_of curves symbol)
first-curve curves symbol = first _ _ (λ (x : Curve). Decides-eqb x.symbol symbol) _ _ (λ o. unwrap_or o (zeros symbol)) (λ x. refl) refl curves

pub returns-in_err-modulus-clause-first : goal.returns-in_err-modulus-clause-first
returns-in_err-modulus-clause-first c = first-curve _

pub returns-clause-first : goal.returns-clause-first
returns-clause-first c = first-curve _
