-- The meaning of an affine model, and that it is a plant. Assumes nothing.
use Rattle.std.specs.Prelude.{ℕ, List}
use Rattle.std.specs.Int.NonZero.{non_zero_u32_get}
use Rattle.std.proofs.Common.{arith}
use Rattle.plant.specs.declared.affine.Affine.{Affine}
use Rattle.plant.specs.Affine.{affine}
use Rattle.plant.specs.Plant.{IsPlant}

-- what a made model means
abbrev pub meaning_of : Affine → ℕ → List ℕ → ℕ
meaning_of model = affine (non_zero_u32_get model.modulus) model.curves.now

pub is_plant : (model : Affine) → IsPlant (meaning_of model)
is_plant model symbol values question = omega (arith, model.small)
