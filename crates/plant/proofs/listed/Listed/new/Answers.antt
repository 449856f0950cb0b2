use Rattle.std.proofs.Common.{refl}
use Rattle.std.specs.Option.{option_map_or}
use Rattle.plant.proofs.Firsts.{first}
use Rattle.plant.proofs.Fitting.{decides_fits}
use Rattle.plant.proofs.listed.Listed.new.Goals as goal

pub returns : goal.returns
returns c = record { meaning = refl; first = λ symbol values. first _ _ (decides_fits symbol values) _ _ (λ o. option_map_or (λ e. e.result) o c.args.default) (λ e. refl) refl _ }
