-- The meaning of a listed model, and that it is a plant. Assumes nothing.
use Rattle.std.specs.Prelude.{ℕ, Bool, List, [], ◌∷◌, find, Some, Option}
use Rattle.std.specs.Option.{option_map_or}
use Rattle.std.proofs.Common.{suc, arith}
use Rattle.std.proofs.lemmas.Bool.{cond_both}
use Rattle.plant.specs.declared.listed.Entry.{Entry}
use Rattle.plant.specs.declared.listed.Listed.{Listed}
use Rattle.plant.specs.Listed.{fits, listed, SmallResults}
use Rattle.plant.specs.Plant.{IsValue, IsPlant}

-- what a made model means
abbrev pub meaning_of : Listed → ℕ → List ℕ → ℕ
meaning_of model = listed model.default model.entries.now

-- what is found among values, or a value by default
found_small : (test : Entry → Bool) (default : ℕ) → IsValue default → (entries : List Entry) → SmallResults entries → IsValue (option_map_or (λ e. e.result) (find test entries) default)
found_small test default small [] all = small
found_small test default small (e ∷ es) all =
    cond_both (test e) (Some e) (find test es) (λ (o : Option Entry). IsValue (option_map_or (λ e. e.result) o default)) (λ _. all 0 e (omega arith)) (λ _. found_small test default small es (λ k d inside. all (suc k) d (omega arith)))

pub is_plant : (model : Listed) → IsPlant (meaning_of model)
is_plant model symbol values question = found_small (fits symbol values) model.default model.small_default model.entries.now model.small_results
