-- A meaning that is no value at numbers that no symbol has. Assumes nothing.
use Rattle.std.specs.Prelude.{ℕ, ◌^◌, cond, List, nat_lt}
use Rattle.std.proofs.Common.{sym, subst, arith}
use Rattle.std.proofs.lemmas.Bool.{cond-true, lt-ltb}
use Rattle.plant.specs.Plant.{IsValue, IsPlant}

-- 0 at each number of a `u8`, and past every value from 256 on
abbrev pub odd : ℕ → List ℕ → ℕ
odd symbol values = cond (nat_lt symbol 256) 0 (2 ^ 40)

pub odd_plant : IsPlant odd
odd_plant symbol values question =
    subst IsValue (sym (cond-true (nat_lt symbol 256) 0 (2 ^ 40) (lt-ltb symbol 256 (omega (arith, question.known))))) (omega arith)
