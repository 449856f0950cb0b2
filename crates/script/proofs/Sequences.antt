-- The numbers of a line word by word. Assumes nothing.
use Rattle.std.proofs.Common.{ℕ, List, ◌++◌, Ok, Result}
use Rattle.script.specs.Steps.{and_then}
use Rattle.script.specs.declared.error.Problem.{Problem}

-- numbers read so far in front of those to come
abbrev pub after : List ℕ → Result (List ℕ) Problem → Result (List ℕ) Problem
after ns r = and_then r (λ ms. Ok (ns ++ ms))
