use Rattle.std.proofs.Common.{◌≡◌, ◌+◌, ℕ, List, [], Bor, map, drop, vec_items}
use Rattle.script.specs.Reading.{following}
use Rattle.script.proofs.reading.steps_of.Given as goal

-- what the rest says from here on is what the script says
abbrev pub invariant-loop-i : goal.invariant-loop-i
invariant-loop-i l = following 1 [] (map (λ (w : Bor (List ℕ)). w.now) l.lines) ≡ following (l.i + 1) (vec_items l.steps) (map (λ (w : Bor (List ℕ)). w.now) (drop l.i l.lines))
