use Rattle.std.proofs.Common.{◌≡◌, List, ℕ, Bor, map, drop, vec_items}
use Rattle.script.specs.Reading.{numbers_of}
use Rattle.script.proofs.Sequences.{after}
use Rattle.script.proofs.reading.numbers.Given as goal

abbrev pub invariant-loop-word : goal.invariant-loop-word
invariant-loop-word l = numbers_of (map (λ (w : Bor (List ℕ)). w.now) l.words) ≡ after (vec_items l.found) (numbers_of (map (λ (w : Bor (List ℕ)). w.now) (drop l.word-index l.words)))
