use Rattle.std.proofs.Common.{◌≡◌, ℕ, ◌<◌, false, map, get_or, vec_items}
use Rattle.sheet.specs.Stored.{formula_in}
use Rattle.sheet.specs.Truth.{truths}
use Rattle.sheet.proofs.sheet.Sheet.truths.Given as goal

abbrev pub invariant-loop-n : goal.invariant-loop-n
invariant-loop-n l = record {
  same : l.known.given ≡ l.initial.known.given;
  filled : (k : ℕ) → k < l.n → get_or l.out k false ≡ get_or (truths l.bits l.questions l.claims (map formula_in (vec_items l.self.parts.formulas))) k false;
}
