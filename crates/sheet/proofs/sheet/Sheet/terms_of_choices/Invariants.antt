use Rattle.std.proofs.Common.{◌≡◌, ℕ, ◌<◌, false, get_or, vec_items}
use Rattle.sheet.specs.Truth.{chosen}
use Rattle.sheet.proofs.sheet.Sheet.terms_of_choices.Given as goal

abbrev pub invariant-loop-n : goal.invariant-loop-n
invariant-loop-n l = record {
  choices : l.known.choices ≡ l.initial.known.choices;
  truths : l.known.truths ≡ l.initial.known.truths;
  filled : (k : ℕ) → k < l.n → get_or l.out k 0 ≡ get_or (chosen (λ f. get_or l.truths f false) (vec_items l.self.parts.choices)) k 0;
}
