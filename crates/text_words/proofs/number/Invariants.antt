use Rattle.std.proofs.Common.{◌≡◌, ◌≤◌, drop}
use Rattle.text_words.specs.Words.{value_after, within}
use Rattle.text_words.proofs.number.Given as goal

-- what is left gives the number
abbrev pub invariant-loop-b : goal.invariant-loop-b
invariant-loop-b l = (l.value ≤ l.most) × (within l.most (value_after l.value (drop l.b-index l.word)) ≡ within l.most (value_after 0 l.word))
