use Rattle.std.proofs.Common.{◌≡◌, vec_items, length}
use Rattle.text_words.specs.Words.{words_in}
use Rattle.run_file.specs.Reading.{numbers_of}
use Rattle.run_file.proofs.Sequences.{after}
use Rattle.run_file.proofs.draft.numbers.Given as goal

abbrev pub invariant-loop-word : goal.invariant-loop-word
invariant-loop-word l = numbers_of (words_in l.text) ≡ after (vec_items l.found) (numbers_of (words_in l.rest))

abbrev pub decreases-loop-word : goal.decreases-loop-word
decreases-loop-word l = length l.rest
