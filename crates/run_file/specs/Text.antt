-- The numbers of a run file. Assumes nothing.
use Rattle.std.specs.Prelude.{ℕ, List, Ok, Err, Result}
use Rattle.run_file_error.specs.declared.Problem.{Problem}
use Rattle.run_file_error.specs.declared.Problem.TheVariants.{NotANumber, NumberTooLarge}
use Rattle.text_words.specs.declared.NotNumber.{NotNumber}
use Rattle.text_words.specs.declared.NotNumber.TheVariants.{NotDecimal, TooLarge}
use Rattle.text_words.specs.Words.{number_of as small_number}

-- why a word writes no number is the problem of its line
abbrev pub or_problem : Result ℕ NotNumber → Result ℕ Problem
or_problem (Ok n) = Ok n
or_problem (Err NotDecimal) = Err NotANumber
or_problem (Err TooLarge) = Err NumberTooLarge

-- a word of digits alone writes a number, which is below 2^32
abbrev pub number_of : List ℕ → Result ℕ Problem
number_of word = or_problem (small_number 4294967295 word)
