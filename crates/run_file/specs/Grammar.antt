-- What lines, numbers and named lines are for. Assumes nothing.
use Rattle.std.specs.Prelude.{◌≡◌, ℕ, ◌^◌, ◌<◌, ◌≤◌, List, length, Ok, Err, decimal}
use Rattle.run_file.specs.Reading.{run_said}
use Rattle.run_file.specs.Text.{number_of}
use Rattle.run_file_error.specs.declared.LineError.{LineError}
use Rattle.std.specs.List.{AllByRecursion, join_with_byte}
use Rattle.text_words.specs.Grammar.{Without}
use Rattle.text_words.specs.Words.{lines_of}

pub record Grammar (bytes : List ℕ) : Type 0 where
  -- the lines have no line end, and make up the file with one between each and the next
  pub whole : join_with_byte 10 (lines_of bytes) ≡ bytes
  pub parted : AllByRecursion (Without 10) (lines_of bytes)
  -- a number is read as it is printed
  pub numerals : (n : ℕ) → n < 2 ^ 32 → number_of (decimal n) ≡ Ok n
  -- an error names a line of the file
  pub inside : (e : LineError) → run_said bytes ≡ Err e → (0 < e.line) × (e.line ≤ length (lines_of bytes))
