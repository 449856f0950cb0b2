-- What lines and numbers are for. Assumes nothing.
use Rattle.std.specs.Prelude.{◌≡◌, ℕ, ◌^◌, ◌<◌, ◌≤◌, List, Ok, decimal, ◌≢◌}
use Rattle.std.specs.List.{AllByRecursion, join_with_byte}
use Rattle.text_words.specs.Words.{lines_of, number_of}

abbrev pub Without : ℕ → List ℕ → Type 0
Without b l = AllByRecursion (λ x. x ≢ b) l

pub record Grammar : Type 0 where
  -- the lines have no line end, and make up the text with one between each and the next
  pub whole : (bytes : List ℕ) → join_with_byte 10 (lines_of bytes) ≡ bytes
  pub parted : (bytes : List ℕ) → AllByRecursion (Without 10) (lines_of bytes)
  -- a number is read as it is printed
  pub numerals : (n most : ℕ) → n ≤ most → most < 2 ^ 32 → number_of most (decimal n) ≡ Ok n
