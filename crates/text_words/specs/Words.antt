-- Lines, words and numbers of a text of bytes. Assumes nothing.
use Rattle.std.specs.Prelude.{◌≡◌, ℕ, ◌+◌, ◌-◌, ◌*◌, ◌<◌, Bool, true, not, ◌||◌, List, [], ◌∷◌, length, get_or, drop, filter, Ok, Err, Result, ◌==◌, nat_le, if◌then◌else◌}
use Rattle.std.specs.List.{slice_split, before_first, list_all}
use Rattle.std.specs.Char.{is_ascii_digit}
use Rattle.text_words.specs.declared.NotNumber.{NotNumber}
use Rattle.text_words.specs.declared.NotNumber.TheVariants.{NotDecimal, TooLarge}

-- a space, a tab or a carriage return
abbrev pub blank : ℕ → Bool
blank b = b == 32 || (b == 9 || b == 13)

-- each line ends before a byte 10, the last one at the end of the text
abbrev pub lines_of : List ℕ → List (List ℕ)
lines_of = slice_split (λ b. b == 10)

-- a `#` begins a comment, wherever it stands
abbrev pub before_comment : List ℕ → List ℕ
before_comment line = before_first (λ b. b == 35) line

-- the words of a text: what stands between blanks, where anything does
abbrev pub words_in : List ℕ → List (List ℕ)
words_in text = filter (λ word. not (length word == 0)) (slice_split blank text)

-- the words of a text are this one and then those of the rest
abbrev pub FirstWord : List ℕ → List ℕ → List ℕ → Type 0
FirstWord text word rest = words_in text ≡ word ∷ words_in rest

-- the text is some blanks and then the rest
pub record BlanksBefore (rest text : List ℕ) : Type 0 where
  pub blanks : ℕ
  pub front : (k : ℕ) → k < blanks → blank (get_or text k 0) ≡ true
  pub back : drop blanks text ≡ rest

-- the words of a line: those before its comment
abbrev pub words_of : List ℕ → List (List ℕ)
words_of line = words_in (before_comment line)

-- the value of decimal digits that follow those of n
abbrev pub value_after : ℕ → List ℕ → ℕ
value_after n [] = n
value_after n (b ∷ bs) = value_after (10 * n + (b - 48)) bs

-- a number that is not above the largest
abbrev pub within : ℕ → ℕ → Result ℕ NotNumber
within most n = if nat_le n most then Ok n else Err TooLarge

-- a word of digits alone writes a number
abbrev pub number_of : ℕ → List ℕ → Result ℕ NotNumber
number_of most word = if list_all is_ascii_digit word then within most (value_after 0 word) else Err NotDecimal
