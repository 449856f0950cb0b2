-- What a script says, line by line. Assumes nothing.
use Rattle.std.specs.Prelude.{◌≡◌, ℕ, ◌+◌, List, [], ◌∷◌, ◌++◌, Ok, Err, Result}
use Rattle.text_words.specs.declared.NotNumber.{NotNumber}
use Rattle.text_words.specs.declared.NotNumber.TheVariants.{NotDecimal, TooLarge}
use Rattle.text_words.specs.Words.{lines_of, words_of, number_of}
use Rattle.script.specs.declared.error.Halt.{Halt}
use Rattle.script.specs.declared.error.LineError.{LineError}
use Rattle.script.specs.declared.error.Problem.{Problem}
use Rattle.script.specs.declared.error.Problem.TheVariants.{NotANumber, NumberTooLarge}
use Rattle.script.specs.declared.error.ReadFailure.{ReadFailure}
use Rattle.script.specs.declared.step.Step.{Step}
use Rattle.script.specs.Keywords.{keyword_of}
use Rattle.script.specs.Steps.{and_then, step_of}

-- why a word writes no number is the problem of its line
abbrev pub or_problem : Result ℕ NotNumber → Result ℕ Problem
or_problem (Ok n) = Ok n
or_problem (Err NotDecimal) = Err NotANumber
or_problem (Err TooLarge) = Err NumberTooLarge

-- a word of digits alone writes a number, which is at most 255
abbrev pub byte_of : List ℕ → Result ℕ Problem
byte_of word = or_problem (number_of 255 word)

-- a number in front of others that were read
abbrev pub with_first : ℕ → Result (List ℕ) Problem → Result (List ℕ) Problem
with_first n ns = and_then ns (λ ns. Ok (n ∷ ns))

-- each word writes a number; the first that doesn't is the problem
abbrev pub numbers_of : List (List ℕ) → Result (List ℕ) Problem
numbers_of [] = Ok []
numbers_of (w ∷ ws) = and_then (byte_of w) (λ n. with_first n (numbers_of ws))

-- A line adds one step to those before it; a line without words adds none. Of its problems the first word's comes first, then
-- those of its numbers from left to right, then their count.
abbrev pub line_says : List Step → List (List ℕ) → Result (List Step) Problem
line_says steps [] = Ok steps
line_says steps (w ∷ ws) = and_then (keyword_of w) (λ k. and_then (numbers_of ws) (λ ns. and_then (step_of k ns) (λ step. Ok (steps ++ step ∷ []))))

abbrev pub at_line : {Y : Type 0} → ℕ → Result Y Problem → Result Y LineError
at_line line (Ok y) = Ok y
at_line line (Err p) = Err (record { line = line; problem = p })

-- one line after the other; the first with a problem is the one that is named
abbrev pub following : ℕ → List Step → List (List ℕ) → Result (List Step) LineError
following line steps [] = Ok steps
following line steps (l ∷ ls) = and_then (at_line line (line_says steps (words_of l))) (λ more. following (line + 1) more ls)

-- the whole script
abbrev pub script_said : List ℕ → Result (List Step) LineError
script_said text = following 1 [] (lines_of text)

-- a line's problem is the one that is said; want of memory says nothing
abbrev pub Halts : {Y : Type 0} → Halt → Result Y Problem → Type 0
Halts (Halt.Problem p) said = said ≡ Err p
Halts Halt.Memory said = Unit {0}

-- an answer is the one that is said, unless memory ran out
abbrev pub Means : {X Y : Type 0} → (X → Y) → Result X Halt → Result Y Problem → Type 0
Means view (Ok x) said = said ≡ Ok (view x)
Means view (Err halt) said = Halts halt said

abbrev pub failed_at : ℕ → Halt → ReadFailure
failed_at line (Halt.Problem p) = ReadFailure.Line (record { line = line; problem = p })
failed_at line Halt.Memory = ReadFailure.Memory

-- the same of a whole script
abbrev pub Fails : {Y : Type 0} → ReadFailure → Result Y LineError → Type 0
Fails (ReadFailure.Line e) said = said ≡ Err e
Fails ReadFailure.Memory said = Unit {0}

abbrev pub Tells : {X Y : Type 0} → (X → Y) → Result X ReadFailure → Result Y LineError → Type 0
Tells view (Ok x) said = said ≡ Ok (view x)
Tells view (Err failure) said = Fails failure said
