-- What a line that can't be read prints. Assumes nothing.
use Rattle.std.specs.Prelude.{ℕ, List, ◌++◌, codes, decimal}
use Rattle.script.specs.declared.error.LineError.{LineError}
use Rattle.script.specs.declared.error.Problem.{Problem}
use Rattle.script.specs.declared.error.Problem.TheVariants.{UnknownWord, NotANumber, NumberTooLarge, TooFewNumbers, TooManyNumbers}

abbrev pub problem_text : Problem → List ℕ
problem_text UnknownWord = codes "unknown word"
problem_text NotANumber = codes "not a decimal number"
problem_text NumberTooLarge = codes "a number above 255"
problem_text TooFewNumbers = codes "too few numbers"
problem_text TooManyNumbers = codes "too many numbers"

-- `line L: ` and what is wrong there
abbrev pub line_text : LineError → List ℕ
line_text e = codes "line " ++ (decimal e.line ++ (codes ": " ++ problem_text e.problem))
