-- What a failure prints. Assumes nothing.
use Rattle.std.specs.Prelude.{ℕ, List, ◌++◌, codes, decimal}
use Rattle.run_file_error.specs.declared.LineError.{LineError}
use Rattle.run_file_error.specs.declared.Problem.{Problem}
use Rattle.run_file_error.specs.declared.Problem.TheVariants.{UnknownDirective, NotANumber, NumberTooLarge, TooFewNumbers, TooManyNumbers, SymbolTooLarge, CoefficientTooLarge, PlantNotFirst, PlantRepeated, EntryUnderAffine, CurveUnderListed, StartRepeated, StepsRepeated, PlantMissing, StartMissing, StepsMissing}
use Rattle.run_file_error.specs.declared.ReadFailure.{ReadFailure}

abbrev pub problem_text : Problem → List ℕ
problem_text UnknownDirective = codes "unknown directive"
problem_text NotANumber = codes "not a decimal number"
problem_text NumberTooLarge = codes "a number above 4294967295"
problem_text TooFewNumbers = codes "too few numbers"
problem_text TooManyNumbers = codes "too many numbers"
problem_text SymbolTooLarge = codes "a symbol above 31"
problem_text CoefficientTooLarge = codes "a coefficient above 65535"
problem_text PlantNotFirst = codes "the plant is not named yet"
problem_text PlantRepeated = codes "the plant is named twice"
problem_text EntryUnderAffine = codes "an entry for an affine plant"
problem_text CurveUnderListed = codes "a curve for a listed plant"
problem_text StartRepeated = codes "a second start line"
problem_text StepsRepeated = codes "a second steps line"
problem_text PlantMissing = codes "the file ends without a plant"
problem_text StartMissing = codes "the file ends without a start line"
problem_text StepsMissing = codes "the file ends without a steps line"

abbrev pub line_text : LineError → List ℕ
line_text e = codes "run file line " ++ (decimal e.line ++ (codes ": " ++ problem_text e.problem))

abbrev pub failure_text : ReadFailure → List ℕ
failure_text (ReadFailure.Line e) = line_text e
failure_text ReadFailure.Memory = codes "run file: out of memory"
