-- What is printed of a sheet and a run file. Assumes nothing.
use Rattle.std.specs.Prelude.{◌≡◌, ℕ, ◌<◌, ◌⊎◌, List, ◌++◌, Ok, Err, codes, Option, Result}
use Rattle.fault.specs.declared.Failure.{Failure}
use Rattle.fault.specs.declared.Fault.{Fault}
use Rattle.fault.specs.declared.ModelFault.TheVariants.{ZeroModulus}
use Rattle.fault.specs.Values.{text_of}
use Rattle.sheet.specs.Runs.{after, FirstBreak}
use Rattle.sheet.specs.System.{System}
use Rattle.sheet.specs.Truth.{Meaning}
use Rattle.reader.specs.Law.{ReadAs, RefusedBy}
use Rattle.plant.specs.Listed.{listed}
use Rattle.plant.specs.Affine.{affine}
use Rattle.bench.specs.Outcome.{Accepted, Refused, last_of}
use Rattle.run_file.specs.Reading.{Said, listed_plant, affine_plant, Run}
use Rattle.run_file_error.specs.declared.LineError.{LineError}
use Rattle.run_file_error.specs.Texts.{line_text}
use Rattle.bench_text.specs.Lines.{head_of, answer_line, last_line}

abbrev pub fault_line : Fault → List ℕ
fault_line f = text_of f ++ codes "\n"

-- of a failure; where memory is wanting there is no line
abbrev pub FailureLine : Failure → List ℕ → Type 0
FailureLine (Failure.Fault f) text = text ≡ fault_line f
FailureLine Failure.Memory text = ⊥

-- a run on a meaning: the bench's refusal, or the answer and the last configuration
pub data RunText (m : Meaning) (s : System) (starts inputs : List ℕ) (n : ℕ) (text : List ℕ) : Type 0 where
  refused : (f : Fault) → Refused s starts inputs n f → text ≡ fault_line f → RunText m s starts inputs n text
  ran : (answer : Option ℕ) → Accepted s starts inputs n → FirstBreak m s starts inputs n answer → text ≡ answer_line answer ++ last_line (last_of n answer) (after m s starts inputs (last_of n answer)).bits (after m s starts inputs (last_of n answer)).readings → RunText m s starts inputs n text

-- on a plant: a modulus of 0 is refused where the model is made
abbrev pub PlantText : System → Said → List ℕ → List ℕ → ℕ → List ℕ → Type 0
PlantText s (listed_plant default entries) starts inputs n text = RunText (listed default entries) s starts inputs n text
PlantText s (affine_plant modulus curves) starts inputs n text = ((0 < modulus) × RunText (affine modulus curves) s starts inputs n text) ⊎ ((modulus ≡ 0) × (text ≡ fault_line (Fault.Model ZeroModulus)))

-- of a sheet that has a fault, the fault
pub data SheetText (bytes : List ℕ) (run : Run) (text : List ℕ) : Type 0 where
  faulty : (f : Fault) → RefusedBy bytes f → text ≡ fault_line f → SheetText bytes run text
  whole : (s : System) → ReadAs bytes s → PlantText s run.plant run.starts run.inputs run.steps text → SheetText bytes run text

-- of a run file that can't be read, its line and what is wrong there; else what it says, and then the outcome
abbrev pub Reported : List ℕ → Result Run LineError → List ℕ → Type 0
Reported sheet (Err e) text = text ≡ line_text e ++ codes "\n"
Reported sheet (Ok run) text = (rest : List ℕ) × (text ≡ head_of run ++ rest) × SheetText sheet run rest
