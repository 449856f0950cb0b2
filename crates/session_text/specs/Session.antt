-- What is printed of a session on a sheet. Assumes nothing.
use Rattle.std.specs.Prelude.{◌≡◌, ℕ, List, [], ◌∷◌, ◌++◌, Some, None, Ok, Err, codes, Option, Result}
use Rattle.fault.specs.declared.Failure.{Failure}
use Rattle.fault.specs.declared.Fault.{Fault}
use Rattle.fault.specs.declared.TableFault.{TableFault}
use Rattle.fault.specs.Values.{text_of}
use Rattle.sheet.specs.System.{System}
use Rattle.reader.specs.Law.{ReadAs, RefusedBy}
use Rattle.rules.specs.declared.Answer.{Answer}
use Rattle.rules.specs.declared.Call.{Call}
use Rattle.rules.specs.declared.Counts.{Counts}
use Rattle.rules.specs.Calls.{ComesTo}
use Rattle.rules.specs.Laws.{Played}
use Rattle.rules.specs.Promises.{Promises, Opens, OpenRefused}
use Rattle.rules.specs.Standing.{Standing, counts_of, unopened}
use Rattle.script.specs.declared.error.LineError.{LineError}
use Rattle.script.specs.declared.step.Step.{Step}
use Rattle.script.specs.Texts.{line_text}
use Rattle.session_text.specs.Lines.{lines_of, open_line, counts_line}

-- an opening with a row limit, and the calls up to the next one
pub record Stretch : Type 0 where
  pub limit : ℕ
  pub calls : List Call

abbrev pub calls_before : List Step → List Call
calls_before [] = []
calls_before (Step.Call call ∷ steps) = call ∷ calls_before steps
calls_before (Step.Open limit ∷ steps) = []

-- the openings among the steps, each with its calls
abbrev pub stretches : List Step → List Stretch
stretches [] = []
stretches (Step.Call call ∷ steps) = stretches steps
stretches (Step.Open limit ∷ steps) = record { limit = limit; calls = calls_before steps } ∷ stretches steps

-- What comes of an opening with a limit and of calls: the refusal of the opening, an answer to each call, and the counts of the
-- rows and marks that they leave. Calls on an opened table are answered as all promises say; after a refused opening, by the
-- rules on a table without rows. Nothing but the limit and row 0 can refuse an opening.
pub data Worked (s : System) (limit : ℕ) (calls : List Call) (answers : List Answer)
    (refusal : Option TableFault) (counts : Counts) : Type 0 where
  opened : (at : Standing) → refusal ≡ None → Opens s limit (Unit {0}) → Promises s limit calls answers
      → ComesTo s limit calls at → counts ≡ counts_of at → Worked s limit calls answers refusal counts
  refused : (e : TableFault) (at : Standing) → refusal ≡ Some e → OpenRefused s limit (Unit {0}) e
      → Played s limit unopened calls answers at → counts ≡ counts_of at → Worked s limit calls answers refusal counts

-- a text grows by a line for the opening and one for each call
abbrev pub StretchTold : System → ℕ → List Call → List ℕ → List ℕ → Counts → Type 0
StretchTold s limit calls old new counts =
    (refusal : Option TableFault) × (answers : List Answer) × Worked s limit calls answers refusal counts
    × (new ≡ old ++ (open_line limit refusal ++ lines_of calls answers))

-- the same of stretches one after another; the counts are those that the last one leaves
abbrev pub Told : System → Counts → List Stretch → List ℕ → List ℕ → Counts → Type 0
Told s before [] old new counts = (new ≡ old) × (counts ≡ before)
Told s before (x ∷ xs) old new counts =
    (mid : List ℕ) × (between : Counts)
    × StretchTold s x.limit x.calls old mid between × Told s between xs mid new counts

-- the table is opened with the limit, and then the steps are made
abbrev pub SessionTold : System → ℕ → List Step → List ℕ → List ℕ → Counts → Type 0
SessionTold s limit steps old new counts =
    (mid : List ℕ) × (between : Counts)
    × StretchTold s limit (calls_before steps) old mid between × Told s between (stretches steps) mid new counts

-- the whole session; its last line has the counts
abbrev pub SessionText : System → ℕ → List Step → List ℕ → Type 0
SessionText s limit steps text =
    (told : List ℕ) × (counts : Counts) × SessionTold s limit steps [] told counts × (text ≡ told ++ counts_line counts)

-- of a script that can't be read, the line and what is wrong there
abbrev pub ScriptText : System → ℕ → Result (List Step) LineError → List ℕ → Type 0
ScriptText s limit (Err e) text = text ≡ line_text e ++ codes "\n"
ScriptText s limit (Ok steps) text = SessionText s limit steps text

abbrev pub fault_line : Fault → List ℕ
fault_line f = text_of f ++ codes "\n"

-- of a failure; where memory is wanting there is no line
abbrev pub FailureLine : Failure → List ℕ → Type 0
FailureLine (Failure.Fault f) text = text ≡ fault_line f
FailureLine Failure.Memory text = ⊥

-- of a sheet that has a fault, the fault alone; else what the script makes of it
pub data Printed (bytes : List ℕ) (limit : ℕ) (said : Result (List Step) LineError) (text : List ℕ) : Type 0 where
  faulty : (f : Fault) → RefusedBy bytes f → text ≡ fault_line f → Printed bytes limit said text
  whole : (s : System) → ReadAs bytes s → ScriptText s limit said text → Printed bytes limit said text
