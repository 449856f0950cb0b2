-- The lines that are printed of a session. Assumes nothing.
use Rattle.std.specs.Prelude.{ℕ, List, [], ◌∷◌, ◌++◌, Some, None, codes, decimal, Option}
use Rattle.fault.specs.declared.Fault.{Fault}
use Rattle.fault.specs.declared.TableFault.{TableFault}
use Rattle.fault.specs.Values.{values_of}
use Rattle.rules.specs.declared.Answer.{Answer}
use Rattle.rules.specs.declared.Answer.TheVariants.{Taken, Done, Joined, Holds, Open, Refused}
use Rattle.rules.specs.declared.Branch.{Branch}
use Rattle.rules.specs.declared.Call.{Call}
use Rattle.rules.specs.declared.Call.TheVariants.{Take, GiveBack, Strike, Merge, Keep, Verdict}
use Rattle.rules.specs.declared.Counts.{Counts}

-- a row and a branch
abbrev pub branch_words : Branch → List ℕ
branch_words b = decimal b.row ++ (codes " " ++ decimal b.number)

-- a call in the words of a script
abbrev pub call_words : Call → List ℕ
call_words (Take b) = codes "take " ++ branch_words b
call_words (GiveBack b) = codes "give " ++ branch_words b
call_words (Strike b) = codes "strike " ++ branch_words b
call_words (Merge b target h) =
    (codes "merge " ++ branch_words b) ++ (codes " " ++ (decimal target ++ (codes " " ++ decimal h)))
call_words (Keep b h) = (codes "keep " ++ branch_words b) ++ (codes " " ++ decimal h)
call_words Verdict = codes "verdict"

-- the number of a refusal
abbrev pub fault_words : TableFault → List ℕ
fault_words e = codes "fault " ++ decimal (values_of (Fault.Table e)).number

abbrev pub answer_words : Answer → List ℕ
answer_words (Taken ticket) = codes "ok"
answer_words Done = codes "ok"
answer_words (Joined joins) = codes "ok joins " ++ decimal joins
answer_words Holds = codes "holds"
answer_words (Open w o) = codes "open waiting " ++ (decimal w ++ (codes " out " ++ decimal o))
answer_words (Refused e) = fault_words e

-- a call, and its answer after one space
abbrev pub call_line : Call → Answer → List ℕ
call_line call answer = ((call_words call ++ codes " ") ++ answer_words answer) ++ codes "\n"

-- a line for each call with its answer
abbrev pub lines_of : List Call → List Answer → List ℕ
lines_of (call ∷ calls) (answer ∷ answers) = call_line call answer ++ lines_of calls answers
lines_of _ _ = []

-- an opening with a limit, and what came of it
abbrev pub opened_words : Option TableFault → List ℕ
opened_words None = codes "ok"
opened_words (Some e) = fault_words e

abbrev pub open_line : ℕ → Option TableFault → List ℕ
open_line limit fault = codes "open " ++ (decimal limit ++ (codes " " ++ (opened_words fault ++ codes "\n")))

-- the rows, and how many branches have each mark
abbrev pub counts_line : Counts → List ℕ
counts_line c =
    (codes "rows " ++ (decimal c.rows ++ (codes " kept " ++ (decimal c.kept
    ++ (codes " merged " ++ (decimal c.merged ++ (codes " struck " ++ decimal c.struck)))))))
    ++ (codes " waiting " ++ (decimal c.waiting ++ (codes " out " ++ (decimal c.out ++ codes "\n"))))
