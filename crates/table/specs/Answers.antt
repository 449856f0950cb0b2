-- The answers of the rules that the results of a table's calls are. Assumes nothing.
use Rattle.std.specs.Prelude.{ℕ, Ok, Err, Result}
use Rattle.fault.specs.declared.TableFault.{TableFault}
use Rattle.rules.specs.declared.Answer.{Answer}
use Rattle.rules.specs.declared.Answer.TheVariants.{Taken, Done, Joined, Holds, Open, Refused}
use Rattle.rules.specs.declared.Branch.{Branch}
use Rattle.rules.specs.declared.Call.{Call}
use Rattle.rules.specs.declared.Entry.{Entry}
use Rattle.table.specs.declared.ticket.Refusal.{Refusal}
use Rattle.table.specs.declared.ticket.Ticket.{Ticket}
use Rattle.table.specs.declared.verdict.Verdict.{Verdict}

-- the branch that a ticket names
abbrev pub branch_of : Ticket → Branch
branch_of ticket = ticket.branch

-- a take hands over a ticket that names its branch
abbrev pub answer_of_take : Result Ticket TableFault → Answer
answer_of_take (Ok ticket) = Taken (branch_of ticket)
answer_of_take (Err fault) = Refused fault

-- a give back, a merge and a keep are done
abbrev pub answer_of_offer : Result Unit Refusal → Answer
answer_of_offer (Ok u) = Done
answer_of_offer (Err refusal) = Refused refusal.fault

-- a strike tells its joins
abbrev pub answer_of_strike : Result ℕ Refusal → Answer
answer_of_strike (Ok joins) = Joined joins
answer_of_strike (Err refusal) = Refused refusal.fault

abbrev pub answer_of_verdict : Verdict → Answer
answer_of_verdict Verdict.Holds = Holds
answer_of_verdict (Verdict.Open w o) = Open w o

-- the same of the work on a branch, before its ticket is spent or handed back
abbrev pub done : Result Unit TableFault → Answer
done (Ok u) = Done
done (Err fault) = Refused fault

abbrev pub joined : Result ℕ TableFault → Answer
joined (Ok joins) = Joined joins
joined (Err fault) = Refused fault

-- a refusal hands back the ticket
abbrev pub settled : {A : Type 0} → Ticket → Result A TableFault → Result A Refusal
settled ticket (Ok x) = Ok x
settled ticket (Err fault) = Err (record { fault = fault; ticket = ticket })

-- the call of an entry, and what stands in the place for its answer
abbrev pub call_of : Entry → Call
call_of entry = entry.call

abbrev pub answer_of : Entry → Answer
answer_of entry = entry.answer
