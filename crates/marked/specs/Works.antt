-- The three sheets worked through: each call in working order with its answer, and what the calls come to. Assumes nothing.
use Rattle.std.specs.Prelude.{◌≡◌, ℕ, true, false, List, [], ◌∷◌, map}
use Rattle.fault.specs.declared.TableFault.TheVariants.{Satisfiable, NoRenaming, UnsafeForm}
use Rattle.sheet.specs.System.{System}
use Rattle.terms.specs.Terms.{name, constant, unary}
use Rattle.forms.specs.Rows.{Row, first_row}
use Rattle.forms.specs.Safety.{Safe}
use Rattle.rules.specs.declared.Answer.{Answer}
use Rattle.rules.specs.declared.Answer.TheVariants.{Taken, Done, Holds, Refused}
use Rattle.rules.specs.declared.Branch.{Branch}
use Rattle.rules.specs.declared.Call.{Call}
use Rattle.rules.specs.declared.Call.TheVariants.{Take, GiveBack, Strike, Merge, Keep, Verdict}
use Rattle.rules.specs.declared.Entry.{Entry}
use Rattle.rules.specs.declared.Mark.{Mark}
use Rattle.rules.specs.declared.Mark.TheVariants.{Waiting, Merged, Kept}
use Rattle.rules.specs.declared.Outcome.{Outcome}
use Rattle.rules.specs.Standing.{Standing, opening, counts_of}
use Rattle.rules.specs.Laws.{Played}
use Rattle.rules.specs.Working.{WorkedThrough, SameWork}

abbrev pub branch : ℕ → ℕ → Branch
branch row number = record { row = row; number = number }

abbrev pub call_of : Entry → Call
call_of e = e.call

abbrev pub answer_of : Entry → Answer
answer_of e = e.answer

abbrev pub calls_of : List Entry → List Call
calls_of work = map call_of work

abbrev pub answers_of : List Entry → List Answer
answers_of work = map answer_of work

abbrev pub entry : Call → Answer → Entry
entry call answer = record { call = call; answer = answer }

-- Branch 0 of row 0 goes back to row 0; branch 1 is kept as row 1; both branches of row 1 go back to row 1.
abbrev pub hopper_work : List Entry
hopper_work =
    entry (Take (branch 0 0)) (Taken (branch 0 0))
    ∷ entry (Strike (branch 0 0)) (Refused Satisfiable)
    ∷ entry (Merge (branch 0 0) 0 1) Done
    ∷ entry (Take (branch 0 1)) (Taken (branch 0 1))
    ∷ entry (Strike (branch 0 1)) (Refused Satisfiable)
    ∷ entry (Merge (branch 0 1) 0 1) (Refused NoRenaming)
    ∷ entry (Keep (branch 0 1) 1) Done
    ∷ entry (Take (branch 1 0)) (Taken (branch 1 0))
    ∷ entry (Strike (branch 1 0)) (Refused Satisfiable)
    ∷ entry (Merge (branch 1 0) 0 1) (Refused NoRenaming)
    ∷ entry (Merge (branch 1 0) 1 1) Done
    ∷ entry (Take (branch 1 1)) (Taken (branch 1 1))
    ∷ entry (Strike (branch 1 1)) (Refused Satisfiable)
    ∷ entry (Merge (branch 1 1) 0 1) (Refused NoRenaming)
    ∷ entry (Merge (branch 1 1) 1 1) Done
    ∷ entry Verdict Holds
    ∷ []

-- Branch 0 of row 0 goes back to row 0 at the height bound; branch 1 can be neither struck nor merged, nor kept for want of safety,
-- and is given back.
abbrev pub unknown_work : ℕ → List Entry
unknown_work bound =
    entry (Take (branch 0 0)) (Taken (branch 0 0))
    ∷ entry (Strike (branch 0 0)) (Refused Satisfiable)
    ∷ entry (Merge (branch 0 0) 0 bound) Done
    ∷ entry (Take (branch 0 1)) (Taken (branch 0 1))
    ∷ entry (Strike (branch 0 1)) (Refused Satisfiable)
    ∷ entry (Merge (branch 0 1) 0 bound) (Refused NoRenaming)
    ∷ entry (Keep (branch 0 1) bound) (Refused UnsafeForm)
    ∷ entry (GiveBack (branch 0 1)) Done
    ∷ []

-- the rows: the bit is down and the readings are free; the bit is raised and reading 1 is symbol 1 of reading 0
abbrev pub row_zero : Row
row_zero = record { bits = false ∷ []; vector = name 0 ∷ name 1 ∷ []; conditions = [] }

abbrev pub row_one : Row
row_one = record { bits = true ∷ []; vector = name 0 ∷ unary 1 (name 0) ∷ []; conditions = [] }

-- with the marks of row 0's branches
abbrev pub one_row : Mark → Mark → Standing
one_row m n = record { rows = row_zero ∷ []; marks = (m ∷ n ∷ []) ∷ []; terms = name 0 ∷ name 1 ∷ [] }

-- the same when branch 1 has been kept: the bank has its candidate, with the condition that the input x2 is the constant
abbrev pub two_rows : Mark → Mark → Mark → Mark → Standing
two_rows m n o p =
    record {
      rows = row_zero ∷ row_one ∷ [];
      marks = (m ∷ n ∷ []) ∷ (o ∷ p ∷ []) ∷ [];
      terms = name 0 ∷ name 1 ∷ name 0 ∷ unary 1 (name 0) ∷ name 2 ∷ constant 0 ∷ [];
    }

-- The work on a table for 64 rows that the sheet opens: these calls, in this order, with these answers.
pub record Works (s : System) (work : List Entry) (outcome : Outcome) (at : Standing) : Type 0 where
  -- row 0 is safe, so that the table is opened
  pub opens : Safe s (first_row s)
  -- they are the calls of the work, and come to this outcome and this standing
  pub worked : WorkedThrough s 64 (opening s) (calls_of work) (answers_of work) outcome at
  -- by the rules they have these answers
  pub played : Played s 64 (opening s) (calls_of work) (answers_of work) at
  -- no other calls are the work, and it comes to nothing else
  pub only : (calls : List Call) (answers : List Answer) (end : Outcome) (after : Standing) → WorkedThrough s 64 (opening s) calls answers end after → SameWork calls (calls_of work) end outcome after at

-- two rows, one kept, three merged and none struck: it holds
pub record Holding (s : System) : Type 0 where
  pub works : Works s hopper_work Outcome.Holds (two_rows Merged Kept Merged Merged)
  pub counts : counts_of (two_rows Merged Kept Merged Merged) ≡ record { rows = 2; kept = 1; merged = 3; struck = 0; waiting = 0; out = 0 }

-- unknown at branch 1 of row 0, which waits again
pub record Unknown (s : System) (bound : ℕ) : Type 0 where
  pub works : Works s (unknown_work bound) (Outcome.Unknown (branch 0 1)) (one_row Merged Waiting)
  pub counts : counts_of (one_row Merged Waiting) ≡ record { rows = 1; kept = 0; merged = 1; struck = 0; waiting = 1; out = 0 }
