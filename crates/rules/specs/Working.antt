-- Working a table through: which calls that makes, and what they come to. Assumes nothing.
use Rattle.std.specs.Prelude.{◌≡◌, ◌≢◌, ℕ, zero, suc, ◌+◌, ◌≤◌, true, List, [], ◌∷◌, ◌++◌}
use Rattle.std.specs.Prelude.{length, nat_lt, unwrap_or, Some, None, Option, if◌then◌else◌}
use Rattle.fault.specs.declared.TableFault.{TableFault}
use Rattle.fault.specs.declared.TableFault.TheVariants.{NamesExhausted, TermsExhausted}
use Rattle.fault.specs.declared.TableFault.TheVariants.{UnsafeForm, RowLimit}
use Rattle.sheet.specs.System.{System}
use Rattle.rules.specs.declared.Answer.{Answer}
use Rattle.rules.specs.declared.Answer.TheVariants.{Taken, Done, Refused}
use Rattle.rules.specs.declared.Branch.{Branch}
use Rattle.rules.specs.declared.Call.{Call}
use Rattle.rules.specs.declared.Call.TheVariants.{Take, GiveBack, Strike, Merge, Keep, Verdict}
use Rattle.rules.specs.declared.Mark.{Mark}
use Rattle.rules.specs.declared.Mark.TheVariants.{Waiting}
use Rattle.rules.specs.declared.Outcome.{Outcome}
use Rattle.rules.specs.Laws.{Played}
use Rattle.rules.specs.Promises.{Answered, is_accepted}
use Rattle.rules.specs.Standing.{Standing, branches, mark_of, opening}

-- branches in their order: row after row, and in each row from branch 0
abbrev pub first_branch : Branch
first_branch = record { row = 0; number = 0 }

abbrev pub following : System → Branch → Branch
following s b =
    if nat_lt (b.number + 1) (branches s)
    then record { row = b.row; number = b.number + 1 }
    else record { row = b.row + 1; number = 0 }

-- the sheet's height bound, which each whole sheet has
abbrev pub bound_of : System → ℕ
bound_of s = unwrap_or s.bound 0

-- a merge into each of n rows, from this one on
abbrev pub merges_from : Branch → ℕ → ℕ → ℕ → List Call
merges_from b h target zero = []
merges_from b h target (suc n) = Merge b target h ∷ merges_from b h (suc target) n

-- The offers on a branch of a table with n rows, in their order: a strike, merges at the bound, and
-- a keep at the bound.
abbrev pub offers : System → Branch → ℕ → List Call
offers s b n = Strike b ∷ (merges_from b (bound_of s) 0 n ++ Keep b (bound_of s) ∷ [])

-- Offers are made one after another, up to the first that is accepted. Where none is, the fault is
-- the last one's.
pub data Offered (s : System) (limit : ℕ) (at : Standing)
    : List Call → List Call → List Answer → Option TableFault → Standing → Type 0 where
  accepted : (offer : Call) (later : List Call) (answer : Answer) (after : Standing)
      → Answered s limit at offer answer after → is_accepted answer ≡ true
      → Offered s limit at (offer ∷ later) (offer ∷ []) (answer ∷ []) None after
  refused : (offer : Call) (later calls : List Call) (answers : List Answer) (fault : TableFault)
      (end : Option TableFault) (after : Standing)
      → Answered s limit at offer (Refused fault) at
      → Offered s limit at later calls answers end after
      → Offered s limit at (offer ∷ later) (offer ∷ calls) (Refused fault ∷ answers) end after
  last : (offer : Call) (fault : TableFault) → Answered s limit at offer (Refused fault) at
      → Offered s limit at (offer ∷ []) (offer ∷ []) (Refused fault ∷ []) (Some fault) at

-- An unsafe form leaves it unknown whether the invariant holds; where names, terms or rows do not
-- suffice, the table is full.
abbrev pub EndsAs : Branch → TableFault → Outcome → Type 0
EndsAs b UnsafeForm outcome = outcome ≡ Outcome.Unknown b
EndsAs b NamesExhausted outcome = outcome ≡ Outcome.Full b
EndsAs b TermsExhausted outcome = outcome ≡ Outcome.Full b
EndsAs b RowLimit outcome = outcome ≡ Outcome.Full b
EndsAs b _ outcome = ⊥

-- what the verdict at the end comes to
abbrev pub verdict_of : Outcome → Option Answer
verdict_of Outcome.Holds = Some Answer.Holds
verdict_of (Outcome.Open w o) = Some (Answer.Open w o)
verdict_of (Outcome.Unknown b) = None
verdict_of (Outcome.Full b) = None

-- The work from a branch on. Behind the last row it ends with the verdict; a branch that is not
-- waiting is passed; one that is waiting is taken, and the offers on it are made; where none is
-- accepted it is given back, and the work ends.
pub data WorksFrom (s : System) (limit : ℕ)
    : Standing → Branch → List Call → List Answer → Outcome → Standing → Type 0 where
  finished : (at : Standing) (b : Branch) (answer : Answer) (outcome : Outcome)
      → length at.rows ≤ b.row → verdict_of outcome ≡ Some answer
      → Answered s limit at Verdict answer at
      → WorksFrom s limit at b (Verdict ∷ []) (answer ∷ []) outcome at
  passed : (at after : Standing) (b : Branch) (mark : Mark) (calls : List Call)
      (answers : List Answer) (outcome : Outcome)
      → mark_of at b ≡ Some mark → mark ≢ Waiting
      → WorksFrom s limit at (following s b) calls answers outcome after
      → WorksFrom s limit at b calls answers outcome after
  settled : (at out mid after : Standing) (b : Branch) (made calls : List Call)
      (given answers : List Answer) (outcome : Outcome)
      → Answered s limit at (Take b) (Taken b) out
      → Offered s limit out (offers s b (length at.rows)) made given None mid
      → WorksFrom s limit mid (following s b) calls answers outcome after
      → WorksFrom s limit at b (Take b ∷ (made ++ calls))
      (Taken b ∷ (given ++ answers)) outcome after
  stopped : (at out after : Standing) (b : Branch) (made : List Call) (given : List Answer)
      (fault : TableFault) (outcome : Outcome)
      → Answered s limit at (Take b) (Taken b) out
      → Offered s limit out (offers s b (length at.rows)) made given (Some fault) out
      → Answered s limit out (GiveBack b) Done after → EndsAs b fault outcome
      → WorksFrom s limit at b (Take b ∷ (made ++ GiveBack b ∷ []))
      (Taken b ∷ (given ++ Done ∷ [])) outcome after

-- the work on a whole table, in any state
abbrev pub WorkedThrough
    : System → ℕ → Standing → List Call → List Answer → Outcome → Standing → Type 0
WorkedThrough s limit at calls answers outcome after =
    WorksFrom s limit at first_branch calls answers outcome after

-- the work on a table makes calls that are answered by the rules, one after another
abbrev pub WorkPlayed : Type 0
WorkPlayed =
    (s : System) (limit : ℕ) (at after : Standing)
    (calls : List Call) (answers : List Answer) (outcome : Outcome)
    → WorkedThrough s limit at calls answers outcome after → Played s limit at calls answers after

-- the same calls, the same outcome, and the same standing to which they come
pub record SameWork
    (calls calls' : List Call) (outcome outcome' : Outcome) (after after' : Standing)
    : Type 0 where
  pub one_list : calls ≡ calls'
  pub one_outcome : outcome ≡ outcome'
  pub one_standing : after ≡ after'

-- on a newly opened table there is one such work
abbrev pub OneWork : Type 0
OneWork =
    (s : System) (limit : ℕ) (calls calls' : List Call) (answers answers' : List Answer)
    (outcome outcome' : Outcome) (after after' : Standing)
    → WorkedThrough s limit (opening s) calls answers outcome after
    → WorkedThrough s limit (opening s) calls' answers' outcome' after'
    → SameWork calls calls' outcome outcome' after after'

-- and it never ends open: no branch is left waiting or out
abbrev pub WorkSettles : Type 0
WorkSettles =
    (s : System) (limit : ℕ) (calls : List Call) (answers : List Answer)
    (outcome : Outcome) (after : Standing)
    → WorkedThrough s limit (opening s) calls answers outcome after
    → (w o : ℕ) → outcome ≢ Outcome.Open w o
