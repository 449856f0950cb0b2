-- What holds of any list of calls on a newly opened table, and of its answers. Assumes nothing.
use Rattle.std.specs.Prelude.{◌≡◌, ◌↔◌, ℕ, ◌+◌, ◌*◌, ◌<◌, ◌≤◌, ◌⊎◌, Bool, true, false, ◌&&◌}
use Rattle.std.specs.Prelude.{List, ◌++◌, length, take, zip, count_by, is_none, slice_get}
use Rattle.std.specs.Prelude.{Some, None, Option, IsTrue}
use Rattle.std.specs.List.{AllByRecursion}
use Rattle.fault.specs.declared.Fault.{Fault}
use Rattle.fault.specs.declared.TableFault.{TableFault}
use Rattle.fault.specs.declared.TableFault.TheVariants.{BadMemory, UnsafeStart}
use Rattle.fault.specs.Values.{values_of}
use Rattle.plant.specs.Plant.{IsValue, IsPlant}
use Rattle.sheet.specs.Runs.{after, invariant_holds, FirstBreak}
use Rattle.sheet.specs.System.{System}
use Rattle.sheet.specs.Truth.{Meaning}
use Rattle.bench.specs.Outcome.{Accepted}
use Rattle.terms.specs.Terms.{Term, Literal}
use Rattle.banks.specs.Room.{HasAll}
use Rattle.forms.specs.Rows.{Row, first_row}
use Rattle.forms.specs.Counted.{ConditionsIn, sides_of}
use Rattle.forms.specs.Safety.{Safe, Unsafe}
use Rattle.rules.specs.declared.Answer.{Answer}
use Rattle.rules.specs.declared.Answer.TheVariants.{Taken, Done, Joined, Holds, Open, Refused}
use Rattle.rules.specs.declared.Branch.{Branch}
use Rattle.rules.specs.declared.Call.{Call}
use Rattle.rules.specs.declared.Call.TheVariants.{Take, GiveBack, Strike, Merge, Keep, Verdict}
use Rattle.rules.specs.Standing.{Standing, branches, waiting, out}
use Rattle.rules.specs.Rules.{ConditionsWith}
use Rattle.rules.specs.Calls.{Borne, RefusedBy, Makes, ComesTo}

-- start values, and the inputs of n steps
pub record RunInputs (s : System) (starts inputs : List ℕ) (n : ℕ) : Type 0 where
  pub starts_long : length starts ≡ 8
  pub starts_small : AllByRecursion IsValue starts
  pub inputs_long : length inputs ≡ n * s.inputs
  pub inputs_small : AllByRecursion IsValue inputs

-- Over every plant model, with any start values and any inputs, each configuration of a run has a
-- true invariant, from the first one on; and a run that the bench accepts has no answer but none.
pub record AlwaysTrue (s : System) : Type 0 where
  pub steps : (m : Meaning) → IsPlant m → (starts inputs : List ℕ) (n : ℕ)
      → RunInputs s starts inputs n → invariant_holds m s (after m s starts inputs n) ≡ true
  pub runs : (m : Meaning) → IsPlant m → (starts inputs : List ℕ) (n : ℕ)
      → Accepted s starts inputs n → AllByRecursion IsValue starts → AllByRecursion IsValue inputs
      → (answer : Option ℕ) → FirstBreak m s starts inputs n answer ↔ (answer ≡ None)

-- the number of a fault at the table, and of an answer: a refusal has its fault's, no other has one
abbrev pub number_of : TableFault → ℕ
number_of e = (values_of (Fault.Table e)).number

abbrev pub number_in : Answer → Option ℕ
number_in (Refused e) = Some (number_of e)
number_in _ = None

abbrev pub is_accepted : Answer → Bool
is_accepted answer = is_none (number_in answer)

-- which calls are keeps, merges and strikes
abbrev pub is_keep : Call → Bool
is_keep (Keep b h) = true
is_keep _ = false

abbrev pub is_merge : Call → Bool
is_merge (Merge b t h) = true
is_merge _ = false

abbrev pub is_strike : Call → Bool
is_strike (Strike b) = true
is_strike _ = false

-- how many calls of a kind the answers say were accepted
abbrev pub accepted : (Call → Bool) → List Call → List Answer → ℕ
accepted p calls answers = count_by (λ (c, a). p c && is_accepted a) (zip calls answers)

-- The joins of a strike are fewer than the terms considered: the bank's, and those of the
-- candidate's conditions, with their subterms.
abbrev pub FewerJoins : System → Standing → Branch → ℕ → Type 0
FewerJoins s at b joins =
    ConditionsWith s at b
    (λ cs. (all : List Term) → HasAll all (at.terms ++ sides_of cs) → joins < length all)

-- What an accepted call answers, and nothing else: a ticket that names the branch, a strike's
-- joins, the verdict's counts. A table without rows is open with none.
abbrev pub Suits : System → Standing → Call → Answer → Type 0
Suits s at (Take b) (Taken ticket) = ticket ≡ b
Suits s at (GiveBack b) Done = Unit {0}
Suits s at (Strike b) (Joined joins) = FewerJoins s at b joins
Suits s at (Merge b t h) Done = Unit {0}
Suits s at (Keep b h) Done = Unit {0}
Suits s at Verdict Holds = (0 < length at.rows) × (waiting at + out at ≡ 0)
Suits s at Verdict (Open w o) =
    (w ≡ waiting at) × (o ≡ out at) × ((length at.rows ≡ 0) ⊎ (0 < w + o))
Suits s at _ _ = ⊥

-- What one call on a table answers, and what the calls have come to after it: the contract of each
-- public call cites this.
abbrev pub Answered : System → ℕ → Standing → Call → Answer → Standing → Type 0
Answered s limit at call (Refused e) after = RefusedBy s limit at call e × (after ≡ at)
Answered s limit at call answer after =
    Borne s limit at call × Suits s at call answer × Makes s limit at call after

module _ (s : System) (calls : List Call) (answers : List Answer) (at : Standing) where
  -- All branches of all rows are those of the accepted keeps, merges and strikes, and those that
  -- wait or are out after the calls; and each row but the first was kept.
  pub record Accounts : Type 0 where
    pub branches_add : length at.rows * branches s
        ≡ ((accepted is_keep calls answers + accepted is_merge calls answers)
        + accepted is_strike calls answers) + (waiting at + out at)
    pub rows_add : length at.rows ≡ 1 + accepted is_keep calls answers

module _ (s : System) (limit : ℕ) (at : Standing) (call : Call) (answer : Answer) where
  -- a call and its answer, where the calls before it came to this standing
  pub record Exact : Type 0 where
    -- it was accepted exactly when the rules bear it, which is exactly when none refuses it
    pub borne : IsTrue (is_accepted answer) ↔ Borne s limit at call
    pub bears : Borne s limit at call ↔ ((e : TableFault) → RefusedBy s limit at call e → ⊥)
    -- it was refused with a number exactly when the first rule that refuses it has that number
    pub refused : (number : ℕ) → (number_in answer ≡ Some number)
        ↔ ((e : TableFault) × RefusedBy s limit at call e × (number ≡ number_of e))
    -- what it answered, if it was accepted
    pub suits : IsTrue (is_accepted answer) → Suits s at call answer

module _ (s : System) (limit : ℕ) (calls : List Call) (answers : List Answer) where
  -- The three promises about calls on a table that was opened on the sheet with the row limit, and
  -- about their answers.
  pub record Promises : Type 0 where
    -- each call has an answer; the first k calls come to one standing, and to one only
    pub long : length answers ≡ length calls
    pub leads : (k : ℕ) → (at : Standing) × ComesTo s limit (take k calls) at
    pub alone : (k : ℕ) (one other : Standing)
        → ComesTo s limit (take k calls) one → ComesTo s limit (take k calls) other → one ≡ other
    -- safety: after a verdict of holds the invariant is always true
    pub safe : (k : ℕ) → slice_get answers k ≡ Some Holds → AlwaysTrue s
    -- exactness: of each call, after those before it
    pub exact : (k : ℕ) (at : Standing) (call : Call) (answer : Answer)
        → ComesTo s limit (take k calls) at
        → slice_get calls k ≡ Some call → slice_get answers k ≡ Some answer
        → Exact s limit at call answer
    -- accounting: at each moment
    pub adds : (k : ℕ) (at : Standing)
        → ComesTo s limit (take k calls) at → Accounts s (take k calls) (take k answers) at

-- A table is opened, or refused: first by the limit or the lengths of its memory, of which `fits`
-- speaks; then by row 0.
abbrev pub Opens : System → ℕ → Type 0 → Type 0
Opens s limit fits = (0 < limit) × (limit ≤ 64) × fits × Safe s (first_row s)

abbrev pub OpenRefused : System → ℕ → Type 0 → TableFault → Type 0
OpenRefused s limit fits BadMemory = ((0 < limit) × (limit ≤ 64) × fits) → ⊥
OpenRefused s limit fits UnsafeStart = (0 < limit) × (limit ≤ 64) × fits × Unsafe s (first_row s)
OpenRefused s limit fits _ = ⊥
