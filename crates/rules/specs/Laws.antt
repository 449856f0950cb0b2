-- What follows from the rules alone, whatever answers the calls. Assumes nothing.
use Rattle.std.specs.Prelude.{◌≡◌, ◌↔◌, ℕ, List, [], ◌∷◌, slice_get, Some, None, Option}
use Rattle.fault.specs.declared.TableFault.{TableFault}
use Rattle.sheet.specs.System.{System}
use Rattle.rules.specs.declared.Answer.{Answer}
use Rattle.rules.specs.declared.Answer.TheVariants.{Holds}
use Rattle.rules.specs.declared.Call.{Call}
use Rattle.rules.specs.Standing.{Standing, counts_of, opening}
use Rattle.rules.specs.Calls.{Borne, RefusedBy, Turns, ComesTo}
use Rattle.rules.specs.Promises.{AlwaysTrue, Promises, Answered, Accounts}
use Rattle.rules.specs.Promises.{accepted, is_keep, is_merge, is_strike}

-- calls and their answers, one after another, and what they come to
abbrev pub Played : System → ℕ → Standing → List Call → List Answer → Standing → Type 0
Played s limit at [] [] after = after ≡ at
Played s limit at (call ∷ calls) (answer ∷ answers) after =
    (mid : Standing) × Answered s limit at call answer mid × Played s limit mid calls answers after
Played s limit at _ _ after = ⊥

-- accepted calls account for every branch of every row
abbrev pub Accounting : Type 0
Accounting =
    (s : System) (limit : ℕ) (calls : List Call) (answers : List Answer) (at : Standing)
    → Played s limit (opening s) calls answers at → Accounts s calls answers at

-- there are as many marks kept, merged and struck as accepted calls of that name
pub record Marked (calls : List Call) (answers : List Answer) (at : Standing) : Type 0 where
  pub kept : (counts_of at).kept ≡ accepted is_keep calls answers
  pub merged : (counts_of at).merged ≡ accepted is_merge calls answers
  pub struck : (counts_of at).struck ≡ accepted is_strike calls answers

abbrev pub Counting : Type 0
Counting =
    (s : System) (limit : ℕ) (calls : List Call) (answers : List Answer) (at : Standing)
    → Played s limit (opening s) calls answers at → Marked calls answers at

-- what answered calls come to is what the rules give
abbrev pub PlayedTurns : Type 0
PlayedTurns =
    (s : System) (limit : ℕ) (calls : List Call) (answers : List Answer) (from at : Standing)
    → Played s limit from calls answers at → Turns s limit from calls at

-- one outcome of a call by the rules: borne, or refused with a first fault
abbrev pub Outcome : System → ℕ → Standing → Call → Option TableFault → Type 0
Outcome s limit at call None = Borne s limit at call
Outcome s limit at call (Some e) = RefusedBy s limit at call e

-- a call has at most one outcome: none is both borne and refused, and one fault is the first
abbrev pub OneOutcome : Type 0
OneOutcome =
    (s : System) (limit : ℕ) (at : Standing) (call : Call) (a b : Option TableFault)
    → Outcome s limit at call a → Outcome s limit at call b → a ≡ b

-- calls come to one thing only
abbrev pub Alone : Type 0
Alone =
    (s : System) (limit : ℕ) (calls : List Call) (from one other : Standing)
    → Turns s limit from calls one → Turns s limit from calls other → one ≡ other

-- Where each call was answered as the rules say, and a verdict of holds came only on a sheet whose
-- invariant is always true, all that is promised of calls and answers is kept.
abbrev pub AnsweredPromises : Type 0
AnsweredPromises =
    (s : System) (limit : ℕ) (calls : List Call) (answers : List Answer) (at : Standing)
    → Played s limit (opening s) calls answers at
    → ((k : ℕ) → slice_get answers k ≡ Some Holds → AlwaysTrue s)
    → Promises s limit calls answers

-- a sheet with a height bound
abbrev pub HasBound : System → Type 0
HasBound s = (bound : ℕ) × (s.bound ≡ Some bound)

-- after any calls, the rules bear a call exactly when no fault refuses it
abbrev pub Bears : Type 0
Bears =
    (s : System) (limit : ℕ) → HasBound s → (calls : List Call) (at : Standing)
    → ComesTo s limit calls at → (call : Call)
    → Borne s limit at call ↔ ((e : TableFault) → RefusedBy s limit at call e → ⊥)
