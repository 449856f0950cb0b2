-- What the numbers of a line say after its first word. Assumes nothing.
use Rattle.std.specs.Prelude.{ℕ, List, [], ◌∷◌, Ok, Err, Result}
use Rattle.rules.specs.declared.Branch.{Branch}
use Rattle.rules.specs.declared.Call.{Call}
use Rattle.script.specs.declared.error.Problem.{Problem}
use Rattle.script.specs.declared.error.Problem.TheVariants.{TooFewNumbers, TooManyNumbers}
use Rattle.script.specs.declared.keyword.Keyword.{Keyword}
use Rattle.script.specs.declared.step.Step.{Step}

-- go on with the value, or stop at the error
abbrev pub and_then : {X Y E : Type 0} → Result X E → (X → Result Y E) → Result Y E
and_then (Ok x) f = f x
and_then (Err e) f = Err e

-- a row and a branch
abbrev pub branch_in : List ℕ → Result Branch Problem
branch_in [] = Err TooFewNumbers
branch_in (row ∷ []) = Err TooFewNumbers
branch_in (row ∷ number ∷ []) = Ok (record { row = row; number = number })
branch_in (row ∷ number ∷ n ∷ ns) = Err TooManyNumbers

-- a row and a branch, the target row and the height
abbrev pub merge_in : List ℕ → Result Call Problem
merge_in [] = Err TooFewNumbers
merge_in (row ∷ []) = Err TooFewNumbers
merge_in (row ∷ number ∷ []) = Err TooFewNumbers
merge_in (row ∷ number ∷ target ∷ []) = Err TooFewNumbers
merge_in (row ∷ number ∷ target ∷ height ∷ []) = Ok (Call.Merge (record { row = row; number = number }) target height)
merge_in (row ∷ number ∷ target ∷ height ∷ n ∷ ns) = Err TooManyNumbers

-- a row and a branch, and the height
abbrev pub keep_in : List ℕ → Result Call Problem
keep_in [] = Err TooFewNumbers
keep_in (row ∷ []) = Err TooFewNumbers
keep_in (row ∷ number ∷ []) = Err TooFewNumbers
keep_in (row ∷ number ∷ height ∷ []) = Ok (Call.Keep (record { row = row; number = number }) height)
keep_in (row ∷ number ∷ height ∷ n ∷ ns) = Err TooManyNumbers

-- no number
abbrev pub verdict_in : List ℕ → Result Call Problem
verdict_in [] = Ok Call.Verdict
verdict_in (n ∷ ns) = Err TooManyNumbers

-- the row limit
abbrev pub limit_in : List ℕ → Result ℕ Problem
limit_in [] = Err TooFewNumbers
limit_in (limit ∷ []) = Ok limit
limit_in (limit ∷ n ∷ ns) = Err TooManyNumbers

-- what a line asks for, by its first word and its numbers
abbrev pub step_of : Keyword → List ℕ → Result Step Problem
step_of Keyword.Take ns = and_then (branch_in ns) (λ b. Ok (Step.Call (Call.Take b)))
step_of Keyword.Give ns = and_then (branch_in ns) (λ b. Ok (Step.Call (Call.GiveBack b)))
step_of Keyword.Strike ns = and_then (branch_in ns) (λ b. Ok (Step.Call (Call.Strike b)))
step_of Keyword.Merge ns = and_then (merge_in ns) (λ call. Ok (Step.Call call))
step_of Keyword.Keep ns = and_then (keep_in ns) (λ call. Ok (Step.Call call))
step_of Keyword.Verdict ns = and_then (verdict_in ns) (λ call. Ok (Step.Call call))
step_of Keyword.Open ns = and_then (limit_in ns) (λ limit. Ok (Step.Open limit))
