-- What deciding conditions asks of the memory, and what labels, verdict and joins say. Assumes nothing.
use Rattle.std.specs.Prelude.{◌≡◌, ℕ, zero, suc, ◌+◌, ◌-◌, ◌<◌, ◌≤◌, Bool, cond, List, ◌∷◌, map, length, Ok, Err, Decides, MatchBool, Result, ◌==◌, slice_index, slice_index_or}
use Rattle.fault.specs.declared.TableFault.{TableFault}
use Rattle.fault.specs.declared.TableFault.TheVariants.{BadMemory}
use Rattle.terms.specs.declared.TermRecord.{TermRecord}
use Rattle.terms.specs.declared.Condition.{Condition}
use Rattle.terms.specs.declared.Sign.TheVariants.{Equal}
use Rattle.terms.specs.Terms.{Literal, Sat, Entails}
use Rattle.terms.specs.Bank.{term_at, literal_of, Ordered}
use Rattle.closure.specs.declared.deciding.Verdict.{Verdict}
use Rattle.closure.specs.Congruence.{Congruent}

abbrev pub no_condition : Condition
no_condition = record { left = 0; right = 0; sign = Equal }

-- the literals that conditions stand for
abbrev pub literals : List TermRecord → List Condition → List Literal
literals rs conds = map (literal_of rs) conds

-- the first n places hold terms, there is a label for each, and the conditions are between them
pub record Ready (rs : List TermRecord) (n : ℕ) (conds : List Condition) (labels : List ℕ) : Type 0 where
  pub ordered : Ordered rs n
  pub few : n ≤ 512
  pub labelled : n ≤ length labels
  pub lefts : (k : ℕ) → k < length conds → (slice_index_or conds k no_condition).left < n
  pub rights : (k : ℕ) → k < length conds → (slice_index_or conds k no_condition).right < n

abbrev pub label : List ℕ → ℕ → ℕ
label l i = slice_index l i

-- how many of the first n places are their own label: one for each class
abbrev pub classes : ℕ → List ℕ → ℕ
classes zero l = 0
classes (suc n) l = cond (label l n == n) 1 0 + classes n l

-- places have one label exactly where the smallest congruence joins their terms
abbrev pub ByCongruence : List TermRecord → ℕ → List Literal → List ℕ → Type 0
ByCongruence rs n cs l =
    (i j : ℕ) → i < n → j < n → (label l i ≡ label l j → Congruent cs (term_at rs i) (term_at rs j)) × (Congruent cs (term_at rs i) (term_at rs j) → label l i ≡ label l j)

-- the answer on a list of conditions: impossible exactly where no interpretation meets them, the labels of the
-- smallest congruence with their equations, and a join for each class that is gone
pub record Answered (rs : List TermRecord) (n : ℕ) (conds : List Condition) (old l : List ℕ) (impossible : Bool) (joins : ℕ) : Type 0 where
  pub verdict : MatchBool impossible (Sat (literals rs conds) → ⊥) (Sat (literals rs conds))
  pub smallest : ByCongruence rs n (literals rs conds) l
  pub counted : joins + classes n l ≡ n
  pub bounded : joins ≤ n - 1
  pub spare : (k : ℕ) → n ≤ k → label l k ≡ label old k

-- what deciding answers: a verdict, or a refusal exactly where the memory is not ready, with nothing written
abbrev pub Decided : List TermRecord → ℕ → List Condition → List ℕ → List ℕ → Result Verdict TableFault → Type 0
Decided rs n conds old l (Ok v) = Ready rs n conds old × Answered rs n conds old l v.impossible v.joins
Decided rs n conds old l (Err e) = (e ≡ BadMemory) × (l ≡ old) × (Ready rs n conds old → ⊥)

-- what the question whether conditions entail another one answers
abbrev pub Concluded : List TermRecord → ℕ → List Condition → Condition → List ℕ → List ℕ → Result Bool TableFault → Type 0
Concluded rs n conds goal old l (Ok b) =
    Ready rs n (goal ∷ conds) old × Decides b (Entails (literals rs conds) (literal_of rs goal)) × ((k : ℕ) → n ≤ k → label l k ≡ label old k)
Concluded rs n conds goal old l (Err e) = (e ≡ BadMemory) × (l ≡ old) × (Ready rs n (goal ∷ conds) old → ⊥)
