-- What the inner functions of closure keep and add to: words for their contracts. A reader of the public calls needs
-- none of them. Assumes nothing.
use Rattle.std.specs.Prelude.{◌≡◌, ℕ, suc, ◌+◌, ◌*◌, ◌%◌, ◌<◌, ◌≤◌, min, max, Bool, false, cond, List, length, get_or, Some, None, MatchBool, Option, ◌==◌, ◌≢◌, slice_index_or}
use Rattle.terms.specs.declared.Node.{Node}
use Rattle.terms.specs.declared.Node.TheVariants.{Name, Constant, Unary, Binary, Ternary}
use Rattle.terms.specs.declared.TermRecord.{TermRecord}
use Rattle.terms.specs.declared.Condition.{Condition}
use Rattle.terms.specs.declared.Sign.{Sign}
use Rattle.terms.specs.declared.Sign.TheVariants.{Equal, Different}
use Rattle.terms.specs.Terms.{Literal}
use Rattle.terms.specs.Bank.{node_at, term_at, relabel}
use Rattle.closure.specs.Congruence.{Congruent}
use Rattle.closure.specs.Labels.{no_condition, literals, label, classes}

-- the signature of a place: its node over labels
abbrev pub sig : List TermRecord → List ℕ → ℕ → Node
sig rs l i = relabel (label l) (node_at rs i)

-- places of one signature have one label
abbrev pub Closed : List TermRecord → ℕ → List ℕ → Type 0
Closed rs n l = (i j : ℕ) → i < n → j < n → sig rs l i ≡ sig rs l j → label l i ≡ label l j

-- a label is at most its place, and is its own label
pub record Rooted (n : ℕ) (l : List ℕ) : Type 0 where
  pub low : (i : ℕ) → i < n → label l i ≤ i
  pub root : (i : ℕ) → i < n → label l (label l i) ≡ label l i

-- the congruence joins each place with its label
abbrev pub Forced : List TermRecord → ℕ → List Literal → List ℕ → Type 0
Forced rs n cs l = (i : ℕ) → i < n → Congruent cs (term_at rs i) (term_at rs (label l i))

-- every equation joins its labels
abbrev pub Meets : List Condition → List ℕ → Type 0
Meets conds l = (k : ℕ) → k < length conds → (get_or conds k no_condition).sign ≡ Equal → label l (get_or conds k no_condition).left ≡ label l (get_or conds k no_condition).right

-- a disequation between places of one label
abbrev pub Broken : List Condition → List ℕ → Type 0
Broken conds l =
    (k : ℕ) × (k < length conds) × ((get_or conds k no_condition).sign ≡ Different) × (label l (get_or conds k no_condition).left ≡ label l (get_or conds k no_condition).right)

-- labels that closure has come to an end with
pub record Settled (rs : List TermRecord) (n : ℕ) (conds : List Condition) (l : List ℕ) : Type 0 where
  pub rooted : Rooted n l
  pub closed : Closed rs n l
  pub forced : Forced rs n (literals rs conds) l
  pub meets : Meets conds l

-- labels past the first n are as they were
abbrev pub Spare : ℕ → List ℕ → List ℕ → Type 0
Spare n l l' = (k : ℕ) → n ≤ k → label l' k ≡ label l k

-- one label takes another's place
abbrev pub merge : ℕ → ℕ → ℕ → ℕ
merge lo hi x = cond (x == hi) lo x

abbrev pub Merged : ℕ → ℕ → ℕ → List ℕ → List ℕ → Type 0
Merged n lo hi l l' = ((k : ℕ) → k < n → label l' k ≡ merge lo hi (label l k)) × Spare n l l'

-- joining places a and b: the larger label gives way to the smaller, unless they are one already
abbrev pub Joined : ℕ → ℕ → ℕ → List ℕ → List ℕ → Bool → Type 0
Joined n a b l l' r =
    MatchBool r ((label l a ≢ label l b) × Merged n (min (label l a) (label l b)) (max (label l a) (label l b)) l l') ((label l a ≡ label l b) × (l' ≡ l))

-- labels l grew to l' by j joins, each of them forced by any equations that force the joins of l
pub record Grown (rs : List TermRecord) (n : ℕ) (l l' : List ℕ) (j : ℕ) : Type 0 where
  pub rooted : Rooted n l'
  pub coarser : (i k : ℕ) → i < n → k < n → label l i ≡ label l k → label l' i ≡ label l' k
  pub forced : (cs : List Literal) → Forced rs n cs l → Forced rs n cs l'
  pub counted : j + classes n l' ≡ classes n l
  pub spare : Spare n l l'

-- a bucket of the signature table
abbrev pub bucket_of : Node → ℕ
bucket_of (Name x) = x
bucket_of (Constant f) = (f * 7 + 97) % 1024
bucket_of (Unary f a) = (f * 61 + a * 5 + 193) % 1024
bucket_of (Binary f a b) = (f * 61 + a * 37 + b * 5 + 389) % 1024
bucket_of (Ternary f a b c) = (f * 61 + a * 151 + b * 37 + c * 5 + 769) % 1024

-- place j stands on the chain from a place
pub data Reaches (next : List (Option ℕ)) : Option ℕ → ℕ → Type 0 where
  here : (j : ℕ) → Reaches next (Some j) j
  there : (k : ℕ) {j : ℕ} → Reaches next (slice_index_or next k None) j → Reaches next (Some k) j

-- a chain begins below n
abbrev pub Under : ℕ → Option ℕ → Type 0
Under n None = Unit {0}
Under n (Some j) = j < n

-- chains go down, and begin below n
pub record Chains (heads next : List (Option ℕ)) (n : ℕ) : Type 0 where
  pub begin : (b : ℕ) → Under n (slice_index_or heads b None)
  pub down : (k : ℕ) → Under k (slice_index_or next k None)

-- each of the first i places has one of its signature on the chain of its bucket
abbrev pub Tabled : List TermRecord → List ℕ → List (Option ℕ) → List (Option ℕ) → ℕ → Type 0
Tabled rs l heads next i =
    (j : ℕ) → j < i → (k : ℕ) × (k < i) × (sig rs l k ≡ sig rs l j) × Reaches next (slice_index_or heads (bucket_of (sig rs l k)) None) k

-- how far up a chain begins
abbrev pub rank : Option ℕ → ℕ
rank None = 0
rank (Some j) = suc j

-- what the table and the labels know of the first i places
abbrev pub Swept : List TermRecord → List ℕ → List (Option ℕ) → List (Option ℕ) → ℕ → Type 0
Swept rs l heads next i = Tabled rs l heads next i × Closed rs i l

abbrev pub flag : Bool → ℕ
flag b = cond b 1 0

-- a condition taken in: an equation joins its places
abbrev pub AssumedAs : Sign → ℕ → ℕ → ℕ → List ℕ → List ℕ → Bool → Type 0
AssumedAs Equal n a b l l' r = Joined n a b l l' r
AssumedAs Different n a b l l' r = (l' ≡ l) × (r ≡ false)

abbrev pub Assumed : ℕ → Condition → List ℕ → List ℕ → Bool → Type 0
Assumed n c l l' r = AssumedAs c.sign n c.left c.right l l' r

-- the first i conditions taken in, with j joins
pub record Assuming (rs : List TermRecord) (n : ℕ) (conds : List Condition) (old l : List ℕ) (j i : ℕ) : Type 0 where
  pub rooted : Rooted n l
  pub forced : Forced rs n (literals rs conds) l
  pub meets : (k : ℕ) → k < i → (get_or conds k no_condition).sign ≡ Equal → label l (get_or conds k no_condition).left ≡ label l (get_or conds k no_condition).right
  pub counted : j + classes n l ≡ n
  pub spare : Spare n old l

abbrev pub opposite : Sign → Sign
opposite Equal = Different
opposite Different = Equal

-- the condition that is true exactly where this one is not
abbrev pub negated : Condition → Condition
negated c = record { left = c.left; right = c.right; sign = opposite c.sign }
