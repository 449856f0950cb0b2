-- The terms that the records of a bank stand for, what holds of a bank that the calls made, and what interning answers.
-- Assumes nothing.
use Rattle.std.specs.Prelude.{◌≡◌, ℕ, zero, suc, ◌+◌, ◌^◌, ◌<◌, ◌≤◌, min, max, ◌⊎◌, List, length, get_or, Ok, Err, Result, ◌≢◌, bit_or, slice_index_or, slice_set}
use Rattle.fault.specs.declared.TableFault.{TableFault}
use Rattle.fault.specs.declared.TableFault.TheVariants.{BadMemory, TermsExhausted}
use Rattle.terms.specs.declared.Node.{Node}
use Rattle.terms.specs.declared.Node.TheVariants.{Name, Constant, Unary, Binary, Ternary}
use Rattle.terms.specs.declared.TermRecord.{TermRecord}
use Rattle.terms.specs.declared.Condition.{Condition}
use Rattle.terms.specs.Terms.{Term, name, constant, unary, binary, ternary, height, name_set, Literal}

abbrev pub no_record : TermRecord
no_record = record { node = Name 0; height = 0; names = 0 }

abbrev pub node_at : List TermRecord → ℕ → Node
node_at rs i = (get_or rs i no_record).node

-- a node names terms by places below n, and one of the 32 names
abbrev pub Fit : ℕ → Node → Type 0
Fit n (Name x) = x < 32
Fit n (Constant f) = Unit {0}
Fit n (Unary f a) = a < n
Fit n (Binary f a b) = (a < n) × (b < n)
Fit n (Ternary f a b c) = (a < n) × (b < n) × (c < n)

-- the term of a node, from the terms of the places
abbrev pub term_of : (ℕ → Term) → Node → Term
term_of at (Name x) = name x
term_of at (Constant f) = constant f
term_of at (Unary f a) = unary f (at a)
term_of at (Binary f a b) = binary f (at a) (at b)
term_of at (Ternary f a b c) = ternary f (at a) (at b) (at c)

-- a node with each place a in it made `to a`
abbrev pub relabel : (ℕ → ℕ) → Node → Node
relabel to (Name x) = Name x
relabel to (Constant f) = Constant f
relabel to (Unary f a) = Unary f (to a)
relabel to (Binary f a b) = Binary f (to a) (to b)
relabel to (Ternary f a b c) = Ternary f (to a) (to b) (to c)

-- the term of place i, unfolded so many levels deep
abbrev pub unfolded : ℕ → List TermRecord → ℕ → Term
unfolded zero rs i = name 0
unfolded (suc k) rs i = term_of (unfolded k rs) (node_at rs i)

-- the term that place i stands for: arguments have lower places, so i + 1 levels are all
abbrev pub term_at : List TermRecord → ℕ → Term
term_at rs i = unfolded (suc i) rs i

abbrev pub literal_of : List TermRecord → Condition → Literal
literal_of rs c = record { left = term_at rs c.left; right = term_at rs c.right; sign = c.sign }

-- the first n records have their arguments below them
pub record Ordered (rs : List TermRecord) (n : ℕ) : Type 0 where
  pub inside : n ≤ length rs
  pub fit : (i : ℕ) → i < n → Fit i (node_at rs i)

-- no term of the first n is t
abbrev pub Absent : List TermRecord → ℕ → Term → Type 0
Absent rs n t = (k : ℕ) → k < n → term_at rs k ≢ t

-- no node of the first n is this one
abbrev pub Lacks : List TermRecord → ℕ → Node → Type 0
Lacks rs n node = (k : ℕ) → k < n → node_at rs k ≢ node

-- the first place at which a node can stand: above its arguments
abbrev pub floor : Node → ℕ
floor (Name x) = 0
floor (Constant f) = 0
floor (Unary f a) = a + 1
floor (Binary f a b) = max a b + 1
floor (Ternary f a b c) = max a (max b c) + 1

-- no node of the first n is this one, from the first place on at which it can stand
abbrev pub Misses : List TermRecord → ℕ → Node → Type 0
Misses rs n node = (k : ℕ) → floor node ≤ k → k < n → node_at rs k ≢ node

-- the lowest place of a node
abbrev pub LowestAt : List TermRecord → ℕ → Node → ℕ → Type 0
LowestAt rs n node i = (i < n) × (node_at rs i ≡ node) × Lacks rs i node

-- the lowest place of a node, from the first place on at which it can stand
abbrev pub LowestAbove : List TermRecord → ℕ → Node → ℕ → Type 0
LowestAbove rs n node i = (floor node ≤ i) × (i < n) × (node_at rs i ≡ node) × Misses rs i node

-- a bank of n terms: subterms first, each term once, with its height and names
pub record Bank (rs : List TermRecord) (n : ℕ) : Type 0 where
  pub ordered : Ordered rs n
  pub few : n ≤ 512
  pub once : (i j : ℕ) → i < n → j < n → term_at rs i ≡ term_at rs j → i ≡ j
  pub heights : (i : ℕ) → i < n → (get_or rs i no_record).height ≡ height (term_at rs i)
  pub names : (i : ℕ) → i < n → (get_or rs i no_record).names ≡ name_set (term_at rs i)

-- the first n places hold the same terms in both
abbrev pub Stays : ℕ → List TermRecord → List TermRecord → Type 0
Stays n rs rs' = (k : ℕ) → k < n → (slice_index_or rs' k no_record ≡ slice_index_or rs k no_record) × (term_at rs' k ≡ term_at rs k)

-- a bank with more terms, the ones before in their places
pub record Extends (rs : List TermRecord) (n : ℕ) (rs' : List TermRecord) (n' : ℕ) : Type 0 where
  pub bank : Bank rs' n'
  pub more : n ≤ n'
  pub stays : Stays n rs rs'

abbrev pub room : List TermRecord → ℕ
room rs = min 512 (length rs)

-- what interning a term in a bank answers, and the bank after it: its place, new exactly where it was absent,
-- or a refusal exactly where it is absent and no room is left
abbrev pub Interned : List TermRecord → ℕ → Term → List TermRecord → ℕ → Result ℕ TableFault → Type 0
Interned rs n t rs' n' (Ok i) =
    Bank rs' n' × Stays n rs rs' × (i < n') × (term_at rs' i ≡ t) × (((i < n) × (n' ≡ n)) ⊎ ((i ≡ n) × (n' ≡ n + 1) × Absent rs n t))
Interned rs n t rs' n' (Err e) = (e ≡ TermsExhausted) × (room rs ≤ n) × Absent rs n t

-- the height and the names of a node, from those of the places
abbrev pub height_of : (ℕ → ℕ) → Node → ℕ
height_of h (Name x) = 0
height_of h (Constant f) = 0
height_of h (Unary f a) = suc (h a)
height_of h (Binary f a b) = suc (max (h a) (h b))
height_of h (Ternary f a b c) = suc (max (h a) (max (h b) (h c)))

abbrev pub names_of : (ℕ → ℕ) → Node → ℕ
names_of s (Name x) = 2 ^ x
names_of s (Constant f) = 0
names_of s (Unary f a) = s a
names_of s (Binary f a b) = bit_or (s a) (s b)
names_of s (Ternary f a b c) = bit_or (s a) (bit_or (s b) (s c))

-- the record of a node, whatever the bank holds: a height stops at 65535
abbrev pub record_of : List TermRecord → Node → TermRecord
record_of rs node =
    record { node = node; height = min 65535 (height_of (λ a. (get_or rs a no_record).height) node); names = names_of (λ a. (get_or rs a no_record).names) node }

-- the record at place i is that of its node, which is over places below i
abbrev pub Measured : List TermRecord → ℕ → Type 0
Measured rs i =
    (i < length rs) × Fit i (node_at rs i) × ((get_or rs i no_record).height ≡ (record_of rs (node_at rs i)).height) × ((get_or rs i no_record).names ≡ (record_of rs (node_at rs i)).names)

-- the same by the term of a node over the bank's terms
abbrev pub InternedNode : List TermRecord → ℕ → Node → List TermRecord → ℕ → Result ℕ TableFault → Type 0
InternedNode rs n node rs' n' r = Bank rs n → Fit n node → Interned rs n (term_of (term_at rs) node) rs' n' r

-- the record of a node written behind the others
abbrev pub Appended : List TermRecord → ℕ → Node → List TermRecord → ℕ → ℕ → Type 0
Appended rs n node rs' n' i = (i ≡ n) × (n < room rs) × (rs' ≡ slice_set rs n (record_of rs node)) × (n' ≡ n + 1)

-- no room for one more, and nothing changed
abbrev pub RoomExhausted : List TermRecord → ℕ → List TermRecord → ℕ → TableFault → Type 0
RoomExhausted rs n rs' n' e = (e ≡ TermsExhausted) × (room rs ≤ n) × (rs' ≡ rs) × (n' ≡ n)

-- interning in any memory, by nodes: found at the lowest place, or written behind the others where it is at no place, or refused with
-- nothing changed
abbrev pub Filed : List TermRecord → ℕ → Node → List TermRecord → ℕ → Result ℕ TableFault → Type 0
Filed rs n node rs' n' (Ok i) =
    (n ≤ length rs) × Fit n node
    × ((LowestAt rs n node i × (rs' ≡ rs) × (n' ≡ n)) ⊎ ((i ≡ n) × (n < room rs) × Lacks rs n node × (rs' ≡ slice_set rs n (record_of rs node)) × (n' ≡ n + 1)))
Filed rs n node rs' n' (Err e) =
    (rs' ≡ rs) × (n' ≡ n)
    × (((e ≡ TermsExhausted) × (n ≤ length rs) × Fit n node × (room rs ≤ n) × Lacks rs n node) ⊎ ((e ≡ BadMemory) × (n ≤ length rs → Fit n node → ⊥)))

-- the same where the node is searched only from the first place on at which it can stand: in a bank it stands at no other
abbrev pub FiledAbove : List TermRecord → ℕ → Node → List TermRecord → ℕ → Result ℕ TableFault → Type 0
FiledAbove rs n node rs' n' (Ok i) =
    (n ≤ length rs) × Fit n node
    × ((LowestAbove rs n node i × (rs' ≡ rs) × (n' ≡ n)) ⊎ ((i ≡ n) × (n < room rs) × Misses rs n node × (rs' ≡ slice_set rs n (record_of rs node)) × (n' ≡ n + 1)))
FiledAbove rs n node rs' n' (Err e) =
    (rs' ≡ rs) × (n' ≡ n)
    × (((e ≡ TermsExhausted) × (n ≤ length rs) × Fit n node × (room rs ≤ n) × Misses rs n node) ⊎ ((e ≡ BadMemory) × (n ≤ length rs → Fit n node → ⊥)))

-- in a bank this is what filing is
abbrev pub FiledInBank : List TermRecord → ℕ → Node → List TermRecord → ℕ → Result ℕ TableFault → Type 0
FiledInBank rs n node rs' n' r = Bank rs n → Filed rs n node rs' n' r
