-- Which terms places stand for: a place's term is made of its arguments' terms, and depends on nothing behind it.
use Rattle.std.proofs.Common.{◌≡◌, ℕ, zero, suc, ◌<◌, ◌≤◌, List, get_or, refl, ap, ◌∙◌, arith}
use Rattle.terms.specs.declared.Node.{Node}
use Rattle.terms.specs.declared.Node.TheVariants.{Name, Constant, Unary, Binary, Ternary}
use Rattle.terms.specs.declared.TermRecord.{TermRecord}
use Rattle.terms.specs.Terms.{Term, unary, ternary, height, name_set}
use Rattle.terms.specs.Bank.{Fit, node_at, no_record, term_of, unfolded, term_at, Ordered, height_of, names_of}

pub ternary_same : (f : ℕ) {a b c x y z : Term} → a ≡ x → b ≡ y → c ≡ z → ternary f a b c ≡ ternary f x y z
ternary_same f p q r = cc

pub term_of-same : (at at' : ℕ → Term) (n : ℕ) (node : Node) → Fit n node → ((a : ℕ) → a < n → at a ≡ at' a) → term_of at node ≡ term_of at' node
term_of-same at at' n (Name x) fit e = refl
term_of-same at at' n (Constant f) fit e = refl
term_of-same at at' n (Unary f a) fit e = ap (unary f) (e a fit)
term_of-same at at' n (Binary f a b) fit e = let p = e a fit.0 in let q = e b fit.1 in cc
term_of-same at at' n (Ternary f a b c) fit e = ternary_same f (e a fit.0) (e b fit.1) (e c fit.2)

pub height-term_of : (at : ℕ → Term) (node : Node) → height (term_of at node) ≡ height_of (λ a. height (at a)) node
height-term_of at (Name x) = refl
height-term_of at (Constant f) = refl
height-term_of at (Unary f a) = refl
height-term_of at (Binary f a b) = refl
height-term_of at (Ternary f a b c) = refl

pub name_set-term_of : (at : ℕ → Term) (node : Node) → name_set (term_of at node) ≡ names_of (λ a. name_set (at a)) node
name_set-term_of at (Name x) = refl
name_set-term_of at (Constant f) = refl
name_set-term_of at (Unary f a) = refl
name_set-term_of at (Binary f a b) = refl
name_set-term_of at (Ternary f a b c) = refl

pub height_of-same : (h h' : ℕ → ℕ) (n : ℕ) (node : Node) → Fit n node → ((a : ℕ) → a < n → h a ≡ h' a) → height_of h node ≡ height_of h' node
height_of-same h h' n (Name x) fit e = refl
height_of-same h h' n (Constant f) fit e = refl
height_of-same h h' n (Unary f a) fit e = ap suc (e a fit)
height_of-same h h' n (Binary f a b) fit e = let p = e a fit.0 in let q = e b fit.1 in cc
height_of-same h h' n (Ternary f a b c) fit e = let p = e a fit.0 in let q = e b fit.1 in let r = e c fit.2 in cc

pub names_of_same : (s s' : ℕ → ℕ) (n : ℕ) (node : Node) → Fit n node → ((a : ℕ) → a < n → s a ≡ s' a) → names_of s node ≡ names_of s' node
names_of_same s s' n (Name x) fit e = refl
names_of_same s s' n (Constant f) fit e = refl
names_of_same s s' n (Unary f a) fit e = e a fit
names_of_same s s' n (Binary f a b) fit e = let p = e a fit.0 in let q = e b fit.1 in cc
names_of_same s s' n (Ternary f a b c) fit e = let p = e a fit.0 in let q = e b fit.1 in let r = e c fit.2 in cc

-- a node over arguments of height below n has a height of at most n
pub height_of-small : (h : ℕ → ℕ) (n : ℕ) (node : Node) → Fit n node → ((a : ℕ) → a < n → h a ≤ a) → height_of h node ≤ n
height_of-small h n (Name x) fit e = omega arith
height_of-small h n (Constant f) fit e = omega arith
height_of-small h n (Unary f a) fit e = omega (arith, e a fit)
height_of-small h n (Binary f a b) fit e = omega (arith, e a fit.0, e b fit.1)
height_of-small h n (Ternary f a b c) fit e = omega (arith, e a fit.0, e b fit.1, e c fit.2)

pub unfolded_enough : (rs : List TermRecord) (n : ℕ) → Ordered rs n → (k m i : ℕ) → i < n → i < k → i < m → unfolded k rs i ≡ unfolded m rs i
unfolded_enough rs n o zero m i lt p q = absurd (omega arith)
unfolded_enough rs n o (suc k) zero i lt p q = absurd (omega arith)
unfolded_enough rs n o (suc k) (suc m) i lt p q =
    term_of-same (unfolded k rs) (unfolded m rs) i (node_at rs i) (o.fit i lt) (λ a h. unfolded_enough rs n o k m a (omega arith) (omega arith) (omega arith))

-- a place's term is its node's, over the terms of the places
pub term_at-ordered : (rs : List TermRecord) (n : ℕ) → Ordered rs n → (i : ℕ) → i < n → term_at rs i ≡ term_of (term_at rs) (node_at rs i)
term_at-ordered rs n o i lt =
    term_of-same (unfolded i rs) (term_at rs) i (node_at rs i) (o.fit i lt) (λ a h. unfolded_enough rs n o i (suc a) a (omega arith) h (omega arith))

-- memory that agrees on the first n records has the same terms there
unfolded_stays : (rs rs' : List TermRecord) (n : ℕ) → Ordered rs n → ((k : ℕ) → k < n → get_or rs' k no_record ≡ get_or rs k no_record) → (k i : ℕ) → i < n → unfolded k rs' i ≡ unfolded k rs i
unfolded_stays rs rs' n o e zero i lt = refl
unfolded_stays rs rs' n o e (suc k) i lt =
    ap (λ r. term_of (unfolded k rs') r.node) (e i lt) ∙ term_of-same (unfolded k rs') (unfolded k rs) i (node_at rs i) (o.fit i lt) (λ a h. unfolded_stays rs rs' n o e k a (omega arith))

pub term_stays : (rs rs' : List TermRecord) (n : ℕ) → Ordered rs n → ((k : ℕ) → k < n → get_or rs' k no_record ≡ get_or rs k no_record) → (i : ℕ) → i < n → term_at rs' i ≡ term_at rs i
term_stays rs rs' n o e i lt = unfolded_stays rs rs' n o e (suc i) i lt

-- no term is higher than its place
pub height-small : (rs : List TermRecord) (n : ℕ) → Ordered rs n → (k i : ℕ) → i < k → i < n → height (term_at rs i) ≤ i
height-small rs n o zero i lt in' = absurd (omega arith)
height-small rs n o (suc k) i lt in' =
    rw (term_at-ordered rs n o i in', height-term_of (term_at rs) (node_at rs i)) (height_of-small (λ a. height (term_at rs a)) i (node_at rs i) (o.fit i in') (λ a h. height-small rs n o k a (omega arith) (omega arith)))
