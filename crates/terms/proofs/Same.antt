-- The test `same` decides whether two terms are the same, and terms of different nodes differ.
use Rattle.std.proofs.Common.{◌≡◌, ℕ, ◌<◌, true, refl, ap}
use Rattle.std.proofs.lemmas.Bool.{eqb-true, eq-eqb, and_parts, and_from}
use Rattle.terms.specs.declared.Node.{Node}
use Rattle.terms.specs.declared.Node.TheVariants.{Name, Constant, Unary, Binary, Ternary}
use Rattle.terms.specs.Terms.{Term, name, constant, unary, binary, ternary, same}
use Rattle.terms.specs.Bank.{Fit, term_of}

pub same_self : (t : Term) → same t t ≡ true
same_self (name x) = eq-eqb x x refl
same_self (constant f) = eq-eqb f f refl
same_self (unary f a) = and_from _ _ (eq-eqb f f refl) (same_self a)
same_self (binary f a b) = and_from _ _ (eq-eqb f f refl) (and_from _ _ (same_self a) (same_self b))
same_self (ternary f a b c) = and_from _ _ (eq-eqb f f refl) (and_from _ _ (same_self a) (and_from _ _ (same_self b) (same_self c)))

pub same_true : (t u : Term) → same t u ≡ true → t ≡ u
same_true (name f) (name g) yes' = ap name (eqb-true f g yes')
same_true (name f) (constant g) yes' = cc
same_true (name f) (unary g d) yes' = cc
same_true (name f) (binary g d e) yes' = cc
same_true (name f) (ternary g d e h) yes' = cc
same_true (constant f) (name g) yes' = cc
same_true (constant f) (constant g) yes' = ap constant (eqb-true f g yes')
same_true (constant f) (unary g d) yes' = cc
same_true (constant f) (binary g d e) yes' = cc
same_true (constant f) (ternary g d e h) yes' = cc
same_true (unary f a) (name g) yes' = cc
same_true (unary f a) (constant g) yes' = cc
same_true (unary f a) (unary g d) yes' = let p = and_parts _ _ yes' in let e0 = eqb-true f g p.0 in let q0 = same_true a d p.1 in cc
same_true (unary f a) (binary g d e) yes' = cc
same_true (unary f a) (ternary g d e h) yes' = cc
same_true (binary f a b) (name g) yes' = cc
same_true (binary f a b) (constant g) yes' = cc
same_true (binary f a b) (unary g d) yes' = cc
same_true (binary f a b) (binary g d e) yes' = let p = and_parts _ _ yes' in let e0 = eqb-true f g p.0 in let p0 = and_parts _ _ p.1 in let q0 = same_true a d p0.0 in let q1 = same_true b e p0.1 in cc
same_true (binary f a b) (ternary g d e h) yes' = cc
same_true (ternary f a b c) (name g) yes' = cc
same_true (ternary f a b c) (constant g) yes' = cc
same_true (ternary f a b c) (unary g d) yes' = cc
same_true (ternary f a b c) (binary g d e) yes' = cc
same_true (ternary f a b c) (ternary g d e h) yes' = let p = and_parts _ _ yes' in let e0 = eqb-true f g p.0 in let p0 = and_parts _ _ p.1 in let q0 = same_true a d p0.0 in let p1 = and_parts _ _ p0.1 in let q1 = same_true b e p1.0 in let q2 = same_true c h p1.1 in cc

-- where different places hold different terms, nodes over these places with one term are one node
pub node_from_term : (at : ℕ → Term) (n : ℕ) (u v : Node) → Fit n u → Fit n v → ((i j : ℕ) → i < n → j < n → at i ≡ at j → i ≡ j) → term_of at u ≡ term_of at v → u ≡ v
node_from_term at n (Name f) (Name g) p q once is = let e0 : f ≡ g = cc in ap Name e0
node_from_term at n (Name f) (Constant g) p q once is = cc
node_from_term at n (Name f) (Unary g d) p q once is = cc
node_from_term at n (Name f) (Binary g d e) p q once is = cc
node_from_term at n (Name f) (Ternary g d e h) p q once is = cc
node_from_term at n (Constant f) (Name g) p q once is = cc
node_from_term at n (Constant f) (Constant g) p q once is = let e0 : f ≡ g = cc in ap Constant e0
node_from_term at n (Constant f) (Unary g d) p q once is = cc
node_from_term at n (Constant f) (Binary g d e) p q once is = cc
node_from_term at n (Constant f) (Ternary g d e h) p q once is = cc
node_from_term at n (Unary f a) (Name g) p q once is = cc
node_from_term at n (Unary f a) (Constant g) p q once is = cc
node_from_term at n (Unary f a) (Unary g d) p q once is = let e0 : f ≡ g = cc in let t0 : at a ≡ at d = cc in let e1 = once a d p q t0 in cc
node_from_term at n (Unary f a) (Binary g d e) p q once is = cc
node_from_term at n (Unary f a) (Ternary g d e h) p q once is = cc
node_from_term at n (Binary f a b) (Name g) p q once is = cc
node_from_term at n (Binary f a b) (Constant g) p q once is = cc
node_from_term at n (Binary f a b) (Unary g d) p q once is = cc
node_from_term at n (Binary f a b) (Binary g d e) p q once is = let e0 : f ≡ g = cc in let t0 : at a ≡ at d = cc in let e1 = once a d p.0 q.0 t0 in let t1 : at b ≡ at e = cc in let e2 = once b e p.1 q.1 t1 in cc
node_from_term at n (Binary f a b) (Ternary g d e h) p q once is = cc
node_from_term at n (Ternary f a b c) (Name g) p q once is = cc
node_from_term at n (Ternary f a b c) (Constant g) p q once is = cc
node_from_term at n (Ternary f a b c) (Unary g d) p q once is = cc
node_from_term at n (Ternary f a b c) (Binary g d e) p q once is = cc
node_from_term at n (Ternary f a b c) (Ternary g d e h) p q once is = let e0 : f ≡ g = cc in let t0 : at a ≡ at d = cc in let e1 = once a d p.0 q.0 t0 in let t1 : at b ≡ at e = cc in let e2 = once b e p.1 q.1 t1 in let t2 : at c ≡ at h = cc in let e3 = once c h p.2 q.2 t2 in cc
