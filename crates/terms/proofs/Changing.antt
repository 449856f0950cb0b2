-- Replacing and renaming, node by node (what a walk over the bank's places needs, each place once) and by values.
use Rattle.std.proofs.Common.{◌≡◌, ℕ, cond, [], ◌∷◌, sym, refl, ap, ◌∙◌, ⊎_elim}
use Rattle.std.proofs.lemmas.Bool.{cases_Bool, cond-true, cond-false}
use Rattle.terms.specs.declared.Node.{Node}
use Rattle.terms.specs.declared.Node.TheVariants.{Name, Constant, Unary, Binary, Ternary}
use Rattle.terms.specs.Terms.{Term, name, constant, unary, binary, ternary, Interpretation, eval, same, replaced, renamed}
use Rattle.terms.specs.Bank.{term_of, relabel}
use Rattle.terms.proofs.Same.{same_true}

pub term_of-relabel : (at : ℕ → Term) (to : ℕ → ℕ) (node : Node) → term_of at (relabel to node) ≡ term_of (λ a. at (to a)) node
term_of-relabel at to (Name x) = refl
term_of-relabel at to (Constant f) = refl
term_of-relabel at to (Unary f a) = refl
term_of-relabel at to (Binary f a b) = refl
term_of-relabel at to (Ternary f a b c) = refl

pub replaced_of : (old new : Term) (at : ℕ → Term) (node : Node) → replaced old new (term_of at node) ≡ cond (same (term_of at node) old) new (term_of (λ a. replaced old new (at a)) node)
replaced_of old new at (Name x) = refl
replaced_of old new at (Constant f) = refl
replaced_of old new at (Unary f a) = refl
replaced_of old new at (Binary f a b) = refl
replaced_of old new at (Ternary f a b c) = refl

-- a node with its name, where it is one, renamed
abbrev pub renamed_node : (ℕ → ℕ) → Node → Node
renamed_node to (Name x) = Name (to x)
renamed_node to (Constant f) = Constant f
renamed_node to (Unary f a) = Unary f a
renamed_node to (Binary f a b) = Binary f a b
renamed_node to (Ternary f a b c) = Ternary f a b c

pub renamed_of : (to : ℕ → ℕ) (at : ℕ → Term) (node : Node) → renamed to (term_of at node) ≡ term_of (λ a. renamed to (at a)) (renamed_node to node)
renamed_of to at (Name x) = refl
renamed_of to at (Constant f) = refl
renamed_of to at (Unary f a) = refl
renamed_of to at (Binary f a b) = refl
renamed_of to at (Ternary f a b c) = refl

replaced_here : (m : Interpretation) (old new t u : Term) → eval m new ≡ eval m old → eval m u ≡ eval m t → eval m (cond (same t old) new u) ≡ eval m t
replaced_here m old new t u e h =
    ⊎_elim (λ yes'. ap (eval m) (cond-true (same t old) new u yes') ∙ (e ∙ ap (eval m) (sym (same_true t old yes')))) (λ no'. ap (eval m) (cond-false (same t old) new u no') ∙ h) (cases_Bool (same t old))

-- replacing a term by one of the same value changes no value
pub eval-replaced : (m : Interpretation) (old new : Term) → eval m new ≡ eval m old → (t : Term) → eval m (replaced old new t) ≡ eval m t
eval-replaced m old new e (name x) = replaced_here m old new (name x) (name x) e refl
eval-replaced m old new e (constant f) = replaced_here m old new (constant f) (constant f) e refl
eval-replaced m old new e (unary f a) =
    let p = eval-replaced m old new e a in replaced_here m old new (unary f a) (unary f (replaced old new a)) e (cc)
eval-replaced m old new e (binary f a b) =
    let p = eval-replaced m old new e a in
    let q = eval-replaced m old new e b in
    replaced_here m old new (binary f a b) (binary f (replaced old new a) (replaced old new b)) e (cc)
eval-replaced m old new e (ternary f a b c) =
    let p = eval-replaced m old new e a in
    let q = eval-replaced m old new e b in
    let r = eval-replaced m old new e c in
    replaced_here m old new (ternary f a b c) (ternary f (replaced old new a) (replaced old new b) (replaced old new c)) e (cc)

-- an interpretation with the names' values moved
abbrev pub moved : (ℕ → ℕ) → Interpretation → Interpretation
moved to m =
    record { meaning = m.meaning; values = λ x. m.values (to x); meaning_small = m.meaning_small; values_small = λ x. m.values_small (to x) }

-- a renamed term has the value of the term under the moved values
pub eval-renamed : (m : Interpretation) (to : ℕ → ℕ) (t : Term) → eval m (renamed to t) ≡ eval (moved to m) t
eval-renamed m to (name x) = refl
eval-renamed m to (constant f) = refl
eval-renamed m to (unary f a) = let p = eval-renamed m to a in ap (λ u. m.meaning f (u ∷ [])) p
eval-renamed m to (binary f a b) =
    ap (λ u. m.meaning f (u ∷ (eval m (renamed to b) ∷ []))) (eval-renamed m to a) ∙ ap (λ u. m.meaning f (eval (moved to m) a ∷ (u ∷ []))) (eval-renamed m to b)
eval-renamed m to (ternary f a b c) =
    ap (λ u. m.meaning f (u ∷ (eval m (renamed to b) ∷ (eval m (renamed to c) ∷ [])))) (eval-renamed m to a)
    ∙ (ap (λ u. m.meaning f (eval (moved to m) a ∷ (u ∷ (eval m (renamed to c) ∷ [])))) (eval-renamed m to b)
    ∙ ap (λ u. m.meaning f (eval (moved to m) a ∷ (eval (moved to m) b ∷ (u ∷ [])))) (eval-renamed m to c))
