-- Terms over uninterpreted symbols, what they mean, and conditions between them. Assumes nothing.
use Rattle.std.specs.Prelude.{◌≡◌, ℕ, suc, ◌^◌, ◌<◌, max, Bool, false, cond, ◌&&◌, ◌||◌, List, [], ◌∷◌, ◌==◌, bit_or}
use Rattle.std.specs.List.{AllByRecursion}
use Rattle.terms.specs.declared.Sign.{Sign}
use Rattle.terms.specs.declared.Sign.TheVariants.{Equal, Different}

-- a name, or a symbol over no, one, two or three terms
pub data Term : Type 0 where
  name : ℕ → Term
  constant : ℕ → Term
  unary : ℕ → Term → Term
  binary : ℕ → Term → Term → Term
  ternary : ℕ → Term → Term → Term → Term

-- what the symbols mean and which values the names have; a value is a number below 2^32
pub record Interpretation : Type 0 where
  pub meaning : ℕ → List ℕ → ℕ
  pub values : ℕ → ℕ
  pub meaning_small : (f : ℕ) (vs : List ℕ) → meaning f vs < 2 ^ 32
  pub values_small : (x : ℕ) → values x < 2 ^ 32

abbrev pub eval : Interpretation → Term → ℕ
eval m (name x) = m.values x
eval m (constant f) = m.meaning f []
eval m (unary f a) = m.meaning f (eval m a ∷ [])
eval m (binary f a b) = m.meaning f (eval m a ∷ (eval m b ∷ []))
eval m (ternary f a b c) = m.meaning f (eval m a ∷ (eval m b ∷ (eval m c ∷ [])))

-- a name or a constant has height 0, any other term is one higher than its highest argument
abbrev pub height : Term → ℕ
height (name x) = 0
height (constant f) = 0
height (unary f a) = suc (height a)
height (binary f a b) = suc (max (height a) (height b))
height (ternary f a b c) = suc (max (height a) (max (height b) (height c)))

-- whether name x stands in a term
abbrev pub occurs : ℕ → Term → Bool
occurs x (name y) = x == y
occurs x (constant f) = false
occurs x (unary f a) = occurs x a
occurs x (binary f a b) = occurs x a || occurs x b
occurs x (ternary f a b c) = occurs x a || (occurs x b || occurs x c)

-- the set of a term's names as a number: bit x is set where name x stands in it
abbrev pub name_set : Term → ℕ
name_set (name x) = 2 ^ x
name_set (constant f) = 0
name_set (unary f a) = name_set a
name_set (binary f a b) = bit_or (name_set a) (name_set b)
name_set (ternary f a b c) = bit_or (name_set a) (bit_or (name_set b) (name_set c))

-- whether two terms are the same
abbrev pub same : Term → Term → Bool
same (name x) (name y) = x == y
same (name x) (constant g) = false
same (name x) (unary g d) = false
same (name x) (binary g d e) = false
same (name x) (ternary g d e h) = false
same (constant f) (name y) = false
same (constant f) (constant g) = f == g
same (constant f) (unary g d) = false
same (constant f) (binary g d e) = false
same (constant f) (ternary g d e h) = false
same (unary f a) (name y) = false
same (unary f a) (constant g) = false
same (unary f a) (unary g d) = f == g && same a d
same (unary f a) (binary g d e) = false
same (unary f a) (ternary g d e h) = false
same (binary f a b) (name y) = false
same (binary f a b) (constant g) = false
same (binary f a b) (unary g d) = false
same (binary f a b) (binary g d e) = f == g && (same a d && same b e)
same (binary f a b) (ternary g d e h) = false
same (ternary f a b c) (name y) = false
same (ternary f a b c) (constant g) = false
same (ternary f a b c) (unary g d) = false
same (ternary f a b c) (binary g d e) = false
same (ternary f a b c) (ternary g d e h) = f == g && (same a d && (same b e && same c h))

-- a term with every `old` in it replaced by `new`, outermost first
abbrev pub replaced : Term → Term → Term → Term
replaced old new (name x) = cond (same (name x) old) new (name x)
replaced old new (constant f) = cond (same (constant f) old) new (constant f)
replaced old new (unary f a) = cond (same (unary f a) old) new (unary f (replaced old new a))
replaced old new (binary f a b) = cond (same (binary f a b) old) new (binary f (replaced old new a) (replaced old new b))
replaced old new (ternary f a b c) = cond (same (ternary f a b c) old) new (ternary f (replaced old new a) (replaced old new b) (replaced old new c))

-- a term with each name x in it made name `to x`
abbrev pub renamed : (ℕ → ℕ) → Term → Term
renamed to (name x) = name (to x)
renamed to (constant f) = constant f
renamed to (unary f a) = unary f (renamed to a)
renamed to (binary f a b) = binary f (renamed to a) (renamed to b)
renamed to (ternary f a b c) = ternary f (renamed to a) (renamed to b) (renamed to c)

-- two terms with = or ≠ between them
pub record Literal : Type 0 where
  pub left : Term
  pub right : Term
  pub sign : Sign

abbrev pub AreSigned : Sign → ℕ → ℕ → Type 0
AreSigned Equal a b = a ≡ b
AreSigned Different a b = a ≡ b → ⊥

-- an interpretation makes a literal true
abbrev pub Holds : Interpretation → Literal → Type 0
Holds m c = AreSigned c.sign (eval m c.left) (eval m c.right)

-- some interpretation makes all of them true
abbrev pub Sat : List Literal → Type 0
Sat cs = (m : Interpretation) × AllByRecursion (Holds m) cs

-- every interpretation that makes all of them true makes this one true
abbrev pub Entails : List Literal → Literal → Type 0
Entails cs goal = (m : Interpretation) → AllByRecursion (Holds m) cs → Holds m goal
