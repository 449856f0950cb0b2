-- The smallest congruence that holds the equations of a list of literals. Assumes nothing.
use Rattle.std.specs.Prelude.{◌≡◌, ℕ, List}
use Rattle.std.specs.List.{ContainsAt as Has}
use Rattle.terms.specs.declared.Sign.TheVariants.{Equal}
use Rattle.terms.specs.Terms.{Term, unary, binary, ternary, Literal}

pub data Congruent (cs : List Literal) : Term → Term → Type 0 where
  equation : (c : Literal) → Has cs c → c.sign ≡ Equal → Congruent cs c.left c.right
  itself : (t : Term) → Congruent cs t t
  turned : {s t : Term} → Congruent cs s t → Congruent cs t s
  chained : {s t u : Term} → Congruent cs s t → Congruent cs t u → Congruent cs s u
  unaries : (f : ℕ) {a d : Term} → Congruent cs a d → Congruent cs (unary f a) (unary f d)
  binaries : (f : ℕ) {a b d e : Term} → Congruent cs a d → Congruent cs b e → Congruent cs (binary f a b) (binary f d e)
  ternaries : (f : ℕ) {a b c d e h : Term} → Congruent cs a d → Congruent cs b e → Congruent cs c h → Congruent cs (ternary f a b c) (ternary f d e h)
