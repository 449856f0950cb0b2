-- The bytes that say something are just those that a record is written as.
use Rattle.std.proofs.Common.{◌≡◌, ℕ, zero, suc, true, cond, eqb, List, [], ◌∷◌, length, get_or, Some, None, Option, sym, refl, ap, ◌∙◌, arith}
use Rattle.std.proofs.lemmas.Bool.Decides.{nat_tests}
use Rattle.sheet.specs.declared.kind.Kind.{Kind}
use Rattle.sheet.specs.declared.syntax.Record.{Record}
use Rattle.sheet.specs.declared.syntax.Term.{Term}
use Rattle.reader.specs.Decode.{decoded}
use Rattle.sheet.specs.Rules.{keeps}
use Rattle.sheet.specs.System.{System}
use Rattle.sheet.specs.Format.{letter, body_length, kind_of, body_of, written}

-- n elements from the place i on
abbrev from : ℕ → ℕ → List ℕ → List ℕ
from i zero b = []
from i (suc n) b = get_or b i 0 ∷ from (suc i) n b

from-later : (x : ℕ) (xs : List ℕ) (i n : ℕ) → from (suc i) n (x ∷ xs) ≡ from i n xs
from-later x xs i zero = refl
from-later x xs i (suc n) = ap (λ l. get_or xs i 0 ∷ l) (from-later x xs (suc i) n)

-- a list of a known length, by its elements
exact : (b : List ℕ) (n : ℕ) → length b ≡ n → b ≡ from 0 n b
exact [] n e = rw (sym e) refl
exact (x ∷ xs) n e = rw (sym e) (ap (λ l. x ∷ l) (exact xs (length xs) refl ∙ sym (from-later x xs 0 (length xs))))

pub decode_writes : (s : System) (k : Kind) (b : List ℕ) (x : Record) → length b ≡ body_length k → decoded s k b ≡ Some x → written x ≡ letter k ∷ b
decode_writes s Kind.Bit b x n e = grind (arith, nat_tests, exact b 1 n)
decode_writes s Kind.Symbol b x n e = grind (arith, exact b 1 n)
decode_writes s Kind.Reading b x n e = grind (arith, nat_tests, exact b 2 n)
decode_writes s Kind.Input b x n e = grind (arith, exact b 0 n)
decode_writes s Kind.Term b x n e = grind (arith, nat_tests, exact b 5 n)
decode_writes s Kind.Question b x n e = grind (arith, exact b 2 n)
decode_writes s Kind.Claim b x n e = grind (arith, exact b 2 n)
decode_writes s Kind.Formula b x n e = grind (arith, nat_tests, exact b 3 n)
decode_writes s Kind.Choice b x n e = grind (arith, nat_tests, exact b 4 n)
decode_writes s Kind.NextBit b x n e = grind (arith, exact b 2 n)
decode_writes s Kind.NextReading b x n e = grind (arith, exact b 2 n)
decode_writes s Kind.Invariant b x n e = grind (arith, exact b 1 n)
decode_writes s Kind.Bound b x n e = grind (arith, exact b 1 n)
decode_writes s Kind.End b x n e = grind arith

pub decoded_body : (s : System) (x : Record) → keeps s x ≡ true → decoded s (kind_of x) (body_of x) ≡ Some x
decoded_body s (Record.Bit b) h = grind arith
decoded_body s (Record.Symbol a) h = refl
decoded_body s (Record.Reading w) h = grind arith
decoded_body s Record.Input h = refl
decoded_body s (Record.Term (Term.Reading r)) h = refl
decoded_body s (Record.Term (Term.Input i)) h = refl
decoded_body s (Record.Term (Term.Apply f x)) h = grind (arith, nat_tests)
decoded_body s (Record.Question e) h = refl
decoded_body s (Record.Claim e) h = refl
decoded_body s (Record.Formula f) h = grind arith
decoded_body s (Record.Choice k) h = grind arith
decoded_body s (Record.NextBit b f) h = refl
decoded_body s (Record.NextReading r k) h = refl
decoded_body s (Record.Invariant f) h = refl
decoded_body s (Record.Bound h') h = refl

-- the kind that a letter begins
abbrev pub kind_at : ℕ → Option Kind
kind_at c = cond (eqb c 66) (Some Kind.Bit) (cond (eqb c 70) (Some Kind.Symbol) (cond (eqb c 82) (Some Kind.Reading) (cond (eqb c 73) (Some Kind.Input) (cond (eqb c 84) (Some Kind.Term) (cond (eqb c 81) (Some Kind.Question) (cond (eqb c 67) (Some Kind.Claim) (cond (eqb c 76) (Some Kind.Formula) (cond (eqb c 75) (Some Kind.Choice) (cond (eqb c 78) (Some Kind.NextBit) (cond (eqb c 77) (Some Kind.NextReading) (cond (eqb c 86) (Some Kind.Invariant) (cond (eqb c 72) (Some Kind.Bound) (cond (eqb c 69) (Some Kind.End) None)))))))))))))

pub kind_at_letter : (k : Kind) → kind_at (letter k) ≡ Some k
kind_at_letter k = grind (arith, nat_tests)

pub letter-same : (j k : Kind) → letter j ≡ letter k → j ≡ k
letter-same j k e =
    let q : ◌≡◌ {A = Option Kind} (Some j) (Some k) = sym (kind_at_letter j) ∙ (ap kind_at e ∙ kind_at_letter k) in
    cc

pub length-body_of : (x : Record) → length (body_of x) ≡ body_length (kind_of x)
length-body_of x = grind arith

pub decode_finds : (s : System) (k : Kind) (b : List ℕ) (x : Record) → written x ≡ letter k ∷ b → keeps s x ≡ true → decoded s k b ≡ Some x
decode_finds s k b x e h =
    let j : kind_of x ≡ k = letter-same (kind_of x) k cc in
    let found = decoded_body s x h in
    grind arith
