-- The written form of terms and conditions: `xN` a name, `sN` a constant, `sN(a,b,c)` a symbol over terms, and a line
-- for each condition, `TERM = TERM` or `TERM # TERM`. Assumes nothing.
use Rattle.std.specs.Prelude.{◌≡◌, ℕ, ◌<◌, List, [], ◌∷◌, ◌++◌, length, codes, decimal, slice_index_or}
use Rattle.std.specs.List.{flat_map}
use Rattle.terms.specs.declared.Sign.{Sign}
use Rattle.terms.specs.declared.Sign.TheVariants.{Equal, Different}
use Rattle.terms.specs.declared.Condition.{Condition}
use Rattle.closure.specs.Labels.{no_condition}
use Rattle.terms.specs.Terms.{Term, name, constant, unary, binary, ternary, Literal, Sat}
use Rattle.notation.specs.declared.document.Answer.{Answer}
use Rattle.notation.specs.declared.document.Answer.TheVariants.{Impossible, Possible, Full, Unreadable}

abbrev pub written : Term → List ℕ
written (name x) = 120 ∷ decimal x
written (constant f) = 115 ∷ decimal f
written (unary f a) = 115 ∷ (decimal f ++ (40 ∷ (written a ++ (41 ∷ []))))
written (binary f a b) = 115 ∷ (decimal f ++ (40 ∷ (written a ++ (44 ∷ (written b ++ (41 ∷ []))))))
written (ternary f a b c) = 115 ∷ (decimal f ++ (40 ∷ (written a ++ (44 ∷ (written b ++ (44 ∷ (written c ++ (41 ∷ []))))))))

abbrev pub sign_text : Sign → List ℕ
sign_text Equal = codes " = "
sign_text Different = codes " # "

abbrev pub line : Literal → List ℕ
line c = written c.left ++ (sign_text c.sign ++ (written c.right ++ (10 ∷ [])))

-- the lines of conditions, one after another
abbrev pub document : List Literal → List ℕ
document cs = flat_map line cs

-- conditions between the first n places
abbrev pub Between : List Condition → ℕ → Type 0
Between conds n =
    (k : ℕ) → k < length conds → ((slice_index_or conds k no_condition).left < n) × ((slice_index_or conds k no_condition).right < n)

-- an answer on a text: the text is the lines of some literals, and they are as it says
abbrev pub Answers : List ℕ → Answer → Type 0
Answers text (Impossible j) = (cs : List Literal) × (text ≡ document cs) × (Sat cs → ⊥) × (j < 512)
Answers text Possible = (cs : List Literal) × (text ≡ document cs) × Sat cs
Answers text Full = Unit {0}
Answers text (Unreadable s) = Unit {0}
