-- A fitting renaming carries covering from the form to the older row.
use Rattle.std.proofs.Common.{◌≡◌, ℕ, List, [], ◌∷◌, map, refl, ap, ◌∙◌}
use Rattle.std.specs.List.{AllByRecursion as All}
use Rattle.terms.specs.Terms.{Term, name, constant, unary, binary, ternary, Interpretation, eval, renamed, Literal, Holds, Entails}
use Rattle.forms.specs.Matching.{renamed_in}
use Rattle.forms.specs.Laws.{FittingCovers}
use Rattle.forms.proofs.Values.{signed_same}

-- name x has the value of name `to x`
abbrev pub through_names : Interpretation → (ℕ → ℕ) → Interpretation
through_names i to = record { meaning = i.meaning; values = λ x. i.values (to x); meaning_small = i.meaning_small; values_small = λ x. i.values_small (to x) }

eval-renamed : (i : Interpretation) (to : ℕ → ℕ) (t : Term) → eval i (renamed to t) ≡ eval (through_names i to) t
eval-renamed i to (name x) = refl
eval-renamed i to (constant f) = refl
eval-renamed i to (unary f a) = let p = eval-renamed i to a in cc
eval-renamed i to (binary f a b) = let p = eval-renamed i to a in let q = eval-renamed i to b in cc
eval-renamed i to (ternary f a b c) = let p = eval-renamed i to a in let q = eval-renamed i to b in let r = eval-renamed i to c in cc

vector_renamed : (i : Interpretation) (to : ℕ → ℕ) (ts : List Term) → map (eval (through_names i to)) ts ≡ map (eval i) (map (renamed to) ts)
vector_renamed i to [] = refl
vector_renamed i to (t ∷ ts) = let p = eval-renamed i to t in let q = vector_renamed i to ts in cc

conditions_renamed : (i : Interpretation) (to : ℕ → ℕ) (given : List Literal) → All (Holds i) given → (cs : List Literal) → All (Entails given) (map (renamed_in to) cs) → All (Holds (through_names i to)) cs
conditions_renamed i to given true' [] all = tt
conditions_renamed i to given true' (c ∷ cs) all =
    (signed_same c.sign (eval i (renamed to c.left)) (eval (through_names i to) c.left) (eval i (renamed to c.right)) (eval (through_names i to) c.right) (eval-renamed i to c.left) (eval-renamed i to c.right) (all.0 i true'), conditions_renamed i to given true' cs all.1)

pub fitting_covers : FittingCovers
fitting_covers to older form fits m c covers =
    let i = covers.by in
    record {
      by = through_names i to;
      under = covers.under;
      covers = record {
        bits = fits.bits ∙ covers.covers.bits;
        conditions = conditions_renamed i to form.conditions covers.covers.conditions older.conditions fits.conditions;
        readings = vector_renamed i to older.vector ∙ (ap (map (eval i)) fits.vector ∙ covers.covers.readings);
      };
    }
