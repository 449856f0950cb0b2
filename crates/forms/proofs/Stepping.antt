-- The sheet's terms over a row have the values that the sheet's terms have, so the candidate covers the step.
use Rattle.std.proofs.Common.{◌≡◌, ℕ, suc, ◌+◌, ◌<◌, ◌≤◌, Bool, true, false, ◌&&◌, eqb, ltb, List, [], ◌∷◌, ◌++◌, map, length, get_or, Some, None, Option, sym, refl, ap, ◌∙◌, subst, arith}
use Rattle.std.specs.List.{AllByRecursion as All}
use Rattle.std.proofs.ByRecursion.{All-push, All-get_or}
use Rattle.std.proofs.lemmas.List.{map_push, length_push, get_or-map, get_or_at, append_assoc}
use Rattle.std.proofs.lemmas.Bool.{ltb-true, eqb-true, eqb-false, eq-eqb, ne_eqb, and_parts, cond_both}
use Rattle.sheet.specs.declared.syntax.Args.{Args}
use Rattle.sheet.specs.declared.syntax.Args.TheVariants.{Zero, One, Two, Three}
use Rattle.sheet.specs.declared.syntax.Choice.{Choice}
use Rattle.sheet.specs.declared.syntax.Equation.{Equation}
use Rattle.sheet.specs.declared.syntax.Reading.{Reading}
use Rattle.sheet.specs.declared.syntax.Record.{Record}
use Rattle.sheet.specs.declared.syntax.Term.{Term as SheetTerm}
use Rattle.sheet.specs.Grow.{grow}
use Rattle.sheet.specs.Lawful.{each_at, given}
use Rattle.sheet.specs.Rules.{names, keeps, obeys_at, args_below}
use Rattle.sheet.specs.Runs.{numbered, or_kept}
use Rattle.sheet.specs.System.{System}
use Rattle.sheet.specs.Truth.{arg_values, term_value, equal, term_of_choice}
use Rattle.terms.specs.Terms.{Term, Interpretation, eval, AreSigned, Holds}
use Rattle.forms.specs.Candidate.{no_term, applied, term_over, sign_of, condition_of}
use Rattle.forms.proofs.Values.{signed_same}

pub value_at : (j : Interpretation) (ts : List Term) (n : ℕ) → n < length ts → get_or (map (eval j) ts) n 0 ≡ eval j (get_or ts n no_term)
value_at j ts n inside = get_or-map (eval j) ts n no_term 0 inside

applied_value : (j : Interpretation) (seen : List Term) (f : ℕ) (args : Args) → args_below (length seen) args ≡ true → j.meaning f (arg_values (map (eval j) seen) args) ≡ eval j (applied seen f args)
applied_value j seen f Zero below = refl
applied_value j seen f (One a) below = let p = value_at j seen a (ltb-true a (length seen) below) in cc
applied_value j seen f (Two a b) below =
    let parts = and_parts (ltb a (length seen)) (ltb b (length seen)) below in
    let p = value_at j seen a (ltb-true a (length seen) parts.0) in
    let q = value_at j seen b (ltb-true b (length seen) parts.1) in
    cc
applied_value j seen f (Three a b c) below =
    let parts = and_parts (ltb a (length seen)) (ltb b (length seen) && ltb c (length seen)) below in
    let more = and_parts (ltb b (length seen)) (ltb c (length seen)) parts.1 in
    let p = value_at j seen a (ltb-true a (length seen) parts.0) in
    let q = value_at j seen b (ltb-true b (length seen) more.0) in
    let r = value_at j seen c (ltb-true c (length seen) more.1) in
    cc

module _ (s : System) (j : Interpretation) (vector : List Term) (inputs : List ℕ) (shaped : length vector ≡ length s.readings) (long : length inputs ≡ s.inputs) where
  eval-term_value : (seen : List Term) (t : SheetTerm) → names s (length seen) (Record.Term t) ≡ true → term_value j.meaning (map (eval j) vector) (map j.values inputs) (map (eval j) seen) t ≡ eval j (term_over vector inputs seen t)
  eval-term_value seen (SheetTerm.Reading r) ok = value_at j vector r (omega (arith, ltb-true r (length s.readings) ok))
  eval-term_value seen (SheetTerm.Input n) ok = get_or-map j.values inputs n 0 0 (omega (arith, ltb-true n s.inputs ok))
  eval-term_value seen (SheetTerm.Apply f args) ok = applied_value j seen f args (and_parts (ltb f (length s.symbols)) (args_below (length seen) args) ok).1

  pub terms_values : (seen : List Term) (ts : List SheetTerm) → each_at (λ n t. obeys_at s n (Record.Term t)) (length seen) ts ≡ true → grow (term_value j.meaning (map (eval j) vector) (map j.values inputs)) (map (eval j) seen) ts ≡ map (eval j) (grow (term_over vector inputs) seen ts)
  terms_values seen [] ok = refl
  terms_values seen (t ∷ ts) ok =
      let u = term_over vector inputs seen t in
      let parts = and_parts (obeys_at s (length seen) (Record.Term t)) (each_at (λ n t. obeys_at s n (Record.Term t)) (suc (length seen)) ts) ok in
      let here = eval-term_value seen t (and_parts (names s (length seen) (Record.Term t)) (keeps s (Record.Term t)) parts.0).0 in
      let one : map (eval j) seen ++ term_value j.meaning (map (eval j) vector) (map j.values inputs) (map (eval j) seen) t ∷ [] ≡ map (eval j) (seen ++ u ∷ []) = ap (λ v. map (eval j) seen ++ v ∷ []) here ∙ sym (map_push (eval j) seen u) in
      let count : suc (length seen) ≡ length (seen ++ u ∷ []) = omega (arith, length_push seen u) in
      let rest = terms_values (seen ++ u ∷ []) ts (subst (λ n. each_at (λ n t. obeys_at s n (Record.Term t)) n ts ≡ true) count parts.1) in
      ap (λ vs. grow (term_value j.meaning (map (eval j) vector) (map j.values inputs)) vs ts) one ∙ rest

-- an equation's answer, as a condition, is true
signed_answer : (a b : ℕ) (t : Bool) → eqb a b ≡ t → AreSigned (sign_of t) a b
signed_answer a b true is = eqb-true a b is
signed_answer a b false is = eqb-false a b is

-- the terms of an equation have the values that these lists say
abbrev pub Agrees : Interpretation → List Term → List ℕ → Equation → Type 0
Agrees j terms values e = (get_or values e.left 0 ≡ eval j (get_or terms e.left no_term)) × (get_or values e.right 0 ≡ eval j (get_or terms e.right no_term))

pub conditions_true : (j : Interpretation) (terms : List Term) (values : List ℕ) (before : List Bool) (es : List Equation) → All (Agrees j terms values) es → All (Holds j) (numbered (condition_of terms (before ++ map (equal values) es)) (length before) es)
conditions_true j terms values before [] agree = tt
conditions_true j terms values before (e ∷ es) agree =
    let t = equal values e in
    let at = get_or_at before t (map (equal values) es) false (length before) refl in
    let signed = signed_answer (get_or values e.left 0) (get_or values e.right 0) t refl in
    let here = signed_same (sign_of t) (get_or values e.left 0) (eval j (get_or terms e.left no_term)) (get_or values e.right 0) (eval j (get_or terms e.right no_term)) agree.0.0 agree.0.1 signed in
    let rest = conditions_true j terms values (before ++ t ∷ []) es agree.1 in
    let count : length (before ++ t ∷ []) ≡ suc (length before) = omega (arith, length_push before t) in
    let rest' = subst (λ n. All (Holds j) (numbered (condition_of terms ((before ++ t ∷ []) ++ map (equal values) es)) n es)) count rest in
    (subst (λ b. AreSigned (sign_of b) (eval j (get_or terms e.left no_term)) (eval j (get_or terms e.right no_term))) (sym at) here, subst (λ l. All (Holds j) (numbered (condition_of terms l) (suc (length before)) es)) (append_assoc before (t ∷ []) (map (equal values) es)) rest')

signed_back : (a b : ℕ) (t : Bool) → AreSigned (sign_of t) a b → eqb a b ≡ t
signed_back a b true e = eq-eqb a b e
signed_back a b false ne = ne_eqb a b ne

-- the other way round: conditions that are true tell the answers
pub answers_told : (j : Interpretation) (terms : List Term) (values : List ℕ) (before replies : List Bool) (es : List Equation) → length replies ≡ length es → All (Agrees j terms values) es → All (Holds j) (numbered (condition_of terms (before ++ replies)) (length before) es) → map (equal values) es ≡ replies
answers_told j terms values before [] [] long agree holds = refl
answers_told j terms values before (t ∷ ts) [] long agree holds = absurd (omega arith)
answers_told j terms values before [] (e ∷ es) long agree holds = absurd (omega arith)
answers_told j terms values before (t ∷ ts) (e ∷ es) long agree holds =
    let at = get_or_at before t ts false (length before) refl in
    let signed = subst (λ b. AreSigned (sign_of b) (eval j (get_or terms e.left no_term)) (eval j (get_or terms e.right no_term))) at holds.0 in
    let here = signed_same (sign_of t) (eval j (get_or terms e.left no_term)) (get_or values e.left 0) (eval j (get_or terms e.right no_term)) (get_or values e.right 0) (sym agree.0.0) (sym agree.0.1) signed in
    let first = signed_back (get_or values e.left 0) (get_or values e.right 0) t here in
    let count : suc (length before) ≡ length (before ++ t ∷ []) = omega (arith, length_push before t) in
    let moved = subst (λ l. All (Holds j) (numbered (condition_of terms l) (suc (length before)) es)) (sym (append_assoc before (t ∷ []) ts)) holds.1 in
    let rest = answers_told j terms values (before ++ t ∷ []) ts es (omega arith) agree.1 (subst (λ n. All (Holds j) (numbered (condition_of terms ((before ++ t ∷ []) ++ ts)) n es)) count moved) in
    cc

pub equations_inside : (s : System) (n : ℕ) (es : List Equation) → each_at (λ n e. obeys_at s n (Record.Question e)) n es ≡ true → All (λ e. (e.left < length s.terms) × (e.right < length s.terms)) es
equations_inside s n [] ok = tt
equations_inside s n (e ∷ es) ok =
    let parts = and_parts (obeys_at s n (Record.Question e)) (each_at (λ n e. obeys_at s n (Record.Question e)) (suc n) es) ok in
    let rule = (and_parts (names s n (Record.Question e)) (keeps s (Record.Question e)) parts.0).0 in
    let sides = and_parts (ltb e.left (length s.terms)) (ltb e.right (length s.terms)) rule in
    ((ltb-true e.left (length s.terms) sides.0, ltb-true e.right (length s.terms) sides.1), equations_inside s (suc n) es parts.1)

-- every choice comes to a term of the sheet
pub choices_inside : (s : System) (truth : ℕ → Bool) (seen : List ℕ) (ks : List Choice) → All (λ t. t < length s.terms) seen → each_at (λ n k. obeys_at s n (Record.Choice k)) (length seen) ks ≡ true → All (λ t. t < length s.terms) (grow (term_of_choice truth) seen ks)
choices_inside s truth seen [] all ok = all
choices_inside s truth seen (k ∷ ks) all ok =
    let parts = and_parts (obeys_at s (length seen) (Record.Choice k)) (each_at (λ n k. obeys_at s n (Record.Choice k)) (suc (length seen)) ks) ok in
    let here = inside k (and_parts (names s (length seen) (Record.Choice k)) (keeps s (Record.Choice k)) parts.0).0 in
    let t = term_of_choice truth seen k in
    let count : suc (length seen) ≡ length (seen ++ t ∷ []) = omega (arith, length_push seen t) in
    choices_inside s truth (seen ++ t ∷ []) ks (All-push (λ t. t < length s.terms) seen t all here) (subst (λ n. each_at (λ n k. obeys_at s n (Record.Choice k)) n ks ≡ true) count parts.1)
  where
    inside : (k : Choice) → names s (length seen) (Record.Choice k) ≡ true → term_of_choice truth seen k < length s.terms
    inside (Choice.Term t) rule = ltb-true t (length s.terms) rule
    inside (Choice.If f a b) rule =
        let more = and_parts (ltb a (length seen)) (ltb b (length seen)) (and_parts (ltb f (length s.formulas)) (ltb a (length seen) && ltb b (length seen)) rule).1 in
        cond_both (truth f) (get_or seen a 0) (get_or seen b 0) (λ t. t < length s.terms) (λ _. All-get_or (λ t. t < length s.terms) seen a 0 (ltb-true a (length seen) more.0) all) (λ _. All-get_or (λ t. t < length s.terms) seen b 0 (ltb-true b (length seen) more.1) all)

-- next values, by number: each is kept or comes to a term of the sheet
pub next_values : (s : System) (j : Interpretation) (vector terms : List Term) (picked : List ℕ) → length terms ≡ length s.terms → length picked ≡ length s.choices → All (λ t. t < length s.terms) picked → (n : ℕ) (rs : List Reading) → n + length rs ≤ length vector → each_at (λ n x. given (λ k. obeys_at s 0 (Record.NextReading n k)) x.next) n rs ≡ true → map (eval j) (numbered (λ n r. or_kept (λ k. get_or terms (get_or picked k 0) no_term) (get_or vector n no_term) r.next) n rs) ≡ numbered (λ n r. or_kept (λ k. get_or (map (eval j) terms) (get_or picked k 0) 0) (get_or (map (eval j) vector) n 0) r.next) n rs
next_values s j vector terms picked long count all n [] room ok = refl
next_values s j vector terms picked long count all n (r ∷ rs) room ok =
    let parts = and_parts (given (λ k. obeys_at s 0 (Record.NextReading n k)) r.next) (each_at (λ n x. given (λ k. obeys_at s 0 (Record.NextReading n k)) x.next) (suc n) rs) ok in
    let p = one r.next parts.0 in
    let q = next_values s j vector terms picked long count all (suc n) rs (omega arith) parts.1 in
    cc
  where
    one : (o : Option ℕ) → given (λ k. obeys_at s 0 (Record.NextReading n k)) o ≡ true → eval j (or_kept (λ k. get_or terms (get_or picked k 0) no_term) (get_or vector n no_term) o) ≡ or_kept (λ k. get_or (map (eval j) terms) (get_or picked k 0) 0) (get_or (map (eval j) vector) n 0) o
    one None rule = sym (value_at j vector n (omega arith))
    one (Some k) rule =
        let names' = (and_parts (names s 0 (Record.NextReading n k)) (keeps s (Record.NextReading n k)) rule).0 in
        let inside = ltb-true k (length s.choices) (and_parts (ltb n (length s.readings)) (ltb k (length s.choices)) names').1 in
        let small = All-get_or (λ t. t < length s.terms) picked k 0 (omega arith) all in
        sym (value_at j terms (get_or picked k 0) (omega arith))
