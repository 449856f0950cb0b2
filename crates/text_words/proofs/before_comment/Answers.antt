use Rattle.std.proofs.Common.{◌≡◌, suc, Bool, true, false, cond, not, List, [], ◌∷◌, ◌+◌, take, Some, None, Option, unwrap_or, subst, refl, ap, ◌∙◌, arith, rules, tests}
use Rattle.std.specs.Prelude.{◌==◌}
use Rattle.std.specs.List.{slice_split, before_first, onto_first, prefix_len}
use Rattle.std.proofs.lemmas.Iterator.{YieldsList}
use Rattle.std.proofs.lemmas.Iterator.Splits.{YieldsList-from_slice_split}
use Rattle.text_words.proofs.before_comment.Goals as goal

front : {X : Type 0} (p : X → Bool) (xs : List X) → (ys : List (List X)) × (slice_split p xs ≡ before_first p xs ∷ ys)
front p [] = ([], refl)
front {X} p (x ∷ xs) =
    elim (p x) as (λ b. (ys : List (List X)) × (cond b ([] ∷ slice_split p xs) (onto_first x (slice_split p xs)) ≡ take (cond (not b) (1 + prefix_len (λ y. not (p y)) xs) 0) (x ∷ xs) ∷ ys)) [
      | true ↦ (slice_split p xs, refl)
      | false ↦ let e : suc (prefix_len (λ y. not (p y)) xs) ≡ 1 + prefix_len (λ y. not (p y)) xs = omega arith in ((front p xs).0, ap (onto_first x) (front p xs).1 ∙ ap (λ n. take n (x ∷ xs) ∷ (front p xs).0) e)
    ]

first-yielded : {S A B : Type 0} {steps : S → Option A → S → Type 0} {v : A → B} {s : S} {all : List B} (y : B) (ys : List B) → YieldsList steps v s all → all ≡ y ∷ ys → (r : Option A) (t : S) (d : A) → steps s r t → v (unwrap_or r d) ≡ y
first-yielded {S} {A} {B} {steps} {v} {s} y ys e same r t d h = first (subst (λ l. YieldsList steps v s l) same e) r h
  where
    first : YieldsList steps v s (y ∷ ys) → (r : Option A) → steps s r t → v (unwrap_or r d) ≡ y
    first e None h = absurd (e.runs.0 t h)
    first e (Some x) h = (e.runs.1 x t h).0

pub returns : goal.returns
returns c =
    let first = front (λ b. b == 35) c.args.line.now in
    ap (λ l. l.now) c.unwrap_or.ensures
    ∙ first-yielded _ first.0 (YieldsList-from_slice_split _ (λ b. b == 35) c.args.line.now c.split.ensures.rest c.split.ensures.done c.split.ensures.closure (λ x r q k. search (rules, tests))) first.1 c.next.result c.next.new.self c.args.line c.next.ensures.steps
