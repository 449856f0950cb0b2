-- Conditions asked one by one, as a list, and the first of a list.
use Rattle.std.proofs.Common.{◌≡◌, ℕ, ◌+◌, ◌<◌, ◌≤◌, List, ◌++◌, map, length, get_or, take, sym, ap, ◌∙◌, subst, arith}
use Rattle.std.specs.List.{AllByRecursion as All}
use Rattle.std.proofs.lemmas.List.{map_more, get_or-map, get_or-take, length-map, length-take, take_all, take-append-le}
use Rattle.std.proofs.ByRecursion.{All-push, All-get_or}
use Rattle.terms.specs.declared.Condition.{Condition}
use Rattle.closure.specs.Labels.{no_condition}
use Rattle.rows.specs.Records.{Between}

module _ {X Y : Type 0} (P : Y → Type 0) (f : X → Y) (xs : List X) (d : X) where
  pub all_taken_more : (k : ℕ) → k < length xs → All P (map f (take k xs)) → P (f (get_or xs k d)) → All P (map f (take (k + 1) xs))
  all_taken_more k lt before here = subst (All P) (sym (map_more f xs k d lt)) (All-push P (map f (take k xs)) (f (get_or xs k d)) before here)

  pub all_at : (k : ℕ) → k < length xs → All P (map f xs) → P (f (get_or xs k d))
  all_at k lt all =
      let inside : k < length (map f xs) = rw (length-map xs f) (omega arith) in
      subst P (get_or-map f xs k d (f d) lt) (All-get_or P (map f xs) k (f d) inside all)

-- the first of conditions between terms of the bank, in a bank with more of them
pub between_taken : (n m : ℕ) (conds : List Condition) (used : ℕ) → n ≤ m → Between n conds used → Between m (take used conds) (length (take used conds))
between_taken n m conds used le b =
    let short = length-take used conds in
    record {
      lefts = λ k lt. (let e = ap (λ (c : Condition). c.left) (get_or-take used conds k no_condition (omega arith)) in omega (arith, b.lefts k (omega arith)));
      rights = λ k lt. (let e = ap (λ (c : Condition). c.right) (get_or-take used conds k no_condition (omega arith)) in omega (arith, b.rights k (omega arith)));
    }

-- the first of a list that was put in place of the first of another
pub front_taken : {X : Type 0} (r : ℕ) (xs ys : List X) → length xs ≡ r → take r (xs ++ ys) ≡ xs
front_taken r xs ys is = take-append-le r xs ys (omega (arith, is)) ∙ take_all r xs (omega (arith, is))
