-- A candidate and its conditions, composed of what is listed and interned.
use Rattle.std.proofs.Common.{◌≡◌, ℕ, suc, ◌+◌, ◌-◌, ◌<◌, ◌≤◌, List, [], ◌∷◌, ◌++◌, map, length, get_or, take, replicate, None, sym, ap, ◌∙◌, subst, ⊎_elim, arith, length-append, length-take}
use Rattle.std.specs.List.{ContainsAt as Has, AllByRecursion as All}
use Rattle.std.proofs.ByRecursion.{All-append, All-weaker}
use Rattle.std.proofs.lemmas.List.{length-map, same_lists, get_or-map, get_or-take, get_or_append_left, get_or-append-add, get_or_default}
use Rattle.std.proofs.lemmas.Bool.{cases_lt}
use Rattle.std.proofs.lemmas.Option.{none-some}
use Rattle.sheet.proofs.Memos.{nones}
use Rattle.terms.specs.declared.Condition.{Condition}
use Rattle.terms.specs.declared.TermRecord.{TermRecord}
use Rattle.terms.specs.Terms.{Term, Literal}
use Rattle.terms.specs.Bank.{Extends, term_at, literal_of}
use Rattle.closure.specs.Labels.{no_condition}
use Rattle.banks.specs.Room.{HasAll, Throughout, Held}
use Rattle.banks.specs.Gains.{Gained, Overfull}
use Rattle.banks.proofs.Gaining.{all_left, all_right, gained_as, gained_more, overfull_as, overfull_later, held_later}
use Rattle.forms.specs.Candidate.{no_term}
use Rattle.forms.specs.Counted.{sides_of}
use Rattle.rows.specs.Records.{Between}
use Rattle.candidates.specs.declared.conditions.Conditions.{Conditions}
use Rattle.candidates.specs.Outcome.{Lists}
use Rattle.candidates.specs.Working.{Recalls, Stands, Listed, Vectored, Joined, no_literal}
use Rattle.candidates.proofs.Listing.{sides_append, stands_later, listed_later}

-- nothing is known at first
pub recalls_none : (values : List Term) (rs : List TermRecord) (n m : ℕ) → Recalls values rs n (replicate m None)
recalls_none values rs n m k p e = absurd (none-some p (sym (nones m k) ∙ e))

-- places that stand for terms, as a list
pub vectored_map : (rs : List TermRecord) (n : ℕ) (ts : List Term) (ps : List ℕ) (m : ℕ) → length ts ≡ m → m ≤ length ps → Vectored rs n ts m ps → map (term_at rs) (take m ps) ≡ ts
vectored_map rs n ts ps m long room h =
    let e : length (take m ps) ≡ m = omega (arith, length-take m ps) in
    let whole : length (map (term_at rs) (take m ps)) ≡ m = length-map (take m ps) (term_at rs) ∙ e in
    same_lists (map (term_at rs) (take m ps)) ts (whole ∙ sym long)
    (λ k d lt. let lt' : k < m = omega arith in get_or-map (term_at rs) (take m ps) k 0 d (omega arith) ∙ (ap (term_at rs) (get_or-take m ps k 0 lt') ∙ ((h k lt').1 ∙ get_or_default ts k no_term d (omega arith))))

pub vectored_held : (rs : List TermRecord) (n : ℕ) (ts : List Term) (ps : List ℕ) → Vectored rs n ts (length ts) ps → All (Held rs n) ts
vectored_held rs n ts ps h = go ts (λ k lt. (get_or ps k 0, (h k lt).0, (h k lt).1))
  where
    go : (us : List Term) → ((k : ℕ) → k < length us → Held rs n (get_or us k no_term)) → All (Held rs n) us
    go [] f = tt
    go (u ∷ us) f = (f 0 (omega arith), go us (λ k lt. f (suc k) (omega arith)))

-- conditions that stand for literals, as a list
pub listed-map : (rs : List TermRecord) (n : ℕ) (ls : List Literal) (cs : List Condition) (m : ℕ) → length ls ≡ m → m ≤ length cs → Listed rs n ls m cs → map (literal_of rs) (take m cs) ≡ ls
listed-map rs n ls cs m long room h =
    let e : length (take m cs) ≡ m = omega (arith, length-take m cs) in
    let whole : length (map (literal_of rs) (take m cs)) ≡ m = length-map (take m cs) (literal_of rs) ∙ e in
    same_lists (map (literal_of rs) (take m cs)) ls (whole ∙ sym long)
    (λ k d lt. let lt' : k < m = omega arith in get_or-map (literal_of rs) (take m cs) k no_condition d (omega arith) ∙ (ap (literal_of rs) (get_or-take m cs k no_condition lt') ∙ ((h k lt').literal ∙ get_or_default ls k no_literal d (omega arith))))

pub listed_held : (rs : List TermRecord) (n : ℕ) (ls : List Literal) (cs : List Condition) → Listed rs n ls (length ls) cs → All (Held rs n) (sides_of ls)
listed_held rs n ls cs h = go ls (λ k lt. (get_or cs k no_condition, h k lt))
  where
    go : (us : List Literal) → ((k : ℕ) → k < length us → (c : Condition) × Stands rs n (get_or us k no_literal) c) → All (Held rs n) (sides_of us)
    go [] f = tt
    go (u ∷ us) f =
        let a = f 0 (omega arith) in
        let c = a.0 in
        ((c.left, a.1.lefts, ap (λ (l : Literal). l.left) a.1.literal), ((c.right, a.1.rights, ap (λ (l : Literal). l.right) a.1.literal), go us (λ k lt. f (suc k) (omega arith))))

-- the conditions of the questions before a row's own
module _ (rs : List TermRecord) (n : ℕ) (asked : List Literal) (own : List Condition) (between : Between n own (length own)) where
  abbrev both : List Literal
  both = asked ++ map (literal_of rs) own

  both_long : length (asked ++ map (literal_of rs) own) ≡ length asked + length own
  both_long = length-append asked (map (literal_of rs) own) ∙ ap (λ k. length asked + k) (length-map own (literal_of rs))

  own_stands : (k : ℕ) → k < length own → Stands rs n (get_or (map (literal_of rs) own) k no_literal) (get_or own k no_condition)
  own_stands k lt = record { lefts = between.lefts k lt; rights = between.rights k lt; literal = sym (get_or-map (literal_of rs) own k no_condition no_literal lt) }

  pub has_asked : (all : List Term) → HasAll all (sides_of (asked ++ map (literal_of rs) own)) → HasAll all (sides_of asked)
  has_asked all h = all_left (Throughout (Has all)) (sides_of asked) (sides_of (map (literal_of rs) own)) (subst (HasAll all) (sides_append asked (map (literal_of rs) own)) h)

  module _ (rs' : List TermRecord) (n' : ℕ) (x : Extends rs n rs' n') (c : Conditions) (j : Joined rs' n' asked own c) where
    pub joined_listed : Listed rs' n' (asked ++ map (literal_of rs) own) (length asked + length own) c.list
    joined_listed k lt = ⊎_elim front back (cases_lt k (length asked))
      where
        front : k < length asked → Stands rs' n' (get_or (asked ++ map (literal_of rs) own) k no_literal) (get_or c.list k no_condition)
        front h = subst (λ l. Stands rs' n' l (get_or c.list k no_condition)) (sym (get_or_append_left asked (map (literal_of rs) own) no_literal k h)) (j.front k h)

        back : length asked ≤ k → Stands rs' n' (get_or (asked ++ map (literal_of rs) own) k no_literal) (get_or c.list k no_condition)
        back h =
            let i = k - length asked in
            let at : length asked + (k - length asked) ≡ k = omega arith in
            let inside : k - length asked < length own = omega arith in
            let st = stands_later rs rs' n n' x (get_or (map (literal_of rs) own) i no_literal) (get_or own i no_condition) (own_stands i inside) in
            subst (λ m. Stands rs' n' (get_or (asked ++ map (literal_of rs) own) m no_literal) (get_or c.list m no_condition)) at
            (subst (λ l. Stands rs' n' l (get_or c.list (length asked + i) no_condition)) (sym (get_or-append-add asked (map (literal_of rs) own) i no_literal))
            (subst (Stands rs' n' (get_or (map (literal_of rs) own) i no_literal)) (sym (j.back i inside)) st))

    pub joined_lists : length asked ≤ 6 → length own ≤ 16 → Lists rs' n' (asked ++ map (literal_of rs) own) c
    joined_lists few few' =
        record {
          literals = listed-map rs' n' (asked ++ map (literal_of rs) own) c.list c.used (both_long ∙ sym j.used) (omega (arith, j.used, j.long)) (λ k lt. joined_listed k (omega (arith, j.used)));
          few = omega (arith, j.used);
          between = record { lefts = λ k lt. (joined_listed k (omega (arith, j.used))).lefts; rights = λ k lt. (joined_listed k (omega (arith, j.used))).rights };
        }

    pub joined_held : All (Held rs' n') (sides_of (asked ++ map (literal_of rs) own))
    joined_held = listed_held rs' n' (asked ++ map (literal_of rs) own) c.list (λ k lt. joined_listed k (omega (arith, both_long)))

  pub gained_both : (rs' : List TermRecord) (n' : ℕ) (c : Conditions) → Joined rs' n' asked own c → Gained rs n (sides_of asked) rs' n' → Gained rs n (sides_of (asked ++ map (literal_of rs) own)) rs' n'
  gained_both rs' n' c j g =
      gained_as rs rs' n n' (sides_of asked) g (sides_of (asked ++ map (literal_of rs) own)) has_asked (joined_held rs' n' g.extends c j)

  pub overfull_both : Overfull rs n (sides_of asked) → Overfull rs n (sides_of (asked ++ map (literal_of rs) own))
  overfull_both over = overfull_as rs n (sides_of asked) (sides_of (asked ++ map (literal_of rs) own)) has_asked over

  -- with a vector besides
  module _ (ts : List Term) where
    has_all : (all : List Term) → HasAll all (ts ++ sides_of (asked ++ map (literal_of rs) own)) → HasAll all (sides_of asked ++ ts)
    has_all all h =
        All-append (Throughout (Has all)) (sides_of asked) ts (has_asked all (all_right (Throughout (Has all)) ts (sides_of (asked ++ map (literal_of rs) own)) h)) (all_left (Throughout (Has all)) ts (sides_of (asked ++ map (literal_of rs) own)) h)

    pub overfull_first : Overfull rs n (sides_of asked) → Overfull rs n (ts ++ sides_of (asked ++ map (literal_of rs) own))
    overfull_first over =
        overfull_as rs n (sides_of asked) (ts ++ sides_of (asked ++ map (literal_of rs) own)) (λ all h. has_asked all (all_right (Throughout (Has all)) ts (sides_of (asked ++ map (literal_of rs) own)) h)) over

    module _ (rs₁ : List TermRecord) (n₁ : ℕ) (g : Gained rs n (sides_of asked) rs₁ n₁) (rs₂ : List TermRecord) (n₂ : ℕ) where
      pub overfull_second : Overfull rs₁ n₁ ts → Overfull rs n (ts ++ sides_of (asked ++ map (literal_of rs) own))
      overfull_second over =
          overfull_as rs n (sides_of asked ++ ts) (ts ++ sides_of (asked ++ map (literal_of rs) own)) has_all (overfull_later rs rs₁ n n₁ (sides_of asked) g ts over)

      pub gained_row : (c : Conditions) → Joined rs₁ n₁ asked own c → Gained rs₁ n₁ ts rs₂ n₂ → Gained rs n (ts ++ sides_of (asked ++ map (literal_of rs) own)) rs₂ n₂
      gained_row c j h =
          gained_as rs rs₂ n n₂ (sides_of asked ++ ts) (gained_more rs rs₁ n n₁ (sides_of asked) g ts rs₂ n₂ h) (ts ++ sides_of (asked ++ map (literal_of rs) own)) has_all
          (All-append (Held rs₂ n₂) ts (sides_of (asked ++ map (literal_of rs) own)) h.has (All-weaker (Held rs₁ n₁) (Held rs₂ n₂) (held_later rs₁ rs₂ n₁ n₂ h.extends) (sides_of (asked ++ map (literal_of rs) own)) (joined_held rs₁ n₁ g.extends c j)))

      pub joined_later : (c : Conditions) → Joined rs₁ n₁ asked own c → Extends rs₁ n₁ rs₂ n₂ → Joined rs₂ n₂ asked own c
      joined_later c j x = record { used = j.used; front = listed_later rs₁ rs₂ n₁ n₂ x asked (length asked) c.list j.front; back = j.back; long = j.long }
