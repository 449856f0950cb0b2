-- One more place, and one more condition, of a pass that changes terms.
use Rattle.std.proofs.Common.{◌≡◌, ℕ, zero, suc, ◌+◌, ◌<◌, ◌≤◌, List, [], ◌∷◌, ◌++◌, map, length, get_or, take, set, Ok, Err, sym, refl, ap, ◌∙◌, subst, ⊎_elim, arith}
use Rattle.std.specs.List.{ContainsAt as Has, AllByRecursion as All}
use Rattle.std.proofs.lemmas.List.{get_or-set_same, get_or-set_other, take_more, take_all}
use Rattle.std.proofs.lemmas.Bool.{cases_lt}
use Rattle.fault.specs.declared.TableFault.{TableFault}
use Rattle.terms.specs.declared.Condition.{Condition}
use Rattle.terms.specs.declared.TermRecord.{TermRecord}
use Rattle.terms.specs.Terms.{Term}
use Rattle.terms.specs.Bank.{Extends}
use Rattle.closure.specs.Labels.{no_condition}
use Rattle.banks.specs.Room.{Throughout, HasAll}
use Rattle.banks.specs.Gains.{Gained}
use Rattle.banks.proofs.Gaining.{all_left, overfull_as}
use Rattle.folding.specs.declared.change.Change.{Change}
use Rattle.folding.specs.Rewriting.{arg, Suits, Adding, Became, NoRoom, PlacesChanged, side_places, ConditionsChanged}
use Rattle.folding.proofs.Changes.{walked_more, walked_at, walked_broken}

-- the first `used` places changed, the others as they were
pub record PlacesChangedTo (rs : List TermRecord) (n : ℕ) (change : Change) (used : ℕ) (old new : List ℕ) (rs' : List TermRecord) (n' : ℕ) : Type 0 where
  pub gained : Gained rs n (map (arg rs change) (take used old)) rs' n'
  pub became : (k : ℕ) → k < used → Became rs change (get_or old k 0) rs' n' (get_or new k 0)
  pub rest : (k : ℕ) → used ≤ k → get_or new k 0 ≡ get_or old k 0

pub record ConditionsChangedTo (rs : List TermRecord) (n : ℕ) (change : Change) (used : ℕ) (old new : List Condition) (rs' : List TermRecord) (n' : ℕ) : Type 0 where
  pub gained : Gained rs n (map (arg rs change) (side_places (take used old))) rs' n'
  pub lefts : (k : ℕ) → k < used → Became rs change (get_or old k no_condition).left rs' n' (get_or new k no_condition).left
  pub rights : (k : ℕ) → k < used → Became rs change (get_or old k no_condition).right rs' n' (get_or new k no_condition).right
  pub signs : (k : ℕ) → k < used → (get_or new k no_condition).sign ≡ (get_or old k no_condition).sign
  pub rest : (k : ℕ) → used ≤ k → get_or new k no_condition ≡ get_or old k no_condition

-- all of them
pub places_all : (rs : List TermRecord) (n : ℕ) (change : Change) (used : ℕ) (old new : List ℕ) (rs' : List TermRecord) (n' : ℕ) → PlacesChangedTo rs n change used old new rs' n' → length old ≤ used → PlacesChanged rs n change old new rs' n'
places_all rs n change used old new rs' n' h le =
    record { gained = subst (λ l. Gained rs n (map (arg rs change) l) rs' n') (take_all used old le) h.gained; became = λ k lt. h.became k (omega arith) }

pub conditions_all : (rs : List TermRecord) (n : ℕ) (change : Change) (used : ℕ) (old new : List Condition) (rs' : List TermRecord) (n' : ℕ) → ConditionsChangedTo rs n change used old new rs' n' → length old ≤ used → ConditionsChanged rs n change old new rs' n'
conditions_all rs n change used old new rs' n' h le =
    record {
      gained = subst (λ l. Gained rs n (map (arg rs change) (side_places l)) rs' n') (take_all used old le) h.gained;
      lefts = λ k lt. h.lefts k (omega arith);
      rights = λ k lt. h.rights k (omega arith);
      signs = λ k lt. h.signs k (omega arith);
    }

all_first : (P : Term → Type 0) (f : ℕ → Term) (m : ℕ) (xs : List ℕ) → All P (map f xs) → All P (map f (take m xs))
all_first P f zero xs h = tt
all_first P f (suc m) [] h = tt
all_first P f (suc m) (x ∷ xs) h = (h.0, all_first P f m xs h.1)

all_first_sides : (P : Term → Type 0) (f : ℕ → Term) (m : ℕ) (cs : List Condition) → All P (map f (side_places cs)) → All P (map f (side_places (take m cs)))
all_first_sides P f zero cs h = tt
all_first_sides P f (suc m) [] h = tt
all_first_sides P f (suc m) (c ∷ cs) h = (h.0, (h.1.0, all_first_sides P f m cs h.1.1))

sides_push : (cs : List Condition) (c : Condition) → side_places (cs ++ c ∷ []) ≡ (side_places cs ++ c.left ∷ []) ++ c.right ∷ []
sides_push [] c = refl
sides_push (d ∷ cs) c = ap (λ l. d.left ∷ d.right ∷ l) (sides_push cs c)

pub became_later : (rs : List TermRecord) (change : Change) (old : ℕ) (rs₁ rs₂ : List TermRecord) (n₁ n₂ new : ℕ) → Extends rs₁ n₁ rs₂ n₂ → Became rs change old rs₁ n₁ new → Became rs change old rs₂ n₂ new
became_later rs change old rs₁ rs₂ n₁ n₂ new e h = (omega (arith, h.0, e.more), (e.stays new h.0).1 ∙ h.1)

module _ (rs : List TermRecord) (n : ℕ) (change : Change) (suits : Suits n change) where
  module _ (k : ℕ) (old new : List ℕ) (rs₁ : List TermRecord) (n₁ : ℕ) (h : PlacesChangedTo rs n change k old new rs₁ n₁) (change₁ : Change) (same_change : change₁ ≡ change) (short : k < length old) (here : get_or old k 0 < n) (rs₂ : List TermRecord) (n₂ : ℕ) where
    pub places_more : k < length new → (p : ℕ) → Adding rs₁ n₁ (arg rs₁ change₁ (get_or new k 0)) rs₂ n₂ (Ok p) → PlacesChangedTo rs n change (k + 1) old (set new k p) rs₂ n₂
    places_more room p r₀ =
        let r = subst (λ a. Adding rs₁ n₁ (arg rs₁ change₁ a) rs₂ n₂ (Ok p)) (h.rest k (omega arith)) r₀ in
        let w = walked_more rs n change suits (take k old) rs₁ n₁ h.gained change₁ same_change (get_or old k 0) here rs₂ n₂ p r in
        let at = walked_at rs n change suits (take k old) rs₁ n₁ h.gained change₁ same_change (get_or old k 0) here rs₂ n₂ p r in
        record {
          gained = subst (λ l. Gained rs n (map (arg rs change) l) rs₂ n₂) (sym (take_more old k 0 short)) w;
          became = λ j lt. ⊎_elim
              (λ less. subst (Became rs change (get_or old j 0) rs₂ n₂) (sym (get_or-set_other new k j p 0 (omega arith))) (became_later rs change (get_or old j 0) rs₁ rs₂ n₁ n₂ (get_or new j 0) r.gained.extends (h.became j less)))
              (λ ge. (let e : k ≡ j = omega arith in subst (λ i. Became rs change (get_or old i 0) rs₂ n₂ (get_or (set new k p) i 0)) e (subst (Became rs change (get_or old k 0) rs₂ n₂) (sym (get_or-set_same new k p 0 room)) (r.inside, at))))
              (cases_lt j k);
          rest = λ j le. get_or-set_other new k j p 0 (omega arith) ∙ h.rest j (omega arith);
        }

    pub places_broken : (e : TableFault) → Adding rs₁ n₁ (arg rs₁ change₁ (get_or new k 0)) rs₂ n₂ (Err e) → NoRoom rs n change old rs₂ n₂ e
    places_broken e r₀ =
        let r = subst (λ a. Adding rs₁ n₁ (arg rs₁ change₁ a) rs₂ n₂ (Err e)) (h.rest k (omega arith)) r₀ in
        let w = walked_broken rs n change suits (take k old) rs₁ n₁ h.gained change₁ same_change (get_or old k 0) here rs₂ n₂ e r in
        record { fault = w.fault; extends = w.extends; over = overfull_as rs n (map (arg rs change) (take k old ++ get_or old k 0 ∷ [])) (map (arg rs change) old) (λ all m. subst (λ l. HasAll all (map (arg rs change) l)) (take_more old k 0 short) (all_first (Throughout (Has all)) (arg rs change) (k + 1) old m)) w.over }

  module _ (k : ℕ) (old new : List Condition) (rs₁ : List TermRecord) (n₁ : ℕ) (h : ConditionsChangedTo rs n change k old new rs₁ n₁) (change₁ : Change) (same_change : change₁ ≡ change) (short : k < length old) (left : (get_or old k no_condition).left < n) (right : (get_or old k no_condition).right < n) (rs₂ : List TermRecord) (n₂ : ℕ) where
    abbrev sides : List ℕ
    sides = side_places (take k old)

    abbrev one : Condition
    one = get_or old k no_condition

    sides_more : (sides ++ one.left ∷ []) ++ one.right ∷ [] ≡ side_places (take (k + 1) old)
    sides_more = sym (ap side_places (take_more old k no_condition short) ∙ sides_push (take k old) one)

    fewer : (all : List Term) → HasAll all (map (arg rs change) (side_places old)) → HasAll all (map (arg rs change) ((sides ++ one.left ∷ []) ++ one.right ∷ []))
    fewer all m =
        subst (λ l. HasAll all (map (arg rs change) l)) (sym sides_more) (all_first_sides (Throughout (Has all)) (arg rs change) (k + 1) old m)

    map_split : (f : ℕ → Term) (xs ys : List ℕ) → map f (xs ++ ys) ≡ map f xs ++ map f ys
    map_split f [] ys = refl
    map_split f (x ∷ xs) ys = ap (λ l. f x ∷ l) (map_split f xs ys)

    pub left_broken : (e : TableFault) → Adding rs₁ n₁ (arg rs₁ change₁ (get_or new k no_condition).left) rs₂ n₂ (Err e) → NoRoom rs n change (side_places old) rs₂ n₂ e
    left_broken e r₀ =
        let r = subst (λ a. Adding rs₁ n₁ (arg rs₁ change₁ a.left) rs₂ n₂ (Err e)) (h.rest k (omega arith)) r₀ in
        let w = walked_broken rs n change suits sides rs₁ n₁ h.gained change₁ same_change one.left left rs₂ n₂ e r in
        record { fault = w.fault; extends = w.extends; over = overfull_as rs n (map (arg rs change) (sides ++ one.left ∷ [])) (map (arg rs change) (side_places old)) (λ all m. all_left (Throughout (Has all)) (map (arg rs change) (sides ++ one.left ∷ [])) (map (arg rs change) (one.right ∷ [])) (subst (HasAll all) (map_split (arg rs change) (sides ++ one.left ∷ []) (one.right ∷ [])) (fewer all m))) w.over }

    module _ (p : ℕ) (r₀ : Adding rs₁ n₁ (arg rs₁ change₁ (get_or new k no_condition).left) rs₂ n₂ (Ok p)) (change₂ : Change) (same_change₂ : change₂ ≡ change) (rs₃ : List TermRecord) (n₃ : ℕ) where
      abbrev left_done : Adding rs₁ n₁ (arg rs₁ change₁ one.left) rs₂ n₂ (Ok p)
      left_done = subst (λ a. Adding rs₁ n₁ (arg rs₁ change₁ a.left) rs₂ n₂ (Ok p)) (h.rest k (omega arith)) r₀

      abbrev left_walked : Gained rs n (map (arg rs change) (sides ++ one.left ∷ [])) rs₂ n₂
      left_walked = walked_more rs n change suits sides rs₁ n₁ h.gained change₁ same_change one.left left rs₂ n₂ p left_done

      pub right_broken : (e : TableFault) → Adding rs₂ n₂ (arg rs₂ change₂ (get_or new k no_condition).right) rs₃ n₃ (Err e) → NoRoom rs n change (side_places old) rs₃ n₃ e
      right_broken e q₀ =
          let q = subst (λ a. Adding rs₂ n₂ (arg rs₂ change₂ a.right) rs₃ n₃ (Err e)) (h.rest k (omega arith)) q₀ in
          let w = walked_broken rs n change suits (sides ++ one.left ∷ []) rs₂ n₂ left_walked change₂ same_change₂ one.right right rs₃ n₃ e q in
          record { fault = w.fault; extends = w.extends; over = overfull_as rs n (map (arg rs change) ((sides ++ one.left ∷ []) ++ one.right ∷ [])) (map (arg rs change) (side_places old)) fewer w.over }

      module _ (room : k < length new) (q : ℕ) (q₀ : Adding rs₂ n₂ (arg rs₂ change₂ (get_or new k no_condition).right) rs₃ n₃ (Ok q)) where
        abbrev made : Condition
        made = record { left = p; right = q; sign = (get_or new k no_condition).sign }

        abbrev right_done : Adding rs₂ n₂ (arg rs₂ change₂ one.right) rs₃ n₃ (Ok q)
        right_done = subst (λ a. Adding rs₂ n₂ (arg rs₂ change₂ a.right) rs₃ n₃ (Ok q)) (h.rest k (omega arith)) q₀

        -- a fact of each of the first k + 1, from those of the first k and of the new one
        each : (P : Condition → Condition → Type 0) → ((j : ℕ) → j < k → P (get_or old j no_condition) (get_or new j no_condition)) → P one made → (j : ℕ) → j < k + 1 → P (get_or old j no_condition) (get_or (set new k made) j no_condition)
        each P before now' j lt =
            ⊎_elim (λ less. subst (P (get_or old j no_condition)) (sym (get_or-set_other new k j made no_condition (omega arith))) (before j less))
            (λ ge. (let e : k ≡ j = omega arith in subst (λ i. P (get_or old i no_condition) (get_or (set new k made) i no_condition)) e (subst (P one) (sym (get_or-set_same new k made no_condition room)) now')))
            (cases_lt j k)

        pub conditions_more : ConditionsChangedTo rs n change (k + 1) old (set new k made) rs₃ n₃
        conditions_more =
            let e₁ = left_done.gained.extends in
            let e₂ = right_done.gained.extends in
            let at_left = walked_at rs n change suits sides rs₁ n₁ h.gained change₁ same_change one.left left rs₂ n₂ p left_done in
            let at_right = walked_at rs n change suits (sides ++ one.left ∷ []) rs₂ n₂ left_walked change₂ same_change₂ one.right right rs₃ n₃ q right_done in
            let w = walked_more rs n change suits (sides ++ one.left ∷ []) rs₂ n₂ left_walked change₂ same_change₂ one.right right rs₃ n₃ q right_done in
            record {
              gained = subst (λ l. Gained rs n (map (arg rs change) l) rs₃ n₃) sides_more w;
              lefts = each (λ c d. Became rs change c.left rs₃ n₃ d.left)
                  (λ j lt. became_later rs change (get_or old j no_condition).left rs₂ rs₃ n₂ n₃ (get_or new j no_condition).left e₂ (became_later rs change (get_or old j no_condition).left rs₁ rs₂ n₁ n₂ (get_or new j no_condition).left e₁ (h.lefts j lt)))
                  (became_later rs change one.left rs₂ rs₃ n₂ n₃ p e₂ (left_done.inside, at_left));
              rights = each (λ c d. Became rs change c.right rs₃ n₃ d.right)
                  (λ j lt. became_later rs change (get_or old j no_condition).right rs₂ rs₃ n₂ n₃ (get_or new j no_condition).right e₂ (became_later rs change (get_or old j no_condition).right rs₁ rs₂ n₁ n₂ (get_or new j no_condition).right e₁ (h.rights j lt)))
                  (right_done.inside, at_right);
              signs = each (λ c d. d.sign ≡ c.sign) h.signs (ap (λ (d : Condition). d.sign) (h.rest k (omega arith)));
              rest = λ j le. get_or-set_other new k j made no_condition (omega arith) ∙ h.rest j (omega arith);
            }
