-- A row changed throughout, from its vector and its conditions.
use Rattle.std.proofs.Common.{◌≡◌, ℕ, suc, ◌<◌, List, [], ◌∷◌, ◌++◌, map, length, get_or, take, drop, replicate, length-append, None, sym, refl, ap, ◌∙◌, subst, arith}
use Rattle.std.specs.List.{ContainsAt as Has}
use Rattle.std.proofs.lemmas.List.{length-take-le, get_or-take}
use Rattle.std.proofs.lemmas.Option.{none-some}
use Rattle.std.proofs.lemmas.Simd.{map-map}
use Rattle.fault.specs.declared.TableFault.{TableFault}
use Rattle.sheet.specs.System.{System}
use Rattle.sheet.proofs.Memos.{nones}
use Rattle.terms.specs.declared.Condition.{Condition}
use Rattle.terms.specs.declared.TermRecord.{TermRecord}
use Rattle.terms.specs.Terms.{Term, Literal}
use Rattle.terms.specs.Bank.{Extends, term_at, literal_of}
use Rattle.terms.proofs.Filing.{extends_more}
use Rattle.closure.specs.Labels.{no_condition}
use Rattle.banks.specs.Gains.{Gained, Overfull}
use Rattle.banks.proofs.Gaining.{gained_more, overfull_later, overfull_as, all_left}
use Rattle.banks.specs.Room.{Throughout, HasAll}
use Rattle.rows.specs.declared.row.RowRecord.{RowRecord}
use Rattle.forms.specs.Rows.{Row}
use Rattle.forms.specs.Counted.{sides_of, terms_in}
use Rattle.rows.specs.Records.{row_in, Inside}
use Rattle.folding.specs.declared.change.Change.{Change}
use Rattle.folding.specs.Rewriting.{changed, arg, Suits, Known, Became, Refused, NoRoom, PlacesChanged, side_places, ConditionsChanged}
use Rattle.folding.specs.Rewritten.{changed_in, changed_row, RowChanged}
use Rattle.folding.proofs.Changes.{arg_stays}
use Rattle.folding.proofs.Passes.{became_later}
use Rattle.folding.proofs.Entailed.{front_taken}

pub known_none : (rs : List TermRecord) (n : ℕ) (change : Change) (k : ℕ) → Known rs n change (replicate k None)
known_none rs n change k i p is = absurd (none-some p (sym (nones k i) ∙ is))

-- lists of equal length that are alike at each place
pub alike : {X Y Z : Type 0} (f : X → Z) (g : Y → Z) (d : X) (e : Y) (xs : List X) (ys : List Y) → length xs ≡ length ys → ((j : ℕ) → j < length ys → f (get_or xs j d) ≡ g (get_or ys j e)) → map f xs ≡ map g ys
alike f g d e [] [] p h = refl
alike f g d e [] (y ∷ ys) p h = absurd (omega arith)
alike f g d e (x ∷ xs) [] p h = absurd (omega arith)
alike f g d e (x ∷ xs) (y ∷ ys) p h =
    let a = h 0 (omega arith) in let b = alike f g d e xs ys (omega arith) (λ j lt. h (suc j) (omega arith)) in cc

pub literals_equal : (a b : Literal) → a.left ≡ b.left → a.right ≡ b.right → a.sign ≡ b.sign → a ≡ b
literals_equal a b p q r = λ i. record { left = p i; right = q i; sign = r i }

same_row : (a b : Row) → a.bits ≡ b.bits → a.vector ≡ b.vector → a.conditions ≡ b.conditions → a ≡ b
same_row a b p q r = λ i. record { bits = p i; vector = q i; conditions = r i }

module _ (rs : List TermRecord) (n : ℕ) (change : Change) (suits : Suits n change) (rs₁ : List TermRecord) (n₁ : ℕ) (e : Extends rs n rs₁ n₁) where
  sides_changed : (cs : List Condition) → ((k : ℕ) → k < length cs → (get_or cs k no_condition).left < n) → ((k : ℕ) → k < length cs → (get_or cs k no_condition).right < n) → map (arg rs₁ change) (side_places cs) ≡ sides_of (map (changed_in rs change) (map (literal_of rs) cs))
  sides_changed [] ls rs' = refl
  sides_changed (c ∷ cs) ls rs' =
      let a = arg_stays rs rs₁ n n₁ e change suits c.left (ls 0 (omega arith)) in
      let b = arg_stays rs rs₁ n n₁ e change suits c.right (rs' 0 (omega arith)) in
      let r = sides_changed cs (λ k lt. ls (suc k) (omega arith)) (λ k lt. rs' (suc k) (omega arith)) in
      cc

  module _ (s : System) (row : RowRecord) (inside : Inside s n 22 row) where
    side_left : (k : ℕ) → k < length (take row.used row.conditions) → (get_or (take row.used row.conditions) k no_condition).left < n
    side_left k lt =
        let long = length-take-le row.used row.conditions inside.stored in
        let e : get_or (take row.used row.conditions) k no_condition ≡ get_or row.conditions k no_condition = get_or-take row.used row.conditions k no_condition (omega arith) in
        subst (λ (c : Condition). c.left < n) (sym e) (inside.conditions.lefts k (omega arith))

    side_right : (k : ℕ) → k < length (take row.used row.conditions) → (get_or (take row.used row.conditions) k no_condition).right < n
    side_right k lt =
        let long = length-take-le row.used row.conditions inside.stored in
        let e : get_or (take row.used row.conditions) k no_condition ≡ get_or row.conditions k no_condition = get_or-take row.used row.conditions k no_condition (omega arith) in
        subst (λ (c : Condition). c.right < n) (sym e) (inside.conditions.rights k (omega arith))

    abbrev old_sides : List ℕ
    old_sides = side_places (take row.used row.conditions)

    terms_are : map (arg rs change) (take (length s.readings) row.vector) ++ map (arg rs₁ change) old_sides ≡ terms_in (changed_row rs change (row_in s rs row))
    terms_are =
        let a = map-map (changed rs change) (term_at rs) (take (length s.readings) row.vector) in
        let b = sides_changed (take row.used row.conditions) side_left side_right in
        ap (λ l. l ++ map (arg rs₁ change) old_sides) (sym a) ∙ ap (λ l. map (changed rs change) (map (term_at rs) (take (length s.readings) row.vector)) ++ l) b

    -- no room for the vector's terms, or for the conditions'
    pub vector_broken : (f : TableFault) (rs' : List TermRecord) (n' : ℕ) → NoRoom rs n change (take (length s.readings) row.vector) rs' n' f → Refused rs n (terms_in (changed_row rs change (row_in s rs row))) rs' n' f
    vector_broken f rs' n' h =
        record { fault = h.fault; extends = h.extends; over = overfull_as rs n (map (arg rs change) (take (length s.readings) row.vector)) (terms_in (changed_row rs change (row_in s rs row))) (λ all m. all_left (Throughout (Has all)) (map (arg rs change) (take (length s.readings) row.vector)) (map (arg rs₁ change) old_sides) (subst (HasAll all) (sym terms_are) m)) h.over }

    abbrev places : List ℕ
    places = take (length s.readings) row.vector

    abbrev conditions : List Condition
    conditions = take row.used row.conditions

    module _ (places' : List ℕ) (same_places : length places' ≡ length places) (p : PlacesChanged rs n change places places' rs₁ n₁) where
      pub conditions_broken : (f : TableFault) (rs' : List TermRecord) (n' : ℕ) → NoRoom rs₁ n₁ change old_sides rs' n' f → Refused rs n (terms_in (changed_row rs change (row_in s rs row))) rs' n' f
      conditions_broken f rs' n' h =
          record { fault = h.fault; extends = extends_more rs rs₁ rs' n n₁ n' p.gained.extends h.extends; over = subst (Overfull rs n) terms_are (overfull_later rs rs₁ n n₁ (map (arg rs change) places) p.gained (map (arg rs₁ change) old_sides) h.over) }

      module _ (conditions' : List Condition) (same_conditions : length conditions' ≡ length conditions) (rs₂ : List TermRecord) (n₂ : ℕ) (c : ConditionsChanged rs₁ n₁ change conditions conditions' rs₂ n₂) where
        abbrev vector' : List ℕ
        vector' = places' ++ drop (length s.readings) row.vector

        abbrev all : List Condition
        all = conditions' ++ drop row.used row.conditions

        abbrev made : RowRecord
        made = record { bits = row.bits; vector = vector'; conditions = all; used = row.used }

        place_is : (j : ℕ) → j < length places → Became rs change (get_or places j 0) rs₂ n₂ (get_or places' j 0)
        place_is j lt = became_later rs change (get_or places j 0) rs₁ rs₂ n₁ n₂ (get_or places' j 0) c.gained.extends (p.became j lt)

        literal_is : (j : ℕ) → j < length conditions → literal_of rs₂ (get_or conditions' j no_condition) ≡ changed_in rs change (literal_of rs (get_or conditions j no_condition))
        literal_is j lt =
            literals_equal (literal_of rs₂ (get_or conditions' j no_condition)) (changed_in rs change (literal_of rs (get_or conditions j no_condition)))
            ((c.lefts j lt).1 ∙ arg_stays rs rs₁ n n₁ e change suits (get_or conditions j no_condition).left (side_left j lt))
            ((c.rights j lt).1 ∙ arg_stays rs rs₁ n n₁ e change suits (get_or conditions j no_condition).right (side_right j lt))
            (c.signs j lt)

        length_places : length places ≡ length s.readings
        length_places = length-take-le (length s.readings) row.vector inside.readings

        length_conditions : length conditions ≡ row.used
        length_conditions = length-take-le row.used row.conditions inside.stored

        front : take (length s.readings) vector' ≡ places'
        front = front_taken (length s.readings) places' (drop (length s.readings) row.vector) (same_places ∙ length_places)

        taken : take row.used all ≡ conditions'
        taken = front_taken row.used conditions' (drop row.used row.conditions) (same_conditions ∙ length_conditions)

        pub row_changed : RowChanged s rs n change row rs₂ n₂ made
        row_changed =
            let place : (k : ℕ) → k < length s.readings → get_or vector' k 0 ≡ get_or places' k 0 = λ k lt. sym (get_or-take (length s.readings) vector' k 0 lt) ∙ ap (λ l. get_or l k 0) front in
            let one : (k : ℕ) → k < row.used → get_or conditions' k no_condition ≡ get_or all k no_condition = λ k lt. ap (λ l. get_or l k no_condition) (sym taken) ∙ get_or-take row.used all k no_condition lt in
            record {
              gained = subst (λ ts. Gained rs n ts rs₂ n₂) terms_are (gained_more rs rs₁ n n₁ (map (arg rs change) places) p.gained (map (arg rs₁ change) old_sides) rs₂ n₂ c.gained);
              is = same_row (row_in s rs₂ made) (changed_row rs change (row_in s rs row)) refl
                  (ap (map (term_at rs₂)) front ∙ (alike (term_at rs₂) (arg rs change) 0 0 places' places same_places (λ j lt. (place_is j lt).1) ∙ sym (map-map (changed rs change) (term_at rs) places)))
                  (ap (map (literal_of rs₂)) taken ∙ (alike (literal_of rs₂) (λ d. changed_in rs change (literal_of rs d)) no_condition no_condition conditions' conditions same_conditions literal_is ∙ sym (map-map (changed_in rs change) (literal_of rs) conditions)));
              inside = record {
                bits = inside.bits;
                readings = omega (arith, length-append places' (drop (length s.readings) row.vector), same_places, length_places);
                vector = λ k lt. (let at = (place_is k (omega (arith, length_places))).0 in omega (arith, place k lt));
                few = inside.few;
                stored = omega (arith, length-append conditions' (drop row.used row.conditions), same_conditions, length_conditions);
                conditions = record {
                  lefts = λ k lt. subst (λ (d : Condition). d.left < n₂) (one k lt) (c.lefts k (omega (arith, length_conditions))).0;
                  rights = λ k lt. subst (λ (d : Condition). d.right < n₂) (one k lt) (c.rights k (omega (arith, length_conditions))).0;
                };
              };
            }

-- what holds of the bank as it is worked on holds of it when it is given back
pub refused_back : (rs : List TermRecord) (n : ℕ) (ts : List Term) (rs' rs₁ : List TermRecord) (n' n₁ : ℕ) (e : TableFault) → Refused rs n ts rs₁ n₁ e → rs' ≡ rs₁ → n' ≡ n₁ → Refused rs n ts rs' n' e
refused_back rs n ts rs' rs₁ n' n₁ e h p q = rw (p, q) h

pub row_changed_back : (s : System) (rs : List TermRecord) (n : ℕ) (change : Change) (row : RowRecord) (rs' rs₁ : List TermRecord) (n' n₁ : ℕ) (made : RowRecord) → RowChanged s rs n change row rs₁ n₁ made → rs' ≡ rs₁ → n' ≡ n₁ → RowChanged s rs n change row rs' n' made
row_changed_back s rs n change row rs' rs₁ n' n₁ made h p q = rw (p, q) h
