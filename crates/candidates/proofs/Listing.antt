-- Conditions and places that are listed one after another.
use Rattle.std.proofs.Common.{◌≡◌, ℕ, ◌+◌, ◌<◌, List, [], ◌∷◌, ◌++◌, length, get_or, take, drop, set, IsErrAnd, Ok, Err, Option, Result, sym, refl, ap, ◌∙◌, subst, arith, take-append-drop}
use Rattle.std.specs.List.{ContainsAt as Has}
use Rattle.std.proofs.lemmas.List.{take_more}
use Rattle.fault.specs.declared.TableFault.{TableFault}
use Rattle.fault.specs.declared.TableFault.TheVariants.{TermsExhausted}
use Rattle.sheet.specs.declared.syntax.Equation.{Equation}
use Rattle.sheet.proofs.Arrays.{set_more}
use Rattle.terms.specs.declared.Condition.{Condition}
use Rattle.terms.specs.declared.Sign.{Sign}
use Rattle.terms.specs.declared.TermRecord.{TermRecord}
use Rattle.terms.specs.Terms.{Term, Literal}
use Rattle.terms.specs.Bank.{Extends}
use Rattle.closure.specs.Labels.{no_condition}
use Rattle.banks.specs.Room.{HasAll, Throughout}
use Rattle.banks.specs.Gains.{Gained, Overfull}
use Rattle.banks.proofs.Gaining.{all_left}
use Rattle.forms.specs.Candidate.{no_term}
use Rattle.forms.specs.Counted.{sides_of}
use Rattle.candidates.specs.declared.conditions.Conditions.{Conditions}
use Rattle.candidates.specs.Working.{At, Added, Walked, Made, Stands, Listed, Vectored, Joined, no_literal}
use Rattle.candidates.proofs.Walking.{walked_more, walked_refused}

-- past the end
abbrev pub no_equation : Equation
no_equation = record { left = 0; right = 0 }

-- what a `?` hands on
pub added_break : {A : Type 0} (rs : List TermRecord) (n : ℕ) (ts : List Term) (rs' : List TermRecord) (n' : ℕ) (P : A → Type 0) (e : TableFault) (r : Result A TableFault) → e ≡ TermsExhausted → Overfull rs n ts × Extends rs n rs' n' → IsErrAnd r (λ y. y ≡ e) → Added rs n ts rs' n' P r
added_break rs n ts rs' n' P e (Ok a) is h by = absurd by
added_break rs n ts rs' n' P e (Err y) is h by = (by ∙ is, h.0, h.1)

-- what is true of the bank of a memory is true of the bank that was lent to it
pub left : (Q : List TermRecord → ℕ → Type 0) (rs rs' : List TermRecord) (n n' : ℕ) → rs' ≡ rs → n' ≡ n → Q rs n → Q rs' n'
left Q rs rs' n n' p q h = subst (λ m. Q rs' m) (sym q) (subst (λ xs. Q xs n) (sym p) h)

-- the terms of conditions
pub sides_append : (xs ys : List Literal) → sides_of (xs ++ ys) ≡ sides_of xs ++ sides_of ys
sides_append [] ys = refl
sides_append (x ∷ xs) ys = ap (λ (ts : List Term). x.left ∷ x.right ∷ ts) (sides_append xs ys)

pub sides_more : (ls : List Literal) (i : ℕ) → i < length ls → sides_of (take (i + 1) ls) ≡ sides_of (take i ls) ++ sides_of (get_or ls i no_literal ∷ [])
sides_more ls i lt = ap sides_of (take_more ls i no_literal lt) ∙ sides_append (take i ls) (get_or ls i no_literal ∷ [])

sides_part : (ls : List Literal) (m : ℕ) (all : List Term) → HasAll all (sides_of ls) → HasAll all (sides_of (take m ls))
sides_part ls m all h =
    let e : sides_of ls ≡ sides_of (take m ls) ++ sides_of (drop m ls) = ap sides_of (sym (take-append-drop m ls)) ∙ sides_append (take m ls) (drop m ls) in
    all_left (Throughout (Has all)) (sides_of (take m ls)) (sides_of (drop m ls)) (subst (HasAll all) e h)

terms_part : (ts : List Term) (m : ℕ) (all : List Term) → HasAll all ts → HasAll all (take m ts)
terms_part ts m all h = all_left (Throughout (Has all)) (take m ts) (drop m ts) (subst (HasAll all) (sym (take-append-drop m ts)) h)

pub literal_same : {a b c d : Term} {s t : Sign} → a ≡ c → b ≡ d → s ≡ t → ◌≡◌ {A = Literal} (record { left = a; right = b; sign = s }) (record { left = c; right = d; sign = t })
literal_same p q r = λ i. record { left = p i; right = q i; sign = r i }

module _ (rs rs' : List TermRecord) (n n' : ℕ) (x : Extends rs n rs' n') where
  pub stands_later : (l : Literal) (c : Condition) → Stands rs n l c → Stands rs' n' l c
  stands_later l c s =
      record {
        lefts = omega (arith, s.lefts, x.more);
        rights = omega (arith, s.rights, x.more);
        literal = literal_same (x.stays c.left s.lefts).1 (x.stays c.right s.rights).1 refl ∙ s.literal;
      }

  pub listed_later : (ls : List Literal) (m : ℕ) (cs : List Condition) → Listed rs n ls m cs → Listed rs' n' ls m cs
  listed_later ls m cs h k lt = stands_later (get_or ls k no_literal) (get_or cs k no_condition) (h k lt)

  pub vectored_later : (ts : List Term) (m : ℕ) (ps : List ℕ) → Vectored rs n ts m ps → Vectored rs' n' ts m ps
  vectored_later ts m ps h k lt = (omega (arith, (h k lt).0, x.more), (x.stays (get_or ps k 0) (h k lt).0).1 ∙ (h k lt).1)

module _ {values v : List Term} {places names : List ℕ} {rs : List TermRecord} {n i : ℕ} {rs₁ : List TermRecord} {n₁ : ℕ} {known₁ : List (Option ℕ)} where
  -- one more condition, or none for want of terms
  module _ (ls : List Literal) {l : Literal} (inside : i < length ls) (is : l ≡ get_or ls i no_literal) (w : Walked values v places names rs n (sides_of (take i ls)) rs₁ n₁ known₁) where
    more : sides_of (take i ls) ++ sides_of (l ∷ []) ≡ sides_of (take (i + 1) ls)
    more = ap (λ (x : Literal). sides_of (take i ls) ++ sides_of (x ∷ [])) is ∙ sym (sides_more ls i inside)

    pub asked_more : {rs₂ : List TermRecord} {n₂ : ℕ} {known₂ : List (Option ℕ)} (cs : List Condition) {c : Condition} → i < length cs → Listed rs₁ n₁ ls i cs → length rs₂ ≡ length rs₁ → Gained rs₁ n₁ (sides_of (l ∷ [])) rs₂ n₂ → Made values rs₂ n₂ known₂ (Stands rs₂ n₂ l) c → Walked values v places names rs n (sides_of (take (i + 1) ls)) rs₂ n₂ known₂ × Listed rs₂ n₂ ls (i + 1) (set cs i c)
    asked_more {rs₂} {n₂} {known₂} cs {c} room listed long g m = (
      subst (λ ts. Walked values v places names rs n ts rs₂ n₂ known₂) more (walked_more w long g m),
      set_more (λ k. Stands rs₂ n₂ (get_or ls k no_literal)) cs i c no_condition room (listed_later rs₁ rs₂ n₁ n₂ g.extends ls i cs listed) (subst (λ x. Stands rs₂ n₂ x c) is m.made),
    )

    pub asked_break : {rs₂ : List TermRecord} {n₂ : ℕ} → Overfull rs₁ n₁ (sides_of (l ∷ [])) → Extends rs₁ n₁ rs₂ n₂ → Overfull rs n (sides_of ls) × Extends rs n rs₂ n₂
    asked_break over x =
        walked_refused w (sides_of (l ∷ [])) (sides_of ls) (λ all h. subst (HasAll all) (sym more) (sides_part ls (i + 1) all h)) over x

  -- one more place
  module _ (ts : List Term) {t : Term} (inside : i < length ts) (is : t ≡ get_or ts i no_term) (w : Walked values v places names rs n (take i ts) rs₁ n₁ known₁) where
    more_places : take i ts ++ t ∷ [] ≡ take (i + 1) ts
    more_places = ap (λ (x : Term). take i ts ++ x ∷ []) is ∙ sym (take_more ts i no_term inside)

    pub placed_more : {rs₂ : List TermRecord} {n₂ : ℕ} {known₂ : List (Option ℕ)} (ps : List ℕ) {p : ℕ} → i < length ps → Vectored rs₁ n₁ ts i ps → length rs₂ ≡ length rs₁ → Gained rs₁ n₁ (t ∷ []) rs₂ n₂ → Made values rs₂ n₂ known₂ (At rs₂ n₂ t) p → Walked values v places names rs n (take (i + 1) ts) rs₂ n₂ known₂ × Vectored rs₂ n₂ ts (i + 1) (set ps i p)
    placed_more {rs₂} {n₂} {known₂} ps {p} room vectored long g m = (
      subst (λ us. Walked values v places names rs n us rs₂ n₂ known₂) more_places (walked_more w long g m),
      set_more (λ k. At rs₂ n₂ (get_or ts k no_term)) ps i p 0 room (vectored_later rs₁ rs₂ n₁ n₂ g.extends ts i ps vectored) (m.made.0, m.made.1 ∙ is),
    )

    pub placed_break : {rs₂ : List TermRecord} {n₂ : ℕ} → Overfull rs₁ n₁ (t ∷ []) → Extends rs₁ n₁ rs₂ n₂ → Overfull rs n ts × Extends rs n rs₂ n₂
    placed_break over x =
        walked_refused w (t ∷ []) ts (λ all h. subst (HasAll all) (sym more_places) (terms_part ts (i + 1) all h)) over x

-- the row's own conditions stand behind
pub joined : (rs : List TermRecord) (n : ℕ) (ls : List Literal) (own list : List Condition) (c : Conditions) (q : ℕ) → length ls ≡ q → Listed rs n ls q list → c.used ≡ q + length own → ((k : ℕ) → k < q → get_or c.list k no_condition ≡ get_or list k no_condition) → ((k : ℕ) → k < length own → get_or c.list (q + k) no_condition ≡ get_or own k no_condition) → length c.list ≡ 22 → Joined rs n ls own c
joined rs n ls own list c q long listed used front back room =
    record {
      used = omega (arith, used);
      front = λ k lt. subst (Stands rs n (get_or ls k no_literal)) (sym (front k (omega arith))) (listed k (omega arith));
      back = λ k lt. ap (λ m. get_or c.list (m + k) no_condition) long ∙ back k lt;
      long = room;
    }
