-- What a change makes of the bank's terms, node by node, and what it adds to the bank.
use Rattle.std.proofs.Common.{◌≡◌, ℕ, zero, suc, ◌<◌, ◌≤◌, true, eqb, List, [], ◌∷◌, ◌++◌, map, length, get_or, set, IsErrAnd, Some, None, Ok, Err, Option, Result, sym, refl, ap, ◌∙◌, subst, ⊎_elim, arith}
use Rattle.std.specs.List.{ContainsAt as Has}
use Rattle.std.proofs.ByRecursion.{All-append}
use Rattle.std.proofs.lemmas.List.{get_or-set_same, get_or-set_other, set_past}
use Rattle.std.proofs.lemmas.Bool.{cond-true, cond-false, cases_Bool, cases_lt, ltb-true, eqb-true, eqb-false, eq-eqb}
use Rattle.std.proofs.lemmas.Option.{none-some}
use Rattle.fault.specs.declared.TableFault.{TableFault}
use Rattle.terms.specs.declared.Node.{Node}
use Rattle.terms.specs.declared.Node.TheVariants.{Name, Constant, Unary, Binary, Ternary}
use Rattle.terms.specs.declared.TermRecord.{TermRecord}
use Rattle.terms.specs.Terms.{Term, name, same, replaced, renamed}
use Rattle.terms.specs.Bank.{Bank, Extends, Interned, Filed, Fit, node_at, term_of, term_at}
use Rattle.terms.proofs.Filing.{extends_none, extends_more}
use Rattle.terms.proofs.Changing.{replaced_of}
use Rattle.terms.proofs.Same.{same_self, same_true}
use Rattle.terms.proofs.Standing.{term_at-ordered, term_of-same}
use Rattle.banks.specs.Room.{Throughout, HasAll}
use Rattle.banks.specs.Gains.{Gained, Overfull}
use Rattle.banks.proofs.Gaining.{gained_none, gained_held, gained_more, gained_as, gained_interned, overfull_interned, overfull_later, overfull_as, all_left}
use Rattle.folding.specs.declared.change.Change.{Change}
use Rattle.folding.specs.declared.change.Change.TheVariants.{Replace, Rename}
use Rattle.folding.specs.Rewriting.{changed, arg, Suits, renamed_name, stopped, is_spared, Known, AddedAt, Refused, Adding}

pub added_own : (rs : List TermRecord) (n place : ℕ) (node : Node) → Bank rs n → place < n → node_at rs place ≡ node → AddedAt rs n (term_of (term_at rs) node) rs n place
added_own rs n place node b lt is =
    let e = term_at-ordered rs n b.ordered place lt ∙ ap (term_of (term_at rs)) is in
    record { gained = gained_held rs n (term_of (term_at rs) node) b (place, lt, e); inside = lt; is = e }

pub added_interned : (rs rs' : List TermRecord) (n n' : ℕ) (t : Term) (node : Node) (r : Result ℕ TableFault) → Bank rs n → 512 ≤ length rs → Interned rs n t rs' n' r → Filed rs n node rs' n' r → Adding rs n t rs' n' r
added_interned rs rs' n n' t node (Ok p) b long h f = record { gained = gained_interned rs rs' n n' t p h; inside = h.2; is = h.3 }
added_interned rs rs' n n' t node (Err e) b long h f =
    record { fault = h.0; over = overfull_interned rs rs' n n' t e b long h; extends = subst (λ m. Extends rs n rs' m) (sym f.1) (subst (λ l. Extends rs n l n) (sym f.0) (extends_none rs n b)) }

pub adding_extends : (rs rs' : List TermRecord) (n n' : ℕ) (t : Term) (r : Result ℕ TableFault) → Adding rs n t rs' n' r → Extends rs n rs' n'
adding_extends rs rs' n n' t (Ok p) h = h.gained.extends
adding_extends rs rs' n n' t (Err e) h = h.extends

module _ (rs rs' : List TermRecord) (n n' : ℕ) (e : Extends rs n rs' n') where
  pub changed_stays : (change : Change) → Suits n change → (t : Term) → changed rs' change t ≡ changed rs change t
  changed_stays (Replace old x) suits t = ap (λ o. replaced o (name x) t) (e.stays old suits.0).1
  changed_stays (Rename to) suits t = refl

  pub arg_stays : (change : Change) → Suits n change → (a : ℕ) → a < n → arg rs' change a ≡ arg rs change a
  arg_stays change suits a lt = changed_stays change suits (term_at rs' a) ∙ ap (changed rs change) (e.stays a lt).1

  pub suits_later : (change : Change) → Suits n change → Suits n' change
  suits_later (Replace old x) suits = (omega (arith, suits.0, e.more), suits.1)
  suits_later (Rename to) suits = suits

  pub known_later : (change : Change) → Suits n change → (known : List (Option ℕ)) → Known rs n change known → Known rs' n' change known
  known_later change suits known h i p is =
      let k = h i p is in
      (omega (arith, k.0, e.more), omega (arith, k.1, e.more), ap (λ t. same t (arg rs' change i)) (e.stays p k.1).1 ∙ (ap (same (term_at rs p)) (arg_stays change suits i k.0) ∙ k.2))

pub known_set : (rs : List TermRecord) (n : ℕ) (change : Change) (known : List (Option ℕ)) (place p : ℕ) → Known rs n change known → place < n → p < n → term_at rs p ≡ arg rs change place → Known rs n change (set known place (Some p))
known_set rs n change known place p h lt inside is i q e =
    ⊎_elim (λ here. at here (eqb-true i place here)) (λ there. h i q (sym (get_or-set_other known place i (Some p) None (eqb-false i place there)) ∙ e)) (cases_Bool (eqb i place))
  where
    at : eqb i place ≡ true → i ≡ place → (i < n) × (q < n) × (same (term_at rs q) (arg rs change i) ≡ true)
    at _ same' =
        ⊎_elim
        (λ short. (let w : ◌≡◌ {A = Option ℕ} (Some p) (Some q) = sym (get_or-set_same known place (Some p) None short) ∙ (ap (λ k. get_or (set known place (Some p)) k None) (sym same') ∙ e) in
        let v : p ≡ q = cc in
        let u : term_at rs q ≡ arg rs change i = ap (term_at rs) (sym v) ∙ (is ∙ ap (arg rs change) (sym same')) in
        (omega (arith, same'), omega (arith, v), ap (λ t. same t (arg rs change i)) u ∙ same_self (arg rs change i))))
        (λ past. h i q (ap (λ l. get_or l i None) (sym (set_past known place (Some p) past)) ∙ e))
        (cases_lt place (length known))

-- where a change looks no further down, and where it does
module _ (rs : List TermRecord) (n : ℕ) (b : Bank rs n) (place : ℕ) (lt : place < n) where
  replaced_here : (old x : ℕ) → place ≡ old → arg rs (Replace old x) place ≡ name x
  replaced_here old x is =
      ap (replaced (term_at rs old) (name x)) (term_at-ordered rs n b.ordered place lt)
      ∙ (replaced_of (term_at rs old) (name x) (term_at rs) (node_at rs place)
      ∙ cond-true (same (term_of (term_at rs) (node_at rs place)) (term_at rs old)) (name x) _ (ap (λ t. same t (term_at rs old)) (sym (term_at-ordered rs n b.ordered place lt) ∙ ap (term_at rs) is) ∙ same_self (term_at rs old)))

  replaced-below : (old x : ℕ) → old < n → (place ≡ old → ⊥) → arg rs (Replace old x) place ≡ term_of (arg rs (Replace old x)) (node_at rs place)
  replaced-below old x inside other =
      ap (replaced (term_at rs old) (name x)) (term_at-ordered rs n b.ordered place lt)
      ∙ (replaced_of (term_at rs old) (name x) (term_at rs) (node_at rs place)
      ∙ cond-false (same (term_of (term_at rs) (node_at rs place)) (term_at rs old)) (name x) _ (⊎_elim (λ t. absurd (other (b.once place old lt inside (term_at-ordered rs n b.ordered place lt ∙ same_true (term_of (term_at rs) (node_at rs place)) (term_at rs old) t)))) (λ f. f) (cases_Bool (same (term_of (term_at rs) (node_at rs place)) (term_at rs old)))))

  renamed_stop : (to : List ℕ) (node new : Node) → ((y : ℕ) → get_or to y 0 < 32) → renamed_name to node ≡ Some new → (m : ℕ) (at : ℕ → Term) → Fit m new × (term_of at new ≡ renamed (λ y. get_or to y 0) (term_of (term_at rs) node))
  renamed_stop to (Name y) new small is m at = let e : Name (get_or to y 0) ≡ new = cc in (subst (Fit m) e (small y), ap (term_of at) (sym e))
  renamed_stop to (Constant f) new small is m at = absurd (none-some new is)
  renamed_stop to (Unary f a) new small is m at = absurd (none-some new is)
  renamed_stop to (Binary f a c) new small is m at = absurd (none-some new is)
  renamed_stop to (Ternary f a c d) new small is m at = absurd (none-some new is)

  renamed_on : (to : List ℕ) (node : Node) → renamed_name to node ≡ None → renamed (λ y. get_or to y 0) (term_of (term_at rs) node) ≡ term_of (arg rs (Rename to)) node
  renamed_on to (Name y) is = absurd (none-some (Name (get_or to y 0)) (sym is))
  renamed_on to (Constant f) is = refl
  renamed_on to (Unary f a) is = refl
  renamed_on to (Binary f a c) is = refl
  renamed_on to (Ternary f a c d) is = refl

  pub stopped_some : (change : Change) → Suits n change → (new : Node) → stopped change place (node_at rs place) ≡ Some new → (m : ℕ) (at : ℕ → Term) → Fit m new × (term_of at new ≡ arg rs change place)
  stopped_some (Replace old x) suits new is m at =
      ⊎_elim
      (λ here. (let e : ◌≡◌ {A = Option Node} (Some (Name x)) (Some new) = sym (cond-true (eqb place old) (Some (Name x)) None here) ∙ is in
      let v : Name x ≡ new = cc in
      (subst (Fit m) v suits.1, ap (term_of at) (sym v) ∙ sym (replaced_here old x (eqb-true place old here)))))
      (λ there. absurd (none-some new (sym (cond-false (eqb place old) (Some (Name x)) None there) ∙ is)))
      (cases_Bool (eqb place old))
  stopped_some (Rename to) suits new is m at =
      let r = renamed_stop to (node_at rs place) new suits is m at in (r.0, r.1 ∙ ap (renamed (λ y. get_or to y 0)) (sym (term_at-ordered rs n b.ordered place lt)))

  pub stopped_none : (change : Change) → Suits n change → stopped change place (node_at rs place) ≡ None → arg rs change place ≡ term_of (arg rs change) (node_at rs place)
  stopped_none (Replace old x) suits is =
      replaced-below old x suits.0 (λ e. none-some (Name x) (sym is ∙ cond-true (eqb place old) (Some (Name x)) None (eq-eqb place old e)))
  stopped_none (Rename to) suits is = ap (renamed (λ y. get_or to y 0)) (term_at-ordered rs n b.ordered place lt) ∙ renamed_on to (node_at rs place) is

-- what is replaced stands in no term at a lower place
replaced_lower : (rs : List TermRecord) (n : ℕ) → Bank rs n → (old x : ℕ) → old < n → (k place : ℕ) → place < k → place < old → arg rs (Replace old x) place ≡ term_at rs place
replaced_lower rs n b old x inside zero place low lt = absurd (omega arith)
replaced_lower rs n b old x inside (suc k) place low lt =
    let here : place < n = omega arith in
    replaced-below rs n b place here old x inside (λ e. absurd (omega (arith, e)))
    ∙ (term_of-same (arg rs (Replace old x)) (term_at rs) place (node_at rs place) (b.ordered.fit place here) (λ a less. replaced_lower rs n b old x inside k a (omega arith) (omega arith))
    ∙ sym (term_at-ordered rs n b.ordered place here))

pub spared : (rs : List TermRecord) (n : ℕ) → Bank rs n → (change : Change) → Suits n change → (place : ℕ) → is_spared change place ≡ true → arg rs change place ≡ term_at rs place
spared rs n b (Replace old x) suits place is = replaced_lower rs n b old x suits.0 (suc place) place (omega arith) (ltb-true place old is)
spared rs n b (Rename to) suits place is = let z : ◌≡◌ {A = ℕ} 0 1 = cc in absurd (omega arith)

map-push-arg : (f : ℕ → Term) (done : List ℕ) (a : ℕ) → map f done ++ f a ∷ [] ≡ map f (done ++ a ∷ [])
map-push-arg f [] a = refl
map-push-arg f (x ∷ done) a = ap (λ l. f x ∷ l) (map-push-arg f done a)

module _ (rs : List TermRecord) (n : ℕ) (change : Change) (suits : Suits n change) where
  module _ (done : List ℕ) (rs₁ : List TermRecord) (n₁ : ℕ) (g₁ : Gained rs n (map (arg rs change) done) rs₁ n₁) (change₁ : Change) (same_change : change₁ ≡ change) (a : ℕ) (lt : a < n) (rs₂ : List TermRecord) (n₂ : ℕ) where
    pub is_arg : arg rs₁ change₁ a ≡ arg rs change a
    is_arg = ap (λ c. arg rs₁ c a) same_change ∙ arg_stays rs rs₁ n n₁ g₁.extends change suits a lt

    push_arg : map (arg rs change) done ++ arg rs₁ change₁ a ∷ [] ≡ map (arg rs change) (done ++ a ∷ [])
    push_arg = ap (λ t. map (arg rs change) done ++ t ∷ []) is_arg ∙ map-push-arg (arg rs change) done a

    pub walked_more : (p : ℕ) → Adding rs₁ n₁ (arg rs₁ change₁ a) rs₂ n₂ (Ok p) → Gained rs n (map (arg rs change) (done ++ a ∷ [])) rs₂ n₂
    walked_more p r =
        subst (λ ts. Gained rs n ts rs₂ n₂) push_arg (gained_more rs rs₁ n n₁ (map (arg rs change) done) g₁ (arg rs₁ change₁ a ∷ []) rs₂ n₂ r.gained)

    pub walked_at : (p : ℕ) → Adding rs₁ n₁ (arg rs₁ change₁ a) rs₂ n₂ (Ok p) → term_at rs₂ p ≡ arg rs change a
    walked_at p r = r.is ∙ is_arg

    pub walked_broken : (e : TableFault) → Adding rs₁ n₁ (arg rs₁ change₁ a) rs₂ n₂ (Err e) → Refused rs n (map (arg rs change) (done ++ a ∷ [])) rs₂ n₂ e
    walked_broken e r =
        record {
          fault = r.fault;
          over = subst (Overfull rs n) push_arg (overfull_later rs rs₁ n n₁ (map (arg rs change) done) g₁ (arg rs₁ change₁ a ∷ []) r.over);
          extends = extends_more rs rs₁ rs₂ n n₁ n₂ g₁.extends r.extends;
        }

  -- the term itself, after its arguments
  pub settled : (done : List ℕ) (place : ℕ) → place < n → ((all : List Term) → HasAll all (arg rs change place ∷ []) → HasAll all (map (arg rs change) done)) → (rs₁ : List TermRecord) (n₁ : ℕ) → Gained rs n (map (arg rs change) done) rs₁ n₁ → (change₁ : Change) → change₁ ≡ change → (rs' : List TermRecord) (n' : ℕ) (r : Result ℕ TableFault) → Adding rs₁ n₁ (arg rs₁ change₁ place) rs' n' r → Adding rs n (arg rs change place) rs' n' r
  settled done place lt inside rs₁ n₁ g₁ change₁ same_change rs' n' (Ok p) f =
      let t = arg rs change place in
      let g = walked_more done rs₁ n₁ g₁ change₁ same_change place lt rs' n' p f in
      let at = walked_at done rs₁ n₁ g₁ change₁ same_change place lt rs' n' p f in
      record {
        gained = gained_as rs rs' n n' (map (arg rs change) (done ++ place ∷ [])) g (t ∷ []) (λ all h. with_own all (inside all h) h) ((p, f.inside, at), tt);
        inside = f.inside;
        is = at;
      }
    where
      with_own : (all : List Term) → HasAll all (map (arg rs change) done) → HasAll all (arg rs change place ∷ []) → HasAll all (map (arg rs change) (done ++ place ∷ []))
      with_own all some own = subst (HasAll all) (map-push-arg (arg rs change) done place) (All-append (Throughout (Has all)) (map (arg rs change) done) (arg rs change place ∷ []) some own)
  settled done place lt inside rs₁ n₁ g₁ change₁ same_change rs' n' (Err e) f =
      let t = arg rs change place in
      let w = walked_broken done rs₁ n₁ g₁ change₁ same_change place lt rs' n' e f in
      record {
        fault = w.fault;
        over = overfull_as rs n (map (arg rs change) (done ++ place ∷ [])) (t ∷ []) (λ all h. subst (HasAll all) (map-push-arg (arg rs change) done place) (All-append (Throughout (Has all)) (map (arg rs change) done) (t ∷ []) (inside all h) h)) w.over;
        extends = w.extends;
      }

-- a way out for want of terms
pub broken_off : (rs : List TermRecord) (n : ℕ) (change : Change) (place : ℕ) (some more : List ℕ) → ((all : List Term) → HasAll all (arg rs change place ∷ []) → HasAll all (map (arg rs change) (some ++ more))) → (rs' : List TermRecord) (n' : ℕ) (e : TableFault) → Refused rs n (map (arg rs change) some) rs' n' e → (r : Result ℕ TableFault) → IsErrAnd r (λ x. x ≡ e) → Adding rs n (arg rs change place) rs' n' r
broken_off rs n change place some more inside rs' n' e h (Ok p) is = absurd is
broken_off rs n change place some more inside rs' n' e h (Err x) is =
    record {
      fault = is ∙ h.fault;
      over = overfull_as rs n (map (arg rs change) some) (arg rs change place ∷ []) (λ all m. all_left (Throughout (Has all)) (map (arg rs change) some) (map (arg rs change) more) (subst (HasAll all) (map-append-arg (arg rs change) some more) (inside all m))) h.over;
      extends = h.extends;
    }
  where
    map-append-arg : (f : ℕ → Term) (xs ys : List ℕ) → map f (xs ++ ys) ≡ map f xs ++ map f ys
    map-append-arg f [] ys = refl
    map-append-arg f (x ∷ xs) ys = ap (λ l. f x ∷ l) (map-append-arg f xs ys)

-- a node's places
abbrev pub places_of : Node → List ℕ
places_of (Name x) = []
places_of (Constant f) = []
places_of (Unary f a) = a ∷ []
places_of (Binary f a b) = a ∷ b ∷ []
places_of (Ternary f a b c) = a ∷ b ∷ c ∷ []

-- a place of the bank where the change looks further down
pub record Site (rs : List TermRecord) (n : ℕ) (change : Change) (place : ℕ) (node : Node) : Type 0 where
  pub fit : Fit n node
  pub is : arg rs change place ≡ term_of (arg rs change) node

-- the places that are done, and the bank and the change as they are then
pub record Underway (rs : List TermRecord) (n : ℕ) (change : Change) (done : List ℕ) (rs' : List TermRecord) (n' : ℕ) (change' : Change) : Type 0 where
  pub gained : Gained rs n (map (arg rs change) done) rs' n'
  pub same_change : change' ≡ change

fit_later : (m n : ℕ) (node : Node) → m < n → Fit m node → Fit n node
fit_later m n (Name x) lt h = h
fit_later m n (Constant f) lt h = h
fit_later m n (Unary f a) lt h = omega (arith, lt, h)
fit_later m n (Binary f a b) lt h = (omega (arith, lt, h.0), omega (arith, lt, h.1))
fit_later m n (Ternary f a b c) lt h = (omega (arith, lt, h.0), omega (arith, lt, h.1), omega (arith, lt, h.2))

-- the changed arguments stand in the changed term
places_have : (at : ℕ → Term) (t : Term) (node : Node) → t ≡ term_of at node → (all : List Term) → HasAll all (t ∷ []) → HasAll all (map at (places_of node))
places_have at t (Name x) is all h = tt
places_have at t (Constant f) is all h = tt
places_have at t (Unary f a) is all h = ((subst (Throughout (Has all)) is h.0).1, tt)
places_have at t (Binary f a b) is all h = let w = subst (Throughout (Has all)) is h.0 in (w.1, (w.2, tt))
places_have at t (Ternary f a b c) is all h = let w = subst (Throughout (Has all)) is h.0 in (w.1, (w.2, (w.3, tt)))

module _ {rs : List TermRecord} {n : ℕ} {change : Change} (suits : Suits n change) where
  pub site : Bank rs n → {place : ℕ} → place < n → stopped change place (node_at rs place) ≡ None → {node : Node} → node_at rs place ≡ node → Site rs n change place node
  site b {place} lt none {node} is =
      record { fit = fit_later place n node lt (subst (Fit place) is (b.ordered.fit place lt)); is = stopped_none rs n b place lt change suits none ∙ ap (term_of (arg rs change)) is }

  pub underway_none : Bank rs n → Underway rs n change [] rs n change
  underway_none b = record { gained = gained_none rs n b; same_change = refl }

  module _ {done : List ℕ} {rs₁ : List TermRecord} {n₁ : ℕ} {change₁ : Change} (w : Underway rs n change done rs₁ n₁ change₁) where
    pub underway_more : {a : ℕ} → a < n → {change₂ : Change} → change₂ ≡ change₁ → {p n₂ : ℕ} {rs₂ : List TermRecord} → AddedAt rs₁ n₁ (arg rs₁ change₁ a) rs₂ n₂ p → Underway rs n change (done ++ a ∷ []) rs₂ n₂ change₂
    underway_more {a} lt same_change {p} {n₂} {rs₂} h =
        record { gained = walked_more rs n change suits done rs₁ n₁ w.gained change₁ w.same_change a lt rs₂ n₂ p h; same_change = same_change ∙ w.same_change }

    pub underway_at : {a : ℕ} → a < n → {p n₂ : ℕ} {rs₂ : List TermRecord} → AddedAt rs₁ n₁ (arg rs₁ change₁ a) rs₂ n₂ p → term_at rs₂ p ≡ arg rs change a
    underway_at {a} lt {p} {n₂} {rs₂} h = walked_at rs n change suits done rs₁ n₁ w.gained change₁ w.same_change a lt rs₂ n₂ p h

    module _ {place : ℕ} (lt : place < n) {node : Node} (at : Site rs n change place node) where
      pub underway_is : arg rs₁ change₁ place ≡ term_of (arg rs change) node
      underway_is = is_arg rs n change suits done rs₁ n₁ w.gained change₁ w.same_change place lt rs₁ n₁ ∙ at.is

      -- no room for an argument
      pub underway_broken : {a : ℕ} → a < n → (more : List ℕ) → (done ++ a ∷ []) ++ more ≡ places_of node → {e : TableFault} {n' : ℕ} {rs' : List TermRecord} → Refused rs₁ n₁ (arg rs₁ change₁ a ∷ []) rs' n' e → (r : Result ℕ TableFault) → IsErrAnd r (λ x. x ≡ e) → Adding rs n (arg rs change place) rs' n' r
      underway_broken {a} inside more are {e} {n'} {rs'} h r fails =
          broken_off rs n change place (done ++ a ∷ []) more (λ all m. subst (λ l. HasAll all (map (arg rs change) l)) (sym are) (places_have (arg rs change) (arg rs change place) node at.is all m)) rs' n' e
          (walked_broken rs n change suits done rs₁ n₁ w.gained change₁ w.same_change a inside rs' n' e h) r fails

      -- the term itself, after its arguments
      pub underway_settled : done ≡ places_of node → (rs' : List TermRecord) (n' : ℕ) (r : Result ℕ TableFault) → Adding rs₁ n₁ (arg rs₁ change₁ place) rs' n' r → Adding rs n (arg rs change place) rs' n' r
      underway_settled are rs' n' r h =
          settled rs n change suits done place lt (λ all m. subst (λ l. HasAll all (map (arg rs change) l)) (sym are) (places_have (arg rs change) (arg rs change place) node at.is all m)) rs₁ n₁ w.gained change₁ w.same_change rs' n' r h
