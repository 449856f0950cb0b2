-- Gains follow one another, and terms that find no room are too many.
use Rattle.std.proofs.Common.{◌≡◌, ℕ, zero, suc, ◌-◌, ◌<◌, ◌≤◌, false, cond, ltb, List, [], ◌∷◌, ◌++◌, length, get_or, Ok, Err, sym, refl, ap, ◌∙◌, subst, ⊎_elim, arith}
use Rattle.std.specs.List.{ContainsAt as Has, AllByRecursion as All}
use Rattle.std.proofs.ByRecursion.{All-append, all-has, All-weaker}
use Rattle.std.proofs.lemmas.Bool.{cases_lt, cond-true, cond-false, lt-ltb}
use Rattle.std.proofs.lemmas.Bool.Decides.{nat_tests}
use Rattle.fault.specs.declared.TableFault.{TableFault}
use Rattle.terms.specs.declared.Node.{Node}
use Rattle.terms.specs.declared.Node.TheVariants.{Name, Constant, Unary, Binary, Ternary}
use Rattle.terms.specs.declared.TermRecord.{TermRecord}
use Rattle.terms.specs.Terms.{Term, name, constant, unary, binary, ternary}
use Rattle.terms.specs.Bank.{Bank, Extends, Interned, Fit, node_at, term_of, term_at}
use Rattle.terms.proofs.Standing.{term_at-ordered}
use Rattle.terms.proofs.Filing.{extends_none, extends_more, extends_interned}
use Rattle.banks.specs.Room.{Throughout, HasAll, Roomy, Crowded, Held, Holding}
use Rattle.banks.specs.Gains.{Gained, Overfull}

-- different numbers below n, each below m: n is at most m
squeeze : ℕ → ℕ → ℕ
squeeze p k = cond (ltb p k) (k - 1) k

squeezed_small : (p k m : ℕ) → p < suc m → k < suc m → (k ≡ p → ⊥) → squeeze p k < m
unfolding squeeze
squeezed_small p k m a b ne = grind (arith, nat_tests)

squeezed_apart : (p k l : ℕ) → (k ≡ p → ⊥) → (l ≡ p → ⊥) → squeeze p k ≡ squeeze p l → k ≡ l
unfolding squeeze
squeezed_apart p k l ne me e = grind (arith, nat_tests)

up : (i n : ℕ) → i < n → i < suc n
up i n lt = omega arith

pub pigeons : (n m : ℕ) (f : (i : ℕ) → i < n → ℕ) → ((i : ℕ) (p : i < n) → f i p < m) → ((i j : ℕ) (p : i < n) (q : j < n) → f i p ≡ f j q → i ≡ j) → n ≤ m
pigeons zero m f small apart = omega arith
pigeons (suc n) zero f small apart = let z = small 0 (omega arith) in absurd (omega arith)
pigeons (suc n) (suc m) f small apart =
    let last : n < suc n = omega arith in
    let other : (i : ℕ) (p : i < n) → f i (up i n p) ≡ f n last → ⊥ = λ i p e. (let z = apart i n (up i n p) last e in omega arith) in
    let ih = pigeons n m (λ i p. squeeze (f n last) (f i (up i n p)))
    (λ i p. squeezed_small (f n last) (f i (up i n p)) m (small n last) (small i (up i n p)) (other i p))
    (λ i j p q e. apart i j (up i n p) (up j n q) (squeezed_apart (f n last) (f i (up i n p)) (f j (up j n q)) (other i p) (other j q) e)) in
    omega arith

-- different terms that all stand in a list: the list is as long
pub places_enough : (g : ℕ → Term) (n : ℕ) (all : List Term) → ((i : ℕ) → i < n → Has all (g i)) → ((i j : ℕ) → i < n → j < n → g i ≡ g j → i ≡ j) → n ≤ length all
places_enough g n all has apart =
    pigeons n (length all) (λ i p. (has i p).0) (λ i p. (has i p).1)
    (λ i j p q e. apart i j p q (sym ((has i p).2 (g i)) ∙ (ap (λ k. get_or all k (g i)) e ∙ (has j q).2 (g i))))

pub all_left : {X : Type 0} (P : X → Type 0) (xs ys : List X) → All P (xs ++ ys) → All P xs
all_left P [] ys h = tt
all_left P (x ∷ xs) ys h = (h.0, all_left P xs ys h.1)

pub all_right : {X : Type 0} (P : X → Type 0) (xs ys : List X) → All P (xs ++ ys) → All P ys
all_right P [] ys h = h
all_right P (x ∷ xs) ys h = all_right P xs ys h.1

pub throughout_self : (P : Term → Type 0) (t : Term) → Throughout P t → P t
throughout_self P (name x) h = h
throughout_self P (constant f) h = h
throughout_self P (unary f a) h = h.0
throughout_self P (binary f a b) h = h.0
throughout_self P (ternary f a b c) h = h.0

pub held_later : (rs rs' : List TermRecord) (n n' : ℕ) → Extends rs n rs' n' → (t : Term) → Held rs n t → Held rs' n' t
held_later rs rs' n n' e t h = (h.0, omega (arith, h.1, e.more), (e.stays h.0 h.1).1 ∙ h.2)

pub gained_none : (rs : List TermRecord) (n : ℕ) → Bank rs n → Gained rs n [] rs n
gained_none rs n b = record { extends = extends_none rs n b; has = tt; only = λ all h k le lt. absurd (omega arith) }

-- nothing new for a term that the bank has
pub gained_held : (rs : List TermRecord) (n : ℕ) (t : Term) → Bank rs n → Held rs n t → Gained rs n (t ∷ []) rs n
gained_held rs n t b h = record { extends = extends_none rs n b; has = (h, tt); only = λ all w k le lt. absurd (omega arith) }

module _ (rs rs' : List TermRecord) (n n' : ℕ) (ts : List Term) (g : Gained rs n ts rs' n') where
  -- a list with the terms before and the gains has the terms after
  pub listed-after : (all : List Term) → ((k : ℕ) → k < n → Has all (term_at rs k)) → HasAll all ts → (k : ℕ) → k < n' → Has all (term_at rs' k)
  listed-after all before gains k lt =
      ⊎_elim (λ old. subst (Has all) (sym (g.extends.stays k old).1) (before k old)) (λ new. g.only all gains k new lt) (cases_lt k n)

  pub gained_more : (us : List Term) (rs'' : List TermRecord) (n'' : ℕ) → Gained rs' n' us rs'' n'' → Gained rs n (ts ++ us) rs'' n''
  gained_more us rs'' n'' h =
      record {
        extends = extends_more rs rs' rs'' n n' n'' g.extends h.extends;
        has = All-append (Held rs'' n'') ts us (All-weaker (Held rs' n') (Held rs'' n'') (held_later rs' rs'' n' n'' h.extends) ts g.has) h.has;
        only = λ all w k le lt. ⊎_elim
            (λ old. subst (Has all) (sym (h.extends.stays k old).1) (g.only all (all_left (Throughout (Has all)) ts us w) k le old))
            (λ new. h.only all (all_right (Throughout (Has all)) ts us w) k new lt)
            (cases_lt k n');
      }

  -- the same gains, said of terms that have them as subterms
  pub gained_as : (us : List Term) → ((all : List Term) → HasAll all us → HasAll all ts) → All (Held rs' n') us → Gained rs n us rs' n'
  gained_as us inside has = record { extends = g.extends; has = has; only = λ all w k le lt. g.only all (inside all w) k le lt }

  pub overfull_later : (us : List Term) → Overfull rs' n' us → Overfull rs n (ts ++ us)
  overfull_later us over all before w =
      over all (listed-after all before (all_left (Throughout (Has all)) ts us w)) (all_right (Throughout (Has all)) ts us w)

  pub holding_after : (seen : List Term) → Holding rs n seen → Holding rs' n' (seen ++ ts)
  holding_after seen h =
      record {
        bank = g.extends.bank;
        has = All-append (Held rs' n') seen ts (All-weaker (Held rs n) (Held rs' n') (held_later rs rs' n n' g.extends) seen h.has) g.has;
        only = λ all w. listed-after all (h.only all (all_left (Throughout (Has all)) seen ts w)) (all_right (Throughout (Has all)) seen ts w);
      }

pub overfull_as : (rs : List TermRecord) (n : ℕ) (ts us : List Term) → ((all : List Term) → HasAll all us → HasAll all ts) → Overfull rs n ts → Overfull rs n us
overfull_as rs n ts us inside over all before w = over all before (inside all w)

pub gained_interned : (rs rs' : List TermRecord) (n n' : ℕ) (t : Term) (i : ℕ) → Interned rs n t rs' n' (Ok i) → Gained rs n (t ∷ []) rs' n'
gained_interned rs rs' n n' t i h =
    record {
      extends = extends_interned rs rs' n n' t i h;
      has = ((i, h.2, h.3), tt);
      only = λ all w k le lt. ⊎_elim (λ old. absurd (omega (arith, old.1)))
          (λ new. (let e : k ≡ i = omega (arith, new.0, new.1) in subst (Has all) (sym (ap (term_at rs') e ∙ h.3)) (throughout_self (Has all) t w.0))) h.4;
    }

module _ (rs rs' : List TermRecord) (n n' : ℕ) (t : Term) (e : TableFault) (b : Bank rs n) (long : 512 ≤ length rs) (h : Interned rs n t rs' n' (Err e)) where
  -- the bank's terms, and the new one behind them
  abbrev each : ℕ → Term
  each i = cond (ltb i n) (term_at rs i) t

  each_old : (i : ℕ) → i < n → each i ≡ term_at rs i
  each_old i lt = cond-true (ltb i n) (term_at rs i) t (lt-ltb i n lt)

  each_new : (i : ℕ) → n ≤ i → each i ≡ t
  each_new i ge = let no' : ltb i n ≡ false = grind (arith, nat_tests) in cond-false (ltb i n) (term_at rs i) t no'

  each_apart : (i j : ℕ) → i < suc n → j < suc n → each i ≡ each j → i ≡ j
  each_apart i j p q is =
      ⊎_elim
      (λ a. ⊎_elim (λ c. b.once i j a c (sym (each_old i a) ∙ (is ∙ each_old j c))) (λ c. absurd (h.2 i a (sym (each_old i a) ∙ (is ∙ each_new j c)))) (cases_lt j n))
      (λ a. ⊎_elim (λ c. absurd (h.2 j c (sym (each_old j c) ∙ (sym is ∙ each_new i a)))) (λ c. omega arith) (cases_lt j n))
      (cases_lt i n)

  pub overfull_interned : Overfull rs n (t ∷ [])
  overfull_interned all before w =
      let m = places_enough each (suc n) all
      (λ i lt. ⊎_elim (λ a. subst (Has all) (sym (each_old i a)) (before i a)) (λ a. subst (Has all) (sym (each_new i a)) (throughout_self (Has all) t w.0)) (cases_lt i n)) each_apart in
      omega (arith, h.1, long, m)

-- the bank's first n terms, as a list
abbrev bank_terms : List TermRecord → ℕ → List Term
bank_terms rs zero = []
bank_terms rs (suc n) = term_at rs n ∷ bank_terms rs n

bank_terms_long : (rs : List TermRecord) (n : ℕ) → length (bank_terms rs n) ≡ n
bank_terms_long rs zero = refl
bank_terms_long rs (suc n) = ap suc (bank_terms_long rs n)

has_more : (t u : Term) (ts : List Term) → Has ts u → Has (t ∷ ts) u
has_more t u ts h = (suc h.0, omega (arith, h.1), h.2)

bank_terms_has : (rs : List TermRecord) (n k : ℕ) → k < n → Has (bank_terms rs n) (term_at rs k)
bank_terms_has rs zero k lt = absurd (omega arith)
bank_terms_has rs (suc n) k lt =
    ⊎_elim (λ old. has_more (term_at rs n) (term_at rs k) (bank_terms rs n) (bank_terms_has rs n k old))
    (λ new. (let e : n ≡ k = omega arith in (0, omega arith, λ d. ap (term_at rs) e))) (cases_lt k n)

-- what is true of the places of a bank is true throughout its terms
throughout_node : (P : Term → Type 0) (at : ℕ → Term) (n : ℕ) (node : Node) → Fit n node → P (term_of at node) → ((a : ℕ) → a < n → Throughout P (at a)) → Throughout P (term_of at node)
throughout_node P at n (Name x) fit here below = here
throughout_node P at n (Constant f) fit here below = here
throughout_node P at n (Unary f a) fit here below = (here, below a fit)
throughout_node P at n (Binary f a b) fit here below = (here, below a fit.0, below b fit.1)
throughout_node P at n (Ternary f a b c) fit here below = (here, below a fit.0, below b fit.1, below c fit.2)

throughout_below : (P : Term → Type 0) (rs : List TermRecord) (n : ℕ) → Bank rs n → ((k : ℕ) → k < n → P (term_at rs k)) → (m : ℕ) → m ≤ n → (k : ℕ) → k < m → Throughout P (term_at rs k)
throughout_below P rs n b each zero le k lt = absurd (omega arith)
throughout_below P rs n b each (suc m) le k lt =
    let inside : k < n = omega arith in
    let is = term_at-ordered rs n b.ordered k inside in
    subst (Throughout P) (sym is)
    (throughout_node P (term_at rs) k (node_at rs k) (b.ordered.fit k inside) (subst P is (each k inside)) (λ a lower. throughout_below P rs n b each m (omega arith) a (omega arith)))

pub throughout_at : (P : Term → Type 0) (rs : List TermRecord) (n : ℕ) → Bank rs n → ((k : ℕ) → k < n → P (term_at rs k)) → (k : ℕ) → k < n → Throughout P (term_at rs k)
throughout_at P rs n b each k lt = throughout_below P rs n b each n (omega arith) k lt

-- a bank holds its own terms
pub holding_own : (rs : List TermRecord) (n : ℕ) → Bank rs n → Holding rs n (bank_terms rs n)
holding_own rs n b = record { bank = b; has = held n (omega arith); only = λ all w k lt. throughout_self (Has all) (term_at rs k) (all-has (Throughout (Has all)) (bank_terms rs n) (term_at rs k) w (bank_terms_has rs n k lt)) }
  where
    held : (m : ℕ) → m ≤ n → All (Held rs n) (bank_terms rs m)
    held zero le = tt
    held (suc m) le = ((m, omega arith, refl), held m (omega arith))

pub holding_roomy : (rs : List TermRecord) (n : ℕ) (seen : List Term) → Holding rs n seen → Roomy seen
holding_roomy rs n seen h =
    let each = throughout_at (Has (bank_terms rs n)) rs n h.bank (bank_terms_has rs n) in
    (bank_terms rs n, All-weaker (Held rs n) (Throughout (Has (bank_terms rs n))) (λ t at. subst (Throughout (Has (bank_terms rs n))) at.2 (each at.0 at.1)) seen h.has, rw (bank_terms_long rs n) h.bank.few)

pub roomy_gained : (rs : List TermRecord) (n : ℕ) (seen : List Term) → Holding rs n seen → (ts : List Term) (rs' : List TermRecord) (n' : ℕ) → Gained rs n ts rs' n' → Roomy (seen ++ ts)
roomy_gained rs n seen h ts rs' n' g = holding_roomy rs' n' (seen ++ ts) (holding_after rs rs' n n' ts g seen h)

pub crowded_overfull : (rs : List TermRecord) (n : ℕ) (seen : List Term) → Holding rs n seen → (ts : List Term) → Overfull rs n ts → Crowded (seen ++ ts)
crowded_overfull rs n seen h ts over all w =
    over all (h.only all (all_left (Throughout (Has all)) seen ts w)) (all_right (Throughout (Has all)) seen ts w)
