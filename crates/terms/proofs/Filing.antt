-- Interning by nodes is interning by terms: in a bank, a node is found exactly where its term is.
use Rattle.std.proofs.Common.{◌≡◌, ℕ, suc, ◌+◌, ◌<◌, ◌≤◌, min, ◌⊎◌, List, length, get_or, set, Ok, Err, Result, sym, refl, ap, ◌∙◌, subst, inl, inr, ⊎_elim, arith, below_more, length-set}
use Rattle.std.proofs.lemmas.List.{get_or-set_same, get_or-set_other}
use Rattle.fault.specs.declared.TableFault.{TableFault}
use Rattle.terms.specs.declared.Node.{Node}
use Rattle.terms.specs.declared.Node.TheVariants.{Name, Constant, Unary, Binary, Ternary}
use Rattle.terms.specs.declared.TermRecord.{TermRecord}
use Rattle.terms.specs.Terms.{Term, height, name_set}
use Rattle.terms.specs.Bank.{Fit, node_at, no_record, term_of, term_at, Ordered, Absent, Lacks, floor, Misses, Bank, Stays, Extends, Interned, Filed, FiledAbove, record_of, height_of, names_of}
use Rattle.terms.proofs.Standing.{term_of-same, term_at-ordered, term_stays, height-small, height-term_of, name_set-term_of, height_of-same, names_of_same, height_of-small}
use Rattle.terms.proofs.Same.{node_from_term}

pub fit_more : (k n : ℕ) (node : Node) → k ≤ n → Fit k node → Fit n node
fit_more k n (Name x) le fit = fit
fit_more k n (Constant f) le fit = tt
fit_more k n (Unary f a) le fit = omega arith
fit_more k n (Binary f a b) le fit = (omega arith, omega arith)
fit_more k n (Ternary f a b c) le fit = (omega arith, omega arith, omega arith)

-- a bank is a bank at any smaller count
pub bank_less : (rs : List TermRecord) (n m : ℕ) → m ≤ n → Bank rs n → Bank rs m
bank_less rs n m le b =
    record {
      ordered = record { inside = omega (arith, b.ordered.inside); fit = λ i h. b.ordered.fit i (omega arith) };
      few = omega (arith, b.few);
      once = λ i j p q. b.once i j (omega arith) (omega arith);
      heights = λ i h. b.heights i (omega arith);
      names = λ i h. b.names i (omega arith);
    }

-- a node that fits a place stands above its arguments
pub floor-fit : (k : ℕ) (node : Node) → Fit k node → floor node ≤ k
floor-fit k (Name x) fit = omega arith
floor-fit k (Constant f) fit = omega arith
floor-fit k (Unary f a) fit = omega arith
floor-fit k (Binary f a b) fit = omega (arith, fit.0, fit.1)
floor-fit k (Ternary f a b c) fit = omega (arith, fit.0, fit.1, fit.2)

-- in a bank, what is missed from the first place on at which it can stand is nowhere
lacks_from_misses : (rs : List TermRecord) (n : ℕ) (node : Node) → Bank rs n → Misses rs n node → Lacks rs n node
lacks_from_misses rs n node b misses k lt is = misses k (floor-fit k node (subst (Fit k) is (b.ordered.fit k lt))) lt is

-- so in a bank `FiledAbove` says all that `Filed` says
pub filed_in_bank : (rs rs' : List TermRecord) (n n' : ℕ) (node : Node) (r : Result ℕ TableFault) → Bank rs n → FiledAbove rs n node rs' n' r → Filed rs n node rs' n' r
filed_in_bank rs rs' n n' node (Ok i) b filed = (
  filed.0,
  filed.1,
  ⊎_elim
      (λ f. inl ((f.0.1, f.0.2, lacks_from_misses rs i node (bank_less rs n i (omega (arith, f.0.1)) b) f.0.3), f.1, f.2))
      (λ f. inr (f.0, f.1, lacks_from_misses rs n node b f.2, f.3, f.4))
      filed.2,
)
filed_in_bank rs rs' n n' node (Err e) b filed =
    (filed.0, filed.1, ⊎_elim (λ f. inl (f.0, f.1, f.2, f.3, lacks_from_misses rs n node b f.4)) (λ f. inr f) filed.2)

absent_from_lacks : (rs : List TermRecord) (n : ℕ) (node : Node) → Bank rs n → Fit n node → Lacks rs n node → Absent rs n (term_of (term_at rs) node)
absent_from_lacks rs n node b fit lacks k lt is =
    lacks k lt (node_from_term (term_at rs) n (node_at rs k) node (fit_more k n (node_at rs k) (omega arith) (b.ordered.fit k lt)) fit b.once (sym (term_at-ordered rs n b.ordered k lt) ∙ is))

module _ (rs : List TermRecord) (n : ℕ) (node : Node) (b : Bank rs n) (fit : Fit n node) (less : n < length rs) where
  after : List TermRecord
  after = set rs n (record_of rs node)

  same_record : (k : ℕ) → k < n → get_or (set rs n (record_of rs node)) k no_record ≡ get_or rs k no_record
  same_record k lt = get_or-set_other rs n k (record_of rs node) no_record (omega arith)

  new_record : get_or (set rs n (record_of rs node)) n no_record ≡ record_of rs node
  new_record = get_or-set_same rs n (record_of rs node) no_record less

  same_term : (k : ℕ) → k < n → term_at (set rs n (record_of rs node)) k ≡ term_at rs k
  same_term = term_stays rs (set rs n (record_of rs node)) n b.ordered same_record

  ordered_after : Ordered (set rs n (record_of rs node)) (n + 1)
  ordered_after =
      record {
        inside = rw length-set (omega arith);
        fit = below_more (λ j. Fit j (node_at (set rs n (record_of rs node)) j)) n
            (λ k h. subst (λ r. Fit k r.node) (sym (same_record k h)) (b.ordered.fit k h)) (subst (λ r. Fit n r.node) (sym new_record) fit);
      }

  new_term : term_at (set rs n (record_of rs node)) n ≡ term_of (term_at rs) node
  new_term =
      term_at-ordered (set rs n (record_of rs node)) (n + 1) ordered_after n (omega arith)
      ∙ (ap (λ r. term_of (term_at (set rs n (record_of rs node))) r.node) new_record ∙ term_of-same (term_at (set rs n (record_of rs node))) (term_at rs) n node fit same_term)

  pub new_height : min 65535 (height_of (λ a. (get_or rs a no_record).height) node) ≡ height (term_of (term_at rs) node)
  new_height =
      let e = height_of-same (λ a. (get_or rs a no_record).height) (λ a. height (term_at rs a)) n node fit b.heights in
      let s = height_of-small (λ a. height (term_at rs a)) n node fit (λ a lt. height-small rs n b.ordered (suc a) a (omega arith) lt) in
      rw (e, height-term_of (term_at rs) node) (omega (arith, s, b.few))

  pub new_names : names_of (λ a. (get_or rs a no_record).names) node ≡ name_set (term_of (term_at rs) node)
  new_names =
      names_of_same (λ a. (get_or rs a no_record).names) (λ a. name_set (term_at rs a)) n node fit b.names ∙ sym (name_set-term_of (term_at rs) node)

  pub bank_after : n < 512 → Lacks rs n node → Bank (set rs n (record_of rs node)) (n + 1)
  bank_after few lacks =
      let rs' = set rs n (record_of rs node) in
      let fresh = absent_from_lacks rs n node b fit lacks in
      record {
        ordered = ordered_after;
        few = omega arith;
        once = λ i j p q is. below_more (λ k. term_at rs' k ≡ term_at rs' j → k ≡ j) n
            (λ k h e. below_more (λ u. term_at rs' k ≡ term_at rs' u → k ≡ u) n (λ u w e'. b.once k u h w (sym (same_term k h) ∙ (e' ∙ same_term u w))) (λ e'. absurd (fresh k h (sym (same_term k h) ∙ (e' ∙ new_term)))) j q e)
            (λ e. below_more (λ u. term_at rs' n ≡ term_at rs' u → n ≡ u) n (λ u w e'. absurd (fresh u w (sym (same_term u w) ∙ (sym e' ∙ new_term)))) (λ e'. refl) j q e) i p is;
        heights = below_more (λ k. (get_or rs' k no_record).height ≡ height (term_at rs' k)) n
            (λ k h. ap (λ r. r.height) (same_record k h) ∙ (b.heights k h ∙ ap height (sym (same_term k h))))
            (ap (λ r. r.height) new_record ∙ (new_height ∙ ap height (sym new_term)));
        names = below_more (λ k. (get_or rs' k no_record).names ≡ name_set (term_at rs' k)) n
            (λ k h. ap (λ r. r.names) (same_record k h) ∙ (b.names k h ∙ ap name_set (sym (same_term k h))))
            (ap (λ r. r.names) new_record ∙ (new_names ∙ ap name_set (sym new_term)));
      }

  pub stays_after : Stays n rs (set rs n (record_of rs node))
  stays_after k lt = (same_record k lt, same_term k lt)

pub interned : (rs rs' : List TermRecord) (n n' : ℕ) (node : Node) (r : Result ℕ TableFault) → Bank rs n → Fit n node → Filed rs n node rs' n' r → Interned rs n (term_of (term_at rs) node) rs' n' r
interned rs rs' n n' node (Ok i) b fit filed =
    ⊎_elim
    (λ f. subst (λ ys. (Bank ys n') × Stays n rs ys × (i < n') × (term_at ys i ≡ term_of (term_at rs) node) × (((i < n) × (n' ≡ n)) ⊎ ((i ≡ n) × (n' ≡ n + 1) × Absent rs n (term_of (term_at rs) node)))) (sym f.1)
    (subst (Bank rs) (sym f.2) b, (λ k lt. (refl, refl)), omega (arith, f.0.0, f.2), term_at-ordered rs n b.ordered i f.0.0 ∙ ap (term_of (term_at rs)) f.0.1, inl (f.0.0, f.2)))
    (λ f. subst (λ ys. (Bank ys n') × Stays n rs ys × (i < n') × (term_at ys i ≡ term_of (term_at rs) node) × (((i < n) × (n' ≡ n)) ⊎ ((i ≡ n) × (n' ≡ n + 1) × Absent rs n (term_of (term_at rs) node)))) (sym f.3)
    (let less : n < length rs = omega (arith, f.1) in
    (subst (Bank (set rs n (record_of rs node))) (sym f.4) (bank_after rs n node b fit less (omega (arith, f.1)) f.2), stays_after rs n node b fit less, omega (arith, f.0, f.4), ap (term_at (set rs n (record_of rs node))) f.0 ∙ new_term rs n node b fit less, inr (f.0, f.4, absent_from_lacks rs n node b fit f.2))))
    filed.2
interned rs rs' n n' node (Err e) b fit filed =
    ⊎_elim (λ f. (f.0, f.3, absent_from_lacks rs n node b fit f.4)) (λ f. absurd (f.1 b.ordered.inside fit)) filed.2

-- memory of which nothing is in use is a bank
pub bank_none : (rs : List TermRecord) → Bank rs 0
bank_none rs =
    record {
      ordered = record { inside = omega arith; fit = λ i lt. absurd (omega arith) };
      few = omega arith;
      once = λ i j p q e. absurd (omega arith);
      heights = λ i lt. absurd (omega arith);
      names = λ i lt. absurd (omega arith);
    }

pub extends_none : (rs : List TermRecord) (n : ℕ) → Bank rs n → Extends rs n rs n
extends_none rs n b = record { bank = b; more = omega arith; stays = λ k lt. (refl, refl) }

pub extends_more : (rs rs' rs'' : List TermRecord) (n n' n'' : ℕ) → Extends rs n rs' n' → Extends rs' n' rs'' n'' → Extends rs n rs'' n''
extends_more rs rs' rs'' n n' n'' e f =
    record {
      bank = f.bank;
      more = omega (arith, e.more, f.more);
      stays = λ k lt. ((f.stays k (omega (arith, e.more))).0 ∙ (e.stays k lt).0, (f.stays k (omega (arith, e.more))).1 ∙ (e.stays k lt).1);
    }

-- the terms that were added have left again
pub extends_back : (rs rs' : List TermRecord) (n n' : ℕ) → Extends rs n rs' n' → Extends rs n rs' n
extends_back rs rs' n n' e = record { bank = bank_less rs' n' n e.more e.bank; more = omega arith; stays = e.stays }

-- interning extends a bank
pub extends_interned : (rs rs' : List TermRecord) (n n' : ℕ) (t : Term) (i : ℕ) → Interned rs n t rs' n' (Ok i) → Extends rs n rs' n'
extends_interned rs rs' n n' t i h =
    record { bank = h.0; more = ⊎_elim (λ w. omega (arith, w.1)) (λ w. omega (arith, w.1)) h.4; stays = h.1 }
