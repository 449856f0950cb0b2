-- Rows, and the terms that a bank holds, stay while the bank grows and while working terms leave it again.
use Rattle.std.proofs.Common.{◌≡◌, ℕ, ◌<◌, ◌≤◌, Bool, List, [], ◌∷◌, length, take, sym, ap₂, subst, arith}
use Rattle.std.specs.List.{AllByRecursion, ContainsAt as Has}
use Rattle.sheet.specs.System.{System}
use Rattle.terms.specs.Terms.{Term, Literal}
use Rattle.terms.specs.declared.Count.{Count}
use Rattle.terms.specs.declared.TermRecord.{TermRecord}
use Rattle.terms.specs.Bank.{Bank, Extends, Stays}
use Rattle.banks.specs.Room.{Holding, Held}
use Rattle.banks.proofs.Gaining.{held_later}
use Rattle.forms.specs.Rows.{Row}
use Rattle.rows.specs.declared.row.RowRecord.{RowRecord}
use Rattle.rows.specs.Records.{row_in, Inside}
use Rattle.rows.proofs.Sets.{take_below, take_between}
use Rattle.candidates.specs.Outcome.{Kept}
use Rattle.candidates.proofs.Walking.{places_stay}
use Rattle.folding.proofs.Weighing.{literals_stay}

row_same : (bits : List Bool) (v v' : List Term) (c c' : List Literal) → v ≡ v' → c ≡ c' → let r : Row = record { bits = bits; vector = v; conditions = c } in r ≡ record { bits = bits; vector = v'; conditions = c' }
row_same bits v v' c c' p q = ap₂ (λ (x : List Term) (y : List Literal). let r : Row = record { bits = bits; vector = x; conditions = y } in r) p q

-- a row stays the same while its terms stay
pub row_stays : (s : System) (rs rs' : List TermRecord) (n most : ℕ) (r : RowRecord) → Stays n rs rs' → Inside s n most r → row_in s rs' r ≡ row_in s rs r
row_stays s rs rs' n most r stays i =
    row_same _ _ _ _ _
    (sym (places_stay rs rs' n (take (length s.readings) r.vector) stays (take_below (length s.readings) n r.vector i.readings i.vector)))
    (literals_stay rs rs' n stays (take r.used r.conditions) (take_between r.used n r.conditions i.stored i.conditions))

less : (a n m : ℕ) → n ≤ m → a < n → a < m
less a n m h p = omega arith

-- a row stays within a bank that grows
pub inside_more : (s : System) (n m most : ℕ) (r : RowRecord) → n ≤ m → Inside s n most r → Inside s m most r
inside_more s n m most r h i =
    record {
      bits = i.bits;
      readings = i.readings;
      few = i.few;
      stored = i.stored;
      vector = λ k p. less _ n m h (i.vector k p);
      conditions = record { lefts = λ k p. less _ n m h (i.conditions.lefts k p); rights = λ k p. less _ n m h (i.conditions.rights k p) };
    }

held_all : (rs rs' : List TermRecord) (n n' : ℕ) → Extends rs n rs' n' → (ts : List Term) → AllByRecursion (Held rs n) ts → AllByRecursion (Held rs' n') ts
held_all rs rs' n n' e [] h = tt
held_all rs rs' n n' e (t ∷ ts) h = (held_later rs rs' n n' e t h.0, held_all rs rs' n n' e ts h.1)

-- the bank still holds the same terms
pub holding_stays : (rs rs' : List TermRecord) (n : ℕ) (ts : List Term) → Holding rs n ts → Bank rs' n → Stays n rs rs' → Holding rs' n ts
holding_stays rs rs' n ts h bank stays =
    let e : Extends rs n rs' n = record { bank = bank; more = omega arith; stays = stays } in
    record { bank = bank; has = held_all rs rs' n n e ts h.has; only = λ all k i p. subst (λ (t : Term). Has all t) (sym (stays i p).1) (h.only all k i p) }

-- the same where the count is said to be as it was
pub holding_kept : (rs rs' : List TermRecord) (n n' : ℕ) (ts : List Term) → Holding rs n ts → Kept rs n rs' n' → Holding rs' n' ts
holding_kept rs rs' n n' ts h kept = subst (λ (m : ℕ). Holding rs' m ts) (sym kept.count) (holding_stays rs rs' n ts h (kept.bank h.bank) kept.records)

-- a count that is lent on is the same count
module _ (rs : List TermRecord) (lent count : Count) (is : lent ≡ count) where
  pub holding_lent : (ts : List Term) → Holding rs count.terms ts → Holding rs lent.terms ts
  holding_lent ts h = subst (λ (k : Count). Holding rs k.terms ts) (sym is) h

  pub extends_lent : (rs' : List TermRecord) (n' : ℕ) → Extends rs lent.terms rs' n' → Extends rs count.terms rs' n'
  extends_lent rs' n' e = subst (λ (k : Count). Extends rs k.terms rs' n') is e
