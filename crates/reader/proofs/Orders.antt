-- Records that are allowed one after another are those of a lawful sheet in a lawful order, and conversely.
use Rattle.std.proofs.Common.{◌≡◌, ℕ, ◌<◌, Bool, true, ◌&&◌, ltb, leb, List, [], ◌∷◌, ◌++◌, length, get_or, Some, None, Option, sym, refl, ap, ◌∙◌, subst, zero-add, arith, length-set}
use Rattle.std.proofs.lemmas.List.{length_push, get_or_push, get_or-set_same}
use Rattle.std.proofs.lemmas.Bool.{and_from, and_parts}
use Rattle.std.proofs.lemmas.Bool.Decides.{nat_tests}
use Rattle.sheet.specs.declared.syntax.Choice.{Choice}
use Rattle.sheet.specs.declared.syntax.Formula.{Formula}
use Rattle.sheet.specs.declared.syntax.Bit.{Bit}
use Rattle.sheet.specs.declared.syntax.Reading.{Reading}
use Rattle.sheet.specs.declared.syntax.Record.{Record}
use Rattle.sheet.specs.declared.syntax.Start.{Start}
use Rattle.sheet.specs.declared.syntax.Term.{Term}
use Rattle.sheet.specs.Format.{kind_of}
use Rattle.sheet.specs.Lawful.{each_at, given, Lawful}
use Rattle.sheet.specs.Rules.{names, keeps, obeys_at, count, room, fresh}
use Rattle.sheet.specs.System.{System, nothing, add, gather, no_bit, no_reading}
use Rattle.sheet.proofs.Eaches.{each_at-index}
use Rattle.sheet.proofs.Extending.{Prefix, Extends, extends_refl, extends_trans, prefix_length, prefix-get_or, keeps_same}
use Rattle.sheet.proofs.Lawfulness.{extends_add, lawful_more}
use Rattle.reader.specs.Law.{InOrder}
use Rattle.reader.specs.Outcome.{Allowed, AllAllowed}

pub lawful_nothing : Lawful nothing
lawful_nothing = record { few = record { bits = refl; symbols = refl; readings = refl; inputs = refl; terms = refl; questions = refl; claims = refl; formulas = refl; choices = refl }; each = record { symbols = refl; readings = refl; terms = refl; questions = refl; claims = refl; formulas = refl; choices = refl; next_bits = refl; next_readings = refl; invariant = refl; bound = refl } }

pub all_lawful : (s : System) (xs : List Record) → Lawful s → AllAllowed s xs → Lawful (gather s xs)
all_lawful s [] l a = l
all_lawful s (x ∷ xs) l a = all_lawful (add s x) xs (lawful_more s x l a.0.room a.0.obeys a.0.fresh) a.1

pub in_order : (s : System) (xs : List Record) → AllAllowed s xs → InOrder s xs
in_order s [] a = tt
in_order s (x ∷ xs) a = ((and_parts (names s (count s (kind_of x)) x) (keeps s x) a.0.obeys).0, a.0.fresh, in_order (add s x) xs a.1)

extends_gather : (s : System) (xs : List Record) → InOrder s xs → Extends s (gather s xs)
extends_gather s [] o = extends_refl s
extends_gather s (x ∷ xs) o = extends_trans s (add s x) (gather (add s x) xs) (extends_add s x o.1) (extends_gather (add s x) xs o.2)

-- the last of a list that stands at the front of another
at_front : {A : Type 0} (xs ys : List A) (x d : A) → Prefix (xs ++ x ∷ []) ys → get_or ys (length xs) d ≡ x
at_front xs ys x d p = prefix-get_or (xs ++ x ∷ []) ys (length xs) d p (omega (arith, length_push xs x)) ∙ get_or_push xs x d (length xs) refl

inside_front : {A : Type 0} (xs ys : List A) (x : A) → Prefix (xs ++ x ∷ []) ys → length xs < length ys
inside_front xs ys x p = omega (arith, length_push xs x, prefix_length (xs ++ x ∷ []) ys p)

room-before : (n m k : ℕ) → n < k → leb k m ≡ true → ltb n m ≡ true
room-before n m k h e = grind (arith, nat_tests)

pub from-given : (p : ℕ → Bool) (o : Option ℕ) (n : ℕ) → o ≡ Some n → given p o ≡ true → p n ≡ true
from-given p o n e h = subst (λ q. given p q ≡ true) e h

abbrev new_bit : Bool → Bit
new_bit b = record { start = b; next = None }

abbrev new_reading : Start → Reading
new_reading w = record { start = w; next = None }

abbrev bit_with : Bit → ℕ → Bit
bit_with x f = record { start = x.start; next = Some f }

abbrev reading_with : Reading → ℕ → Reading
reading_with x k = record { start = x.start; next = Some k }

first_below : (a b m n : ℕ) → ltb a m && ltb b n ≡ true → a < m
first_below a b m n h = grind (arith, nat_tests)

-- the test of an element that stands after xs
at_there : {A : Type 0} (test : ℕ → A → Bool) (xs ys : List A) (x d : A) → Prefix (xs ++ x ∷ []) ys → each_at test 0 ys ≡ true → test (length xs) x ≡ true
at_there test xs ys x d p h =
    ap (test (length xs)) (sym (at_front xs ys x d p)) ∙ (ap (λ n. test n (get_or ys (length xs) d)) (sym (zero-add (length xs))) ∙ each_at-index test 0 ys (length xs) d h (inside_front xs ys x p))

next_there : {A : Type 0} (next : A → Option ℕ) (test : ℕ → ℕ → Bool) (xs : List A) (i n : ℕ) (d : A) → i < length xs → next (get_or xs i d) ≡ Some n → each_at (λ m x. given (test m) (next x)) 0 xs ≡ true → test i n ≡ true
next_there next test xs i n d inside e h =
    from-given (test i) (next (get_or xs i d)) n e (ap (λ m. given (test m) (next (get_or xs i d))) (sym (zero-add i)) ∙ each_at-index (λ m x. given (test m) (next x)) 0 xs i d h inside)

-- a record of a lawful sheet, from the state in which it was read
module _ (p s : System) (l : Lawful s) where
  room_there : (x : Record) → Extends (add p x) s → room p (kind_of x) ≡ true
  room_there (Record.Bit b) e = room-before (length p.bits) 16 (length s.bits) (omega (arith, length_push p.bits (new_bit b), e.bits)) l.few.bits
  room_there (Record.Symbol a) e = room-before (length p.symbols) 32 (length s.symbols) (inside_front p.symbols s.symbols a e.symbols) l.few.symbols
  room_there (Record.Reading w) e = room-before (length p.readings) 6 (length s.readings) (omega (arith, length_push p.readings (new_reading w), e.readings)) l.few.readings
  room_there Record.Input e = room-before p.inputs 4 s.inputs (omega (arith, e.inputs)) l.few.inputs
  room_there (Record.Term t) e = room-before (length p.terms) 64 (length s.terms) (inside_front p.terms s.terms t e.terms) l.few.terms
  room_there (Record.Question q) e = room-before (length p.questions) 6 (length s.questions) (inside_front p.questions s.questions q e.questions) l.few.questions
  room_there (Record.Claim q) e = room-before (length p.claims) 4 (length s.claims) (inside_front p.claims s.claims q e.claims) l.few.claims
  room_there (Record.Formula f) e = room-before (length p.formulas) 64 (length s.formulas) (inside_front p.formulas s.formulas f e.formulas) l.few.formulas
  room_there (Record.Choice k) e = room-before (length p.choices) 64 (length s.choices) (inside_front p.choices s.choices k e.choices) l.few.choices
  room_there (Record.NextBit b f) e = refl
  room_there (Record.NextReading i k) e = refl
  room_there (Record.Invariant f) e = refl
  room_there (Record.Bound b) e = refl

  reading_there : (w : Start) (xs : List Reading) (i : ℕ) → i < length xs → (get_or xs i no_reading).start ≡ w → each_at (λ n x. obeys_at s n (Record.Reading x.start)) 0 xs ≡ true → obeys_at s i (Record.Reading w) ≡ true
  reading_there w xs i inside is h =
      ap (λ v. obeys_at s i (Record.Reading v)) (sym is) ∙ (ap (λ n. obeys_at s n (Record.Reading (get_or xs i no_reading).start)) (sym (zero-add i)) ∙ each_at-index (λ n x. obeys_at s n (Record.Reading x.start)) 0 xs i no_reading h inside)

  obeys_there : (x : Record) → names p (count p (kind_of x)) x ≡ true → fresh p x ≡ true → Extends (add p x) s → obeys_at s (count p (kind_of x)) x ≡ true
  obeys_there (Record.Bit b) h g e = refl
  obeys_there (Record.Symbol a) h g e = at_there (λ n x. obeys_at s n (Record.Symbol x)) p.symbols s.symbols a 0 e.symbols l.each.symbols
  obeys_there (Record.Reading w) h g e = reading_there w s.readings (length p.readings) (omega (arith, length_push p.readings (new_reading w), e.readings)) (e.starts (length p.readings) (omega (arith, length_push p.readings (new_reading w))) ∙ ap (λ (x : Reading). x.start) (get_or_push p.readings (new_reading w) no_reading (length p.readings) refl)) l.each.readings
  obeys_there Record.Input h g e = refl
  obeys_there (Record.Term t) h g e = at_there (λ n x. obeys_at s n (Record.Term x)) p.terms s.terms t (Term.Reading 0) e.terms l.each.terms
  obeys_there (Record.Question q) h g e = at_there (λ n x. obeys_at s n (Record.Question x)) p.questions s.questions q q e.questions l.each.questions
  obeys_there (Record.Claim q) h g e = at_there (λ n x. obeys_at s n (Record.Claim x)) p.claims s.claims q q e.claims l.each.claims
  obeys_there (Record.Formula f) h g e = at_there (λ n x. obeys_at s n (Record.Formula x)) p.formulas s.formulas f Formula.True e.formulas l.each.formulas
  obeys_there (Record.Choice k) h g e = at_there (λ n x. obeys_at s n (Record.Choice x)) p.choices s.choices k (Choice.Term 0) e.choices l.each.choices
  obeys_there (Record.NextBit b f) h g e = next_there (λ (x : Bit). x.next) (λ n f'. obeys_at s 0 (Record.NextBit n f')) s.bits b f no_bit (omega (arith, e.bits, length-set p.bits b (bit_with (get_or p.bits b no_bit) f), first_below b f (length p.bits) (length p.formulas) h)) (e.next_bits b f (ap (λ (x : Bit). x.next) (get_or-set_same p.bits b (bit_with (get_or p.bits b no_bit) f) no_bit (first_below b f (length p.bits) (length p.formulas) h)))) l.each.next_bits
  obeys_there (Record.NextReading i k) h g e = next_there (λ (x : Reading). x.next) (λ n k'. obeys_at s 0 (Record.NextReading n k')) s.readings i k no_reading (omega (arith, e.readings, length-set p.readings i (reading_with (get_or p.readings i no_reading) k), first_below i k (length p.readings) (length p.choices) h)) (e.next_readings i k (ap (λ (x : Reading). x.next) (get_or-set_same p.readings i (reading_with (get_or p.readings i no_reading) k) no_reading (first_below i k (length p.readings) (length p.choices) h)))) l.each.next_readings
  obeys_there (Record.Invariant f) h g e = from-given (λ f'. obeys_at s 0 (Record.Invariant f')) s.invariant f (e.invariant f refl) l.each.invariant
  obeys_there (Record.Bound b) h g e = from-given (λ b'. obeys_at s 0 (Record.Bound b')) s.bound b (e.bound b refl) l.each.bound

  allowed_there : (x : Record) → names p (count p (kind_of x)) x ≡ true → fresh p x ≡ true → Extends (add p x) s → Allowed p x
  allowed_there x h g e =
      let n = count p (kind_of x) in
      let same = keeps_same p s (extends_trans p (add p x) s (extends_add p x g) e) n x (omega arith) h in
      let there = (and_parts (names s n x) (keeps s x) (obeys_there x h g e)).1 in
      record { room = room_there x e; obeys = and_from (names p n x) (keeps p x) h (sym same ∙ there); fresh = g }

-- a lawful order of a lawful sheet is allowed
pub all_allowed : (p : System) (xs : List Record) → InOrder p xs → Lawful (gather p xs) → AllAllowed p xs
all_allowed p [] o l = tt
all_allowed p (x ∷ xs) o l = (allowed_there p (gather (add p x) xs) l x o.0 o.1 (extends_gather (add p x) xs o.2), all_allowed (add p x) xs o.2 l)
