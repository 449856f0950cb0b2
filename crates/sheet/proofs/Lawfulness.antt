-- One record more keeps a sheet lawful.
use Rattle.std.proofs.Common.{◌≡◌, ℕ, suc, ◌+◌, ◌<◌, ◌≤◌, Bool, true, false, not, eqb, ltb, leb, ◌⊎◌, List, [], ◌∷◌, ◌++◌, length, get_or, set, is_some, Some, None, Option, sym, refl, ap, ◌∙◌, inl, inr, zero-add, arith, length-set}
use Rattle.std.proofs.lemmas.List.{get_or_append_left, get_or_past, get_or-set_same, get_or-set_other, set_past, length_push}
use Rattle.std.proofs.lemmas.Option.{none-some}
use Rattle.std.proofs.lemmas.Bool.{and_from, and_parts}
use Rattle.std.proofs.lemmas.Bool.Decides.{nat_tests, eqb_tells, leb_tells}
use Rattle.sheet.specs.declared.syntax.Bit.{Bit}
use Rattle.sheet.specs.declared.syntax.Reading.{Reading}
use Rattle.sheet.specs.declared.syntax.Record.{Record}
use Rattle.sheet.specs.declared.syntax.Start.{Start}
use Rattle.sheet.specs.Format.{kind_of}
use Rattle.sheet.specs.Lawful.{each_at, given, Few, LawfulIn, Lawful}
use Rattle.sheet.specs.Rules.{names, keeps, obeys_at, count, room, fresh}
use Rattle.sheet.specs.System.{System, add, no_bit, no_reading}
use Rattle.sheet.proofs.Eaches.{each_push, each_set, each_at-index, each_weaker}
use Rattle.sheet.proofs.Extending.{Kept, next_of_bit, next_of_reading, StartsKept, GivenKept, Extends, extends_refl, prefix_push, prefix_length, names_kept, keeps_same}

abbrev new_bit : Bool → Bit
new_bit b = record { start = b; next = None }

abbrev new_reading : Start → Reading
new_reading w = record { start = w; next = None }

abbrev bit_with : Bit → ℕ → Bit
bit_with x f = record { start = x.start; next = Some f }

abbrev reading_with : Reading → ℕ → Reading
reading_with x k = record { start = x.start; next = Some k }

none_given : (o : Option ℕ) → not (is_some o) ≡ true → o ≡ None
none_given None h = refl
none_given (Some n) h = let z : ◌≡◌ {A = ℕ} 0 1 = cc in absurd (omega arith)

given_none : (o p : Option ℕ) → not (is_some o) ≡ true → GivenKept o p
given_none o p h n e = absurd (none-some _ (sym (none_given o h) ∙ e))

kept_push : {A : Type 0} (next : A → Option ℕ) (d : A) → next d ≡ None → (xs : List A) (x : A) → Kept next d xs (xs ++ x ∷ [])
kept_push next d none xs x i n e = by_order (leb_tells (suc i) (length xs))
  where
    by_order : ((ltb i (length xs) ≡ true) × (i < length xs)) ⊎ ((ltb i (length xs) ≡ false) × (length xs < suc i)) → next (get_or (xs ++ x ∷ []) i d) ≡ Some n
    by_order (inl t) = ap next (get_or_append_left xs (x ∷ []) d i t.1) ∙ e
    by_order (inr t) = absurd (none-some _ (sym none ∙ (ap next (sym (get_or_past xs i d (omega (arith, t.1)))) ∙ e)))

kept_set : {A : Type 0} (next : A → Option ℕ) (d : A) (xs : List A) (b : ℕ) (y : A) → next (get_or xs b d) ≡ None → Kept next d xs (set xs b y)
kept_set next d xs b y none i n e = by_place (eqb_tells i b)
  where
    by_place : ((eqb i b ≡ true) × (i ≡ b)) ⊎ ((eqb i b ≡ false) × (i ≡ b → ⊥)) → next (get_or (set xs b y) i d) ≡ Some n
    by_place (inl t) = absurd (none-some _ (sym none ∙ (ap (λ j. next (get_or xs j d)) (sym t.1) ∙ e)))
    by_place (inr t) = ap next (get_or-set_other xs b i y d t.1) ∙ e

starts_push : (xs : List Reading) (x : Reading) → StartsKept xs (xs ++ x ∷ [])
starts_push xs x i h = ap (λ (r : Reading). r.start) (get_or_append_left xs (x ∷ []) no_reading i h)

starts_set : (xs : List Reading) (r k : ℕ) → StartsKept xs (set xs r (reading_with (get_or xs r no_reading) k))
starts_set xs r k i h = by_place (eqb_tells i r)
  where
    by_place : ((eqb i r ≡ true) × (i ≡ r)) ⊎ ((eqb i r ≡ false) × (i ≡ r → ⊥)) → (get_or (set xs r (reading_with (get_or xs r no_reading) k)) i no_reading).start ≡ (get_or xs i no_reading).start
    by_place (inl t) =
        let inside : r < length xs = omega (arith, t.1) in
        ap (λ j. (get_or (set xs r (reading_with (get_or xs r no_reading) k)) j no_reading).start) t.1 ∙ (ap (λ (x : Reading). x.start) (get_or-set_same xs r (reading_with (get_or xs r no_reading) k) no_reading inside) ∙ ap (λ j. (get_or xs j no_reading).start) (sym t.1))
    by_place (inr t) = ap (λ (x : Reading). x.start) (get_or-set_other xs r i (reading_with (get_or xs r no_reading) k) no_reading t.1)

pub extends_add : (s : System) (x : Record) → fresh s x ≡ true → Extends s (add s x)
extends_add s (Record.Bit b) h = let e = extends_refl s in record { bits = omega (arith, length_push s.bits (new_bit b)); symbols = e.symbols; readings = e.readings; inputs = e.inputs; terms = e.terms; questions = e.questions; claims = e.claims; formulas = e.formulas; choices = e.choices; next_bits = kept_push next_of_bit no_bit refl s.bits (new_bit b); starts = e.starts; next_readings = e.next_readings; invariant = e.invariant; bound = e.bound }
extends_add s (Record.Symbol a) h = let e = extends_refl s in record { bits = e.bits; symbols = prefix_push s.symbols a; readings = e.readings; inputs = e.inputs; terms = e.terms; questions = e.questions; claims = e.claims; formulas = e.formulas; choices = e.choices; next_bits = e.next_bits; starts = e.starts; next_readings = e.next_readings; invariant = e.invariant; bound = e.bound }
extends_add s (Record.Reading w) h = let e = extends_refl s in record { bits = e.bits; symbols = e.symbols; readings = omega (arith, length_push s.readings (new_reading w)); inputs = e.inputs; terms = e.terms; questions = e.questions; claims = e.claims; formulas = e.formulas; choices = e.choices; next_bits = e.next_bits; starts = starts_push s.readings (new_reading w); next_readings = kept_push next_of_reading no_reading refl s.readings (new_reading w); invariant = e.invariant; bound = e.bound }
extends_add s Record.Input h = let e = extends_refl s in record { bits = e.bits; symbols = e.symbols; readings = e.readings; inputs = omega arith; terms = e.terms; questions = e.questions; claims = e.claims; formulas = e.formulas; choices = e.choices; next_bits = e.next_bits; starts = e.starts; next_readings = e.next_readings; invariant = e.invariant; bound = e.bound }
extends_add s (Record.Term t) h = let e = extends_refl s in record { bits = e.bits; symbols = e.symbols; readings = e.readings; inputs = e.inputs; terms = prefix_push s.terms t; questions = e.questions; claims = e.claims; formulas = e.formulas; choices = e.choices; next_bits = e.next_bits; starts = e.starts; next_readings = e.next_readings; invariant = e.invariant; bound = e.bound }
extends_add s (Record.Question q) h = let e = extends_refl s in record { bits = e.bits; symbols = e.symbols; readings = e.readings; inputs = e.inputs; terms = e.terms; questions = prefix_push s.questions q; claims = e.claims; formulas = e.formulas; choices = e.choices; next_bits = e.next_bits; starts = e.starts; next_readings = e.next_readings; invariant = e.invariant; bound = e.bound }
extends_add s (Record.Claim q) h = let e = extends_refl s in record { bits = e.bits; symbols = e.symbols; readings = e.readings; inputs = e.inputs; terms = e.terms; questions = e.questions; claims = prefix_push s.claims q; formulas = e.formulas; choices = e.choices; next_bits = e.next_bits; starts = e.starts; next_readings = e.next_readings; invariant = e.invariant; bound = e.bound }
extends_add s (Record.Formula f) h = let e = extends_refl s in record { bits = e.bits; symbols = e.symbols; readings = e.readings; inputs = e.inputs; terms = e.terms; questions = e.questions; claims = e.claims; formulas = prefix_push s.formulas f; choices = e.choices; next_bits = e.next_bits; starts = e.starts; next_readings = e.next_readings; invariant = e.invariant; bound = e.bound }
extends_add s (Record.Choice k) h = let e = extends_refl s in record { bits = e.bits; symbols = e.symbols; readings = e.readings; inputs = e.inputs; terms = e.terms; questions = e.questions; claims = e.claims; formulas = e.formulas; choices = prefix_push s.choices k; next_bits = e.next_bits; starts = e.starts; next_readings = e.next_readings; invariant = e.invariant; bound = e.bound }
extends_add s (Record.NextBit b f) h = let e = extends_refl s in record { bits = omega (arith, length-set s.bits b (bit_with (get_or s.bits b no_bit) f)); symbols = e.symbols; readings = e.readings; inputs = e.inputs; terms = e.terms; questions = e.questions; claims = e.claims; formulas = e.formulas; choices = e.choices; next_bits = kept_set next_of_bit no_bit s.bits b (bit_with (get_or s.bits b no_bit) f) (none_given (get_or s.bits b no_bit).next h); starts = e.starts; next_readings = e.next_readings; invariant = e.invariant; bound = e.bound }
extends_add s (Record.NextReading r k) h = let e = extends_refl s in record { bits = e.bits; symbols = e.symbols; readings = omega (arith, length-set s.readings r (reading_with (get_or s.readings r no_reading) k)); inputs = e.inputs; terms = e.terms; questions = e.questions; claims = e.claims; formulas = e.formulas; choices = e.choices; next_bits = e.next_bits; starts = starts_set s.readings r k; next_readings = kept_set next_of_reading no_reading s.readings r (reading_with (get_or s.readings r no_reading) k) (none_given (get_or s.readings r no_reading).next h); invariant = e.invariant; bound = e.bound }
extends_add s (Record.Invariant f) h = let e = extends_refl s in record { bits = e.bits; symbols = e.symbols; readings = e.readings; inputs = e.inputs; terms = e.terms; questions = e.questions; claims = e.claims; formulas = e.formulas; choices = e.choices; next_bits = e.next_bits; starts = e.starts; next_readings = e.next_readings; invariant = given_none s.invariant (Some f) h; bound = e.bound }
extends_add s (Record.Bound b) h = let e = extends_refl s in record { bits = e.bits; symbols = e.symbols; readings = e.readings; inputs = e.inputs; terms = e.terms; questions = e.questions; claims = e.claims; formulas = e.formulas; choices = e.choices; next_bits = e.next_bits; starts = e.starts; next_readings = e.next_readings; invariant = e.invariant; bound = given_none s.bound (Some b) h }

-- the rules that a record obeys in r it obeys in every extension of r
pub obeys_kept : (r s : System) → Extends r s → (n : ℕ) (x : Record) → n ≤ count r (kind_of x) → obeys_at r n x ≡ true → obeys_at s n x ≡ true
obeys_kept r s e n x l h =
    let a = and_parts (names r n x) (keeps r x) h in
    and_from (names s n x) (keeps s x) (names_kept r s e n x a.0) (keeps_same r s e n x l a.0 ∙ a.1)

given_weaker : (p q : ℕ → Bool) (o : Option ℕ) → ((n : ℕ) → p n ≡ true → q n ≡ true) → given p o ≡ true → given q o ≡ true
given_weaker p q None w h = refl
given_weaker p q (Some n) w h = w n h

pub lawful_in : (r s t : System) → Extends r s → Extends t r → LawfulIn r t → LawfulIn s t
lawful_in r s t e c l =
    record { symbols = each_weaker (λ n a. obeys_at r n (Record.Symbol a)) (λ n a. obeys_at s n (Record.Symbol a)) 0 t.symbols (λ m x h. obeys_kept r s e m (Record.Symbol x) (omega (arith, prefix_length t.symbols r.symbols c.symbols))) l.symbols; readings = each_weaker (λ n x. obeys_at r n (Record.Reading x.start)) (λ n x. obeys_at s n (Record.Reading x.start)) 0 t.readings (λ m x h. obeys_kept r s e m (Record.Reading x.start) (omega (arith, c.readings))) l.readings; terms = each_weaker (λ n x. obeys_at r n (Record.Term x)) (λ n x. obeys_at s n (Record.Term x)) 0 t.terms (λ m x h. obeys_kept r s e m (Record.Term x) (omega (arith, prefix_length t.terms r.terms c.terms))) l.terms; questions = each_weaker (λ n x. obeys_at r n (Record.Question x)) (λ n x. obeys_at s n (Record.Question x)) 0 t.questions (λ m x h. obeys_kept r s e m (Record.Question x) (omega (arith, prefix_length t.questions r.questions c.questions))) l.questions; claims = each_weaker (λ n x. obeys_at r n (Record.Claim x)) (λ n x. obeys_at s n (Record.Claim x)) 0 t.claims (λ m x h. obeys_kept r s e m (Record.Claim x) (omega (arith, prefix_length t.claims r.claims c.claims))) l.claims; formulas = each_weaker (λ n x. obeys_at r n (Record.Formula x)) (λ n x. obeys_at s n (Record.Formula x)) 0 t.formulas (λ m x h. obeys_kept r s e m (Record.Formula x) (omega (arith, prefix_length t.formulas r.formulas c.formulas))) l.formulas; choices = each_weaker (λ n x. obeys_at r n (Record.Choice x)) (λ n x. obeys_at s n (Record.Choice x)) 0 t.choices (λ m x h. obeys_kept r s e m (Record.Choice x) (omega (arith, prefix_length t.choices r.choices c.choices))) l.choices; next_bits = each_weaker (λ n b. given (λ f. obeys_at r 0 (Record.NextBit n f)) b.next) (λ n b. given (λ f. obeys_at s 0 (Record.NextBit n f)) b.next) 0 t.bits (λ m x h. given_weaker (λ f. obeys_at r 0 (Record.NextBit m f)) (λ f. obeys_at s 0 (Record.NextBit m f)) x.next (λ f. obeys_kept r s e 0 (Record.NextBit m f) (omega arith))) l.next_bits; next_readings = each_weaker (λ n b. given (λ k. obeys_at r 0 (Record.NextReading n k)) b.next) (λ n b. given (λ k. obeys_at s 0 (Record.NextReading n k)) b.next) 0 t.readings (λ m x h. given_weaker (λ k. obeys_at r 0 (Record.NextReading m k)) (λ k. obeys_at s 0 (Record.NextReading m k)) x.next (λ k. obeys_kept r s e 0 (Record.NextReading m k) (omega arith))) l.next_readings; invariant = given_weaker (λ f. obeys_at r 0 (Record.Invariant f)) (λ f. obeys_at s 0 (Record.Invariant f)) t.invariant (λ f. obeys_kept r s e 0 (Record.Invariant f) (omega arith)) l.invariant; bound = given_weaker (λ f. obeys_at r 0 (Record.Bound f)) (λ f. obeys_at s 0 (Record.Bound f)) t.bound (λ f. obeys_kept r s e 0 (Record.Bound f) (omega arith)) l.bound }

-- a reading that is given a next value starts as before
starts_lawful : (r : System) (xs : List Reading) (i k : ℕ) → each_at (λ n x. obeys_at r n (Record.Reading x.start)) 0 xs ≡ true → each_at (λ n x. obeys_at r n (Record.Reading x.start)) 0 (set xs i (reading_with (get_or xs i no_reading) k)) ≡ true
starts_lawful r xs i k h = by_order (leb_tells (suc i) (length xs))
  where
    by_order : ((ltb i (length xs) ≡ true) × (i < length xs)) ⊎ ((ltb i (length xs) ≡ false) × (length xs < suc i)) → each_at (λ n x. obeys_at r n (Record.Reading x.start)) 0 (set xs i (reading_with (get_or xs i no_reading) k)) ≡ true
    by_order (inl t) = each_set (λ n x. obeys_at r n (Record.Reading x.start)) 0 xs i (reading_with (get_or xs i no_reading) k) h (each_at-index (λ n x. obeys_at r n (Record.Reading x.start)) 0 xs i no_reading h t.1)
    by_order (inr t) = rw (set_past xs i (reading_with (get_or xs i no_reading) k) (omega (arith, t.1))) h

from_zero : (p : ℕ → Bool) (n : ℕ) → p n ≡ true → p (0 + n) ≡ true
from_zero p n h = ap p (zero-add n) ∙ h

lawful_add : (r s : System) (x : Record) → LawfulIn r s → obeys_at r (count s (kind_of x)) x ≡ true → LawfulIn r (add s x)
lawful_add r s (Record.Bit b) l h = record { symbols = l.symbols; readings = l.readings; terms = l.terms; questions = l.questions; claims = l.claims; formulas = l.formulas; choices = l.choices; next_bits = each_push (λ n b. given (λ f. obeys_at r 0 (Record.NextBit n f)) b.next) 0 s.bits (new_bit b) l.next_bits refl; next_readings = l.next_readings; invariant = l.invariant; bound = l.bound }
lawful_add r s (Record.Symbol a) l h = record { symbols = each_push (λ n a. obeys_at r n (Record.Symbol a)) 0 s.symbols a l.symbols (from_zero (λ m. obeys_at r m (Record.Symbol a)) (length s.symbols) h); readings = l.readings; terms = l.terms; questions = l.questions; claims = l.claims; formulas = l.formulas; choices = l.choices; next_bits = l.next_bits; next_readings = l.next_readings; invariant = l.invariant; bound = l.bound }
lawful_add r s (Record.Reading w) l h = record { symbols = l.symbols; readings = each_push (λ n x. obeys_at r n (Record.Reading x.start)) 0 s.readings (new_reading w) l.readings (from_zero (λ m. obeys_at r m (Record.Reading w)) (length s.readings) h); terms = l.terms; questions = l.questions; claims = l.claims; formulas = l.formulas; choices = l.choices; next_bits = l.next_bits; next_readings = each_push (λ n x. given (λ k. obeys_at r 0 (Record.NextReading n k)) x.next) 0 s.readings (new_reading w) l.next_readings refl; invariant = l.invariant; bound = l.bound }
lawful_add r s Record.Input l h = record { symbols = l.symbols; readings = l.readings; terms = l.terms; questions = l.questions; claims = l.claims; formulas = l.formulas; choices = l.choices; next_bits = l.next_bits; next_readings = l.next_readings; invariant = l.invariant; bound = l.bound }
lawful_add r s (Record.Term t) l h = record { symbols = l.symbols; readings = l.readings; terms = each_push (λ n t. obeys_at r n (Record.Term t)) 0 s.terms t l.terms (from_zero (λ m. obeys_at r m (Record.Term t)) (length s.terms) h); questions = l.questions; claims = l.claims; formulas = l.formulas; choices = l.choices; next_bits = l.next_bits; next_readings = l.next_readings; invariant = l.invariant; bound = l.bound }
lawful_add r s (Record.Question q) l h = record { symbols = l.symbols; readings = l.readings; terms = l.terms; questions = each_push (λ n e. obeys_at r n (Record.Question e)) 0 s.questions q l.questions (from_zero (λ m. obeys_at r m (Record.Question q)) (length s.questions) h); claims = l.claims; formulas = l.formulas; choices = l.choices; next_bits = l.next_bits; next_readings = l.next_readings; invariant = l.invariant; bound = l.bound }
lawful_add r s (Record.Claim q) l h = record { symbols = l.symbols; readings = l.readings; terms = l.terms; questions = l.questions; claims = each_push (λ n e. obeys_at r n (Record.Claim e)) 0 s.claims q l.claims (from_zero (λ m. obeys_at r m (Record.Claim q)) (length s.claims) h); formulas = l.formulas; choices = l.choices; next_bits = l.next_bits; next_readings = l.next_readings; invariant = l.invariant; bound = l.bound }
lawful_add r s (Record.Formula f) l h = record { symbols = l.symbols; readings = l.readings; terms = l.terms; questions = l.questions; claims = l.claims; formulas = each_push (λ n f. obeys_at r n (Record.Formula f)) 0 s.formulas f l.formulas (from_zero (λ m. obeys_at r m (Record.Formula f)) (length s.formulas) h); choices = l.choices; next_bits = l.next_bits; next_readings = l.next_readings; invariant = l.invariant; bound = l.bound }
lawful_add r s (Record.Choice k) l h = record { symbols = l.symbols; readings = l.readings; terms = l.terms; questions = l.questions; claims = l.claims; formulas = l.formulas; choices = each_push (λ n k. obeys_at r n (Record.Choice k)) 0 s.choices k l.choices (from_zero (λ m. obeys_at r m (Record.Choice k)) (length s.choices) h); next_bits = l.next_bits; next_readings = l.next_readings; invariant = l.invariant; bound = l.bound }
lawful_add r s (Record.NextBit b f) l h = record { symbols = l.symbols; readings = l.readings; terms = l.terms; questions = l.questions; claims = l.claims; formulas = l.formulas; choices = l.choices; next_bits = each_set (λ n b. given (λ f. obeys_at r 0 (Record.NextBit n f)) b.next) 0 s.bits b (bit_with (get_or s.bits b no_bit) f) l.next_bits (from_zero (λ m. obeys_at r 0 (Record.NextBit m f)) b h); next_readings = l.next_readings; invariant = l.invariant; bound = l.bound }
lawful_add r s (Record.NextReading i k) l h = record { symbols = l.symbols; readings = starts_lawful r s.readings i k l.readings; terms = l.terms; questions = l.questions; claims = l.claims; formulas = l.formulas; choices = l.choices; next_bits = l.next_bits; next_readings = each_set (λ n x. given (λ k. obeys_at r 0 (Record.NextReading n k)) x.next) 0 s.readings i (reading_with (get_or s.readings i no_reading) k) l.next_readings (from_zero (λ m. obeys_at r 0 (Record.NextReading m k)) i h); invariant = l.invariant; bound = l.bound }
lawful_add r s (Record.Invariant f) l h = record { symbols = l.symbols; readings = l.readings; terms = l.terms; questions = l.questions; claims = l.claims; formulas = l.formulas; choices = l.choices; next_bits = l.next_bits; next_readings = l.next_readings; invariant = h; bound = l.bound }
lawful_add r s (Record.Bound b) l h = record { symbols = l.symbols; readings = l.readings; terms = l.terms; questions = l.questions; claims = l.claims; formulas = l.formulas; choices = l.choices; next_bits = l.next_bits; next_readings = l.next_readings; invariant = l.invariant; bound = h }

one_more : (n m k : ℕ) → ltb n m ≡ true → k ≡ n + 1 → leb k m ≡ true
one_more n m k h e = grind (arith, nat_tests)

few_add : (s : System) (x : Record) → Few s → room s (kind_of x) ≡ true → Few (add s x)
few_add s (Record.Bit b) w h = record { bits = one_more (length s.bits) 16 (length (s.bits ++ new_bit b ∷ [])) h (length_push s.bits (new_bit b)); symbols = w.symbols; readings = w.readings; inputs = w.inputs; terms = w.terms; questions = w.questions; claims = w.claims; formulas = w.formulas; choices = w.choices }
few_add s (Record.Symbol a) w h = record { bits = w.bits; symbols = one_more (length s.symbols) 32 (length (s.symbols ++ a ∷ [])) h (length_push s.symbols a); readings = w.readings; inputs = w.inputs; terms = w.terms; questions = w.questions; claims = w.claims; formulas = w.formulas; choices = w.choices }
few_add s (Record.Reading x) w h = record { bits = w.bits; symbols = w.symbols; readings = one_more (length s.readings) 6 (length (s.readings ++ new_reading x ∷ [])) h (length_push s.readings (new_reading x)); inputs = w.inputs; terms = w.terms; questions = w.questions; claims = w.claims; formulas = w.formulas; choices = w.choices }
few_add s Record.Input w h = record { bits = w.bits; symbols = w.symbols; readings = w.readings; inputs = one_more s.inputs 4 (s.inputs + 1) h refl; terms = w.terms; questions = w.questions; claims = w.claims; formulas = w.formulas; choices = w.choices }
few_add s (Record.Term t) w h = record { bits = w.bits; symbols = w.symbols; readings = w.readings; inputs = w.inputs; terms = one_more (length s.terms) 64 (length (s.terms ++ t ∷ [])) h (length_push s.terms t); questions = w.questions; claims = w.claims; formulas = w.formulas; choices = w.choices }
few_add s (Record.Question q) w h = record { bits = w.bits; symbols = w.symbols; readings = w.readings; inputs = w.inputs; terms = w.terms; questions = one_more (length s.questions) 6 (length (s.questions ++ q ∷ [])) h (length_push s.questions q); claims = w.claims; formulas = w.formulas; choices = w.choices }
few_add s (Record.Claim q) w h = record { bits = w.bits; symbols = w.symbols; readings = w.readings; inputs = w.inputs; terms = w.terms; questions = w.questions; claims = one_more (length s.claims) 4 (length (s.claims ++ q ∷ [])) h (length_push s.claims q); formulas = w.formulas; choices = w.choices }
few_add s (Record.Formula f) w h = record { bits = w.bits; symbols = w.symbols; readings = w.readings; inputs = w.inputs; terms = w.terms; questions = w.questions; claims = w.claims; formulas = one_more (length s.formulas) 64 (length (s.formulas ++ f ∷ [])) h (length_push s.formulas f); choices = w.choices }
few_add s (Record.Choice k) w h = record { bits = w.bits; symbols = w.symbols; readings = w.readings; inputs = w.inputs; terms = w.terms; questions = w.questions; claims = w.claims; formulas = w.formulas; choices = one_more (length s.choices) 64 (length (s.choices ++ k ∷ [])) h (length_push s.choices k) }
few_add s (Record.NextBit b f) w h = record { bits = rw (length-set s.bits b (bit_with (get_or s.bits b no_bit) f)) w.bits; symbols = w.symbols; readings = w.readings; inputs = w.inputs; terms = w.terms; questions = w.questions; claims = w.claims; formulas = w.formulas; choices = w.choices }
few_add s (Record.NextReading i k) w h = record { bits = w.bits; symbols = w.symbols; readings = rw (length-set s.readings i (reading_with (get_or s.readings i no_reading) k)) w.readings; inputs = w.inputs; terms = w.terms; questions = w.questions; claims = w.claims; formulas = w.formulas; choices = w.choices }
few_add s (Record.Invariant f) w h = record { bits = w.bits; symbols = w.symbols; readings = w.readings; inputs = w.inputs; terms = w.terms; questions = w.questions; claims = w.claims; formulas = w.formulas; choices = w.choices }
few_add s (Record.Bound b) w h = record { bits = w.bits; symbols = w.symbols; readings = w.readings; inputs = w.inputs; terms = w.terms; questions = w.questions; claims = w.claims; formulas = w.formulas; choices = w.choices }

pub lawful_more : (s : System) (x : Record) → Lawful s → room s (kind_of x) ≡ true → obeys_at s (count s (kind_of x)) x ≡ true → fresh s x ≡ true → Lawful (add s x)
lawful_more s x l room obeys fresh =
    let e = extends_add s x fresh in
    record { few = few_add s x l.few room; each = lawful_add (add s x) s x (lawful_in s (add s x) s e (extends_refl s) l.each) (obeys_kept s (add s x) e (count s (kind_of x)) x (omega arith) obeys) }
