-- A lawful sheet that is written out letter after letter stands in a lawful order, and describes itself.
use Rattle.std.proofs.Common.{◌≡◌, ℕ, zero, suc, ◌+◌, ◌<◌, Bool, true, not, ◌&&◌, ltb, List, [], ◌∷◌, ◌++◌, map, length, get_or, set, replicate, is_some, Some, None, Option, sym, refl, ap, ◌∙◌, subst, ap₂, append_assoc, zero-add, arith, length-append}
use lib.ListN.{length-map}
use Rattle.std.proofs.lemmas.List.{append-nil, get_or_at, set_at, map-append}
use Rattle.std.proofs.lemmas.Bool.{and_parts}
use Rattle.sheet.specs.declared.syntax.Bit.{Bit}
use Rattle.sheet.specs.declared.syntax.Choice.{Choice}
use Rattle.sheet.specs.declared.syntax.Equation.{Equation}
use Rattle.sheet.specs.declared.syntax.Formula.{Formula}
use Rattle.sheet.specs.declared.syntax.Reading.{Reading}
use Rattle.sheet.specs.declared.syntax.Record.{Record}
use Rattle.sheet.specs.declared.syntax.Term.{Term}
use Rattle.sheet.specs.Format.{kind_of}
use Rattle.sheet.specs.Lawful.{each_at, given, Lawful}
use Rattle.sheet.specs.Rules.{names, keeps, obeys_at, count, fresh}
use Rattle.sheet.specs.System.{System, nothing, add, gather, no_bit, no_reading}
use Rattle.sheet.proofs.Eaches.{each_at-index}
use Rattle.reader.proofs.Orders.{from-given}
use Rattle.reader.specs.Canonical.{bit_record, symbol_record, reading_record, term_record, question_record, claim_record, formula_record, choice_record, given_record, next_records, records_of, written_out}
use Rattle.reader.specs.Law.{InOrder, WrittenAs}

pub gather_append : (s : System) (xs ys : List Record) → gather s (xs ++ ys) ≡ gather (gather s xs) ys
gather_append s [] ys = refl
gather_append s (x ∷ xs) ys = gather_append (add s x) xs ys

in-order-append : (s : System) (xs ys : List Record) → InOrder s xs → InOrder (gather s xs) ys → InOrder s (xs ++ ys)
in-order-append s [] ys a b = b
in-order-append s (x ∷ xs) ys a b = (a.0, a.1, in-order-append (add s x) xs ys a.2 b)

-- the records lead from one state to another, in a lawful order
pub record Leads (from : System) (xs : List Record) (to : System) : Type 0 where
  pub order : InOrder from xs
  pub ends : gather from xs ≡ to

leads_append : {r s t : System} {xs ys : List Record} → Leads r xs s → Leads s ys t → Leads r (xs ++ ys) t
leads_append {r} {s} {t} {xs} {ys} a b =
    record { order = in-order-append r xs ys a.order (subst (λ u. InOrder u ys) (sym a.ends) b.order); ends = gather_append r xs ys ∙ (ap (λ u. gather u ys) a.ends ∙ b.ends) }

-- A segment: records of one kind, each of which adds one element to a list. st is the state with the
-- elements that are there already.
module _ {A : Type 0} (mk : A → Record) (st : List A → System) (grows : (done : List A) (x : A) → add (st done) (mk x) ≡ st (done ++ x ∷ [])) (all : List A) (fits : (done : List A) (x : A) (more : List A) → done ++ x ∷ more ≡ all → (names (st done) (count (st done) (kind_of (mk x))) (mk x) ≡ true) × (fresh (st done) (mk x) ≡ true)) where
  segment_from : (done rest : List A) → done ++ rest ≡ all → Leads (st done) (map mk rest) (st all)
  segment_from done [] e = record { order = tt; ends = ap st (sym (append-nil done) ∙ e) }
  segment_from done (x ∷ rest) e =
      let f = fits done x rest e in
      let more = segment_from (done ++ x ∷ []) rest (append_assoc done (x ∷ []) rest ∙ e) in
      record { order = (f.0, f.1, subst (λ u. InOrder u (map mk rest)) (sym (grows done x)) more.order); ends = ap (λ u. gather u (map mk rest)) (grows done x) ∙ more.ends }

  segment : Leads (st []) (map mk all) (st all)
  segment = segment_from [] all refl

-- what a test says of the element after those that are done
tested : {A : Type 0} (test : ℕ → A → Bool) (all done : List A) (x : A) (more : List A) → done ++ x ∷ more ≡ all → each_at test 0 all ≡ true → test (length done) x ≡ true
tested test all done x more e h =
    let inside : length done < length all = omega (arith, sym (ap length e), length-append done (x ∷ more)) in
    let here : get_or all (length done) x ≡ x = ap (λ l. get_or l (length done) x) (sym e) ∙ get_or_at done x more x (length done) refl in
    ap₂ test (sym (zero-add (length done))) (sym here) ∙ each_at-index test 0 all (length done) x h inside

-- a record that is there if a value is
given_leads : (mk : ℕ → Record) (st : Option ℕ → System) (o : Option ℕ) → ((n : ℕ) → o ≡ Some n → (names (st None) (count (st None) (kind_of (mk n))) (mk n) ≡ true) × (fresh (st None) (mk n) ≡ true) × (add (st None) (mk n) ≡ st (Some n))) → Leads (st None) (given_record mk o) (st o)
given_leads mk st None f = record { order = tt; ends = refl }
given_leads mk st (Some n) f = let h = f n refl in record { order = (h.0, h.1, tt); ends = h.2 }

-- Next values: each is given to an element that is there already, and has none. st is the state with these elements.
module _ {A : Type 0} (next : A → Option ℕ) (with_next : A → Option ℕ → A) (same : (x : A) → with_next x (next x) ≡ x) (blank : A) (mk : ℕ → ℕ → Record) (st : List A → System) (test : Record → Bool) (all : List A) (each : each_at (λ m x. given (λ n. test (mk m n)) (next x)) 0 all ≡ true)
    (gives : (xs : List A) (k n : ℕ) (x : A) → length xs ≡ length all → get_or xs k blank ≡ with_next x None → test (mk k n) ≡ true → (names (st xs) (count (st xs) (kind_of (mk k n))) (mk k n) ≡ true) × (fresh (st xs) (mk k n) ≡ true) × (add (st xs) (mk k n) ≡ st (set xs k (with_next x (Some n))))) where
  abbrev bare : List A → List A
  bare xs = map (λ x. with_next x None) xs

  one_given : (done rest : List A) (x : A) → done ++ x ∷ rest ≡ all → Leads (st (done ++ bare (x ∷ rest))) (given_record (mk (length done)) (next x)) (st (done ++ x ∷ bare rest))
  one_given done rest x e =
      let lengths : length (done ++ bare (x ∷ rest)) ≡ length all = omega (arith, sym (ap length e), length-append done (bare (x ∷ rest)), length-append done (x ∷ rest), length-map rest (λ y. with_next y None)) in
      let here : get_or (done ++ bare (x ∷ rest)) (length done) blank ≡ with_next x None = get_or_at done (with_next x None) (bare rest) blank (length done) refl in
      let tests = tested (λ m y. given (λ n. test (mk m n)) (next y)) all done x rest e each in
      subst (λ y. Leads (st (done ++ bare (x ∷ rest))) (given_record (mk (length done)) (next x)) (st (done ++ y ∷ bare rest))) (same x)
      (given_leads (mk (length done)) (λ o. st (done ++ with_next x o ∷ bare rest)) (next x) (λ n is.
      let g = gives (done ++ bare (x ∷ rest)) (length done) n x lengths here (from-given (λ n. test (mk (length done) n)) (next x) n is tests) in
      (g.0, g.1, g.2 ∙ ap st (set_at done (with_next x None) (bare rest) (with_next x (Some n)) (length done) refl))))

  given_from : (done rest : List A) → done ++ rest ≡ all → Leads (st (done ++ bare rest)) (next_records next mk (length done) rest) (st all)
  given_from done [] e = record { order = tt; ends = ap st e }
  given_from done (x ∷ rest) e =
      let more = given_from (done ++ x ∷ []) rest (append_assoc done (x ∷ []) rest ∙ e) in
      let more' = subst (λ n. Leads (st (done ++ x ∷ bare rest)) (next_records next mk n rest) (st all)) (omega (arith, length-append done (x ∷ []))) (subst (λ xs. Leads (st xs) (next_records next mk (length (done ++ x ∷ [])) rest) (st all)) (append_assoc done (x ∷ []) (bare rest)) more) in
      leads_append (one_given done rest x e) more'

-- bits and readings with another next value, or with none
abbrev bit_next : Bit → Option ℕ → Bit
bit_next b o = record { start = b.start; next = o }

abbrev reading_next : Reading → Option ℕ → Reading
reading_next r o = record { start = r.start; next = o }

abbrev bare_bit : Bit → Bit
bare_bit b = bit_next b None

abbrev bare_reading : Reading → Reading
bare_reading r = reading_next r None

module _ (s : System) (l : Lawful s) where
  abbrev stage : List Bit → List ℕ → List Reading → ℕ → List Term → List Equation → List Equation → List Formula → List Choice → Option ℕ → Option ℕ → System
  stage b f r i t q c o k v h = record { bits = b; symbols = f; readings = r; inputs = i; terms = t; questions = q; claims = c; formulas = o; choices = k; invariant = v; bound = h }

  named : (n : ℕ) (x : Record) → obeys_at s n x ≡ true → names s n x ≡ true
  named n x h = (and_parts (names s n x) (keeps s x) h).0

  bits_first : Leads nothing (map bit_record s.bits) (stage (map bare_bit s.bits) [] [] 0 [] [] [] [] [] None None)
  bits_first = segment bit_record (λ done. stage (map bare_bit done) [] [] 0 [] [] [] [] [] None None) (λ done x. ap (λ b. stage b [] [] 0 [] [] [] [] [] None None) (sym (map-append bare_bit done (x ∷ [])))) s.bits (λ done x more e. (refl, refl))

  abbrev b₁ : List Bit
  b₁ = map bare_bit s.bits

  abbrev r₁ : List Reading
  r₁ = map bare_reading s.readings

  symbols_next : Leads (stage b₁ [] [] 0 [] [] [] [] [] None None) (map symbol_record s.symbols) (stage b₁ s.symbols [] 0 [] [] [] [] [] None None)
  symbols_next = segment symbol_record (λ done. stage b₁ done [] 0 [] [] [] [] [] None None) (λ done x. refl) s.symbols (λ done x more e. (refl, refl))

  -- a segment of records that obey the rules in the whole sheet
  obeyed : {A : Type 0} (mk : A → Record) (st : List A → System) (grows : (done : List A) (x : A) → add (st done) (mk x) ≡ st (done ++ x ∷ [])) (all : List A) → each_at (λ n x. obeys_at s n (mk x)) 0 all ≡ true → ((done : List A) (x : A) → names s (length done) (mk x) ≡ true → (names (st done) (count (st done) (kind_of (mk x))) (mk x) ≡ true) × (fresh (st done) (mk x) ≡ true)) → Leads (st []) (map mk all) (st all)
  obeyed mk st grows all each fits = segment mk st grows all (λ done x more e. fits done x (named (length done) (mk x) (tested (λ n x. obeys_at s n (mk x)) all done x more e each)))

  readings_next : Leads (stage b₁ s.symbols [] 0 [] [] [] [] [] None None) (map reading_record s.readings) (stage b₁ s.symbols r₁ 0 [] [] [] [] [] None None)
  readings_next =
      obeyed reading_record (λ done. stage b₁ s.symbols (map bare_reading done) 0 [] [] [] [] [] None None) (λ done x. ap (λ r. stage b₁ s.symbols r 0 [] [] [] [] [] None None) (sym (map-append bare_reading done (x ∷ [])))) s.readings l.each.readings (λ done x h. (grind arith, refl))

  inputs_from : (m n t : ℕ) → m + n ≡ t → Leads (stage b₁ s.symbols r₁ m [] [] [] [] [] None None) (replicate n Record.Input) (stage b₁ s.symbols r₁ t [] [] [] [] [] None None)
  inputs_from m zero t e = record { order = tt; ends = ap (λ i. stage b₁ s.symbols r₁ i [] [] [] [] [] None None) (omega (arith, e)) }
  inputs_from m (suc n) t e = let more = inputs_from (m + 1) n t (omega (arith, e)) in record { order = (refl, refl, more.order); ends = more.ends }

  terms_next : Leads (stage b₁ s.symbols r₁ s.inputs [] [] [] [] [] None None) (map term_record s.terms) (stage b₁ s.symbols r₁ s.inputs s.terms [] [] [] [] None None)
  terms_next = obeyed term_record (λ done. stage b₁ s.symbols r₁ s.inputs done [] [] [] [] None None) (λ done x. refl) s.terms l.each.terms (λ done x h. (grind (arith, length-map s.readings bare_reading), refl))

  questions_next : Leads (stage b₁ s.symbols r₁ s.inputs s.terms [] [] [] [] None None) (map question_record s.questions) (stage b₁ s.symbols r₁ s.inputs s.terms s.questions [] [] [] None None)
  questions_next = obeyed question_record (λ done. stage b₁ s.symbols r₁ s.inputs s.terms done [] [] [] None None) (λ done x. refl) s.questions l.each.questions (λ done x h. (h, refl))

  claims_next : Leads (stage b₁ s.symbols r₁ s.inputs s.terms s.questions [] [] [] None None) (map claim_record s.claims) (stage b₁ s.symbols r₁ s.inputs s.terms s.questions s.claims [] [] None None)
  claims_next = obeyed claim_record (λ done. stage b₁ s.symbols r₁ s.inputs s.terms s.questions done [] [] None None) (λ done x. refl) s.claims l.each.claims (λ done x h. (h, refl))

  formulas_next : Leads (stage b₁ s.symbols r₁ s.inputs s.terms s.questions s.claims [] [] None None) (map formula_record s.formulas) (stage b₁ s.symbols r₁ s.inputs s.terms s.questions s.claims s.formulas [] None None)
  formulas_next = obeyed formula_record (λ done. stage b₁ s.symbols r₁ s.inputs s.terms s.questions s.claims done [] None None) (λ done x. refl) s.formulas l.each.formulas (λ done x h. (grind (arith, length-map s.bits bare_bit), refl))

  choices_next : Leads (stage b₁ s.symbols r₁ s.inputs s.terms s.questions s.claims s.formulas [] None None) (map choice_record s.choices) (stage b₁ s.symbols r₁ s.inputs s.terms s.questions s.claims s.formulas s.choices None None)
  choices_next = obeyed choice_record (λ done. stage b₁ s.symbols r₁ s.inputs s.terms s.questions s.claims s.formulas done None None) (λ done x. refl) s.choices l.each.choices (λ done x h. (grind arith, refl))

  -- the states in which next values are given
  abbrev things : List Bit → List Reading → Option ℕ → Option ℕ → System
  things b r v h = stage b s.symbols r s.inputs s.terms s.questions s.claims s.formulas s.choices v h

  bits_given : Leads (things b₁ r₁ None None) (next_records (λ b. b.next) (λ k f. Record.NextBit k f) 0 s.bits) (things s.bits r₁ None None)
  bits_given =
      given_from (λ b. b.next) bit_next (λ b. refl) no_bit (λ k f. Record.NextBit k f) (λ bs. things bs r₁ None None) (obeys_at s 0) s.bits l.each.next_bits
      (λ bs k f b same here ok. (ap (λ m. ltb k m && ltb f (length s.formulas)) same ∙ named 0 (Record.NextBit k f) ok, ap (λ (x : Bit). not (is_some x.next)) here, ap (λ (x : Bit). things (set bs k (bit_next x (Some f))) r₁ None None) here)) [] s.bits refl

  readings_given : Leads (things s.bits r₁ None None) (next_records (λ r. r.next) (λ k c. Record.NextReading k c) 0 s.readings) (things s.bits s.readings None None)
  readings_given =
      given_from (λ r. r.next) reading_next (λ r. refl) no_reading (λ k c. Record.NextReading k c) (λ rs. things s.bits rs None None) (obeys_at s 0) s.readings l.each.next_readings
      (λ rs k c r same here ok. (ap (λ m. ltb k m && ltb c (length s.choices)) same ∙ named 0 (Record.NextReading k c) ok, ap (λ (x : Reading). not (is_some x.next)) here, ap (λ (x : Reading). things s.bits (set rs k (reading_next x (Some c))) None None) here)) [] s.readings refl

  invariant-given : Leads (things s.bits s.readings None None) (given_record (λ f. Record.Invariant f) s.invariant) (things s.bits s.readings s.invariant None)
  invariant-given = given_leads (λ f. Record.Invariant f) (λ o. things s.bits s.readings o None) s.invariant (λ f is. (named 0 (Record.Invariant f) (from-given (λ f. obeys_at s 0 (Record.Invariant f)) s.invariant f is l.each.invariant), refl, refl))

  bound_given : Leads (things s.bits s.readings s.invariant None) (given_record (λ h. Record.Bound h) s.bound) s
  bound_given = given_leads (λ h. Record.Bound h) (λ o. things s.bits s.readings s.invariant o) s.bound (λ h is. (refl, refl, refl))

  next_values : Leads (things b₁ r₁ None None) (next_records (λ b. b.next) (λ k f. Record.NextBit k f) 0 s.bits ++ (next_records (λ r. r.next) (λ k c. Record.NextReading k c) 0 s.readings ++ (given_record (λ f. Record.Invariant f) s.invariant ++ given_record (λ h. Record.Bound h) s.bound))) s
  next_values = leads_append bits_given (leads_append readings_given (leads_append invariant-given bound_given))

  all_records : Leads nothing (records_of s) s
  all_records =
      leads_append bits_first (leads_append symbols_next (leads_append readings_next (leads_append (inputs_from 0 s.inputs s.inputs (zero-add s.inputs))
      (leads_append terms_next (leads_append questions_next (leads_append claims_next (leads_append formulas_next (leads_append choices_next next_values))))))))

  pub written_out_describes : WrittenAs (written_out s) s
  written_out_describes = record { records = records_of s; is = refl; order = all_records.order; describes = all_records.ends }
