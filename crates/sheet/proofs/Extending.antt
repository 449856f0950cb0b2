-- What later records leave as it was, and that the rules for a record do not change by it.
use Rattle.std.proofs.Common.{◌≡◌, ℕ, ◌+◌, ◌<◌, ◌≤◌, max, Bool, true, not, ◌&&◌, ◌||◌, eqb, ltb, List, [], ◌∷◌, ◌++◌, length, get_or, Some, Option, sym, refl, ap, ◌∙◌, ap₂, append_assoc, arith, length-append}
use Rattle.std.proofs.lemmas.List.{append-nil, get_or_append_left}
use Rattle.std.proofs.lemmas.Bool.{and_parts}
use Rattle.std.proofs.lemmas.Bool.Decides.{nat_tests}
use Rattle.sheet.specs.declared.syntax.Args.{Args}
use Rattle.sheet.specs.declared.syntax.Args.TheVariants.{Zero, One, Two, Three}
use Rattle.sheet.specs.declared.syntax.Bit.{Bit}
use Rattle.sheet.specs.declared.syntax.Choice.{Choice}
use Rattle.sheet.specs.declared.syntax.Formula.{Formula}
use Rattle.sheet.specs.declared.syntax.Reading.{Reading}
use Rattle.sheet.specs.declared.syntax.Record.{Record}
use Rattle.sheet.specs.declared.syntax.Start.{Start}
use Rattle.sheet.specs.declared.syntax.Term.{Term}
use Rattle.sheet.specs.declared.syntax.TermInfo.{TermInfo}
use Rattle.sheet.specs.declared.syntax.FormulaInfo.{FormulaInfo}
use Rattle.sheet.specs.Format.{kind_of}
use Rattle.sheet.specs.Grow.{grow}
use Rattle.sheet.specs.Rules.{term_info, term_infos, args_info, args_below, formula_info, formula_infos, no_info, plain, names, keeps, count, contains_claim, contains_question}
use Rattle.sheet.specs.System.{System, no_bit, no_reading}
use Rattle.sheet.proofs.Growing.{grow-length, grow-keeps}

-- xs stands at the front of ys
abbrev pub Prefix : {A : Type 0} → List A → List A → Type 0
Prefix xs ys = (zs : List _) × (ys ≡ xs ++ zs)

pub prefix_refl : {A : Type 0} (xs : List A) → Prefix xs xs
prefix_refl xs = ([], sym (append-nil xs))

pub prefix_push : {A : Type 0} (xs : List A) (x : A) → Prefix xs (xs ++ x ∷ [])
prefix_push xs x = (x ∷ [], refl)

pub prefix_trans : {A : Type 0} (xs ys zs : List A) → Prefix xs ys → Prefix ys zs → Prefix xs zs
prefix_trans xs ys zs p q = (p.0 ++ q.0, q.1 ∙ (ap (λ l. l ++ q.0) p.1 ∙ append_assoc xs p.0 q.0))

pub prefix_length : {A : Type 0} (xs ys : List A) → Prefix xs ys → length xs ≤ length ys
prefix_length xs ys p = omega (arith, ap length p.1, length-append xs p.0)

pub prefix-get_or : {A : Type 0} (xs ys : List A) (i : ℕ) (d : A) → Prefix xs ys → i < length xs → get_or ys i d ≡ get_or xs i d
prefix-get_or xs ys i d p h = ap (λ l. get_or l i d) p.1 ∙ get_or_append_left xs p.0 d i h

grow-append : {N V : Type 0} (step : List V → N → V) (seen : List V) (xs ys : List N) → grow step seen (xs ++ ys) ≡ grow step (grow step seen xs) ys
grow-append step seen [] ys = refl
grow-append step seen (x ∷ xs) ys = grow-append step (seen ++ step seen x ∷ []) xs ys

prefix_grow : {N V : Type 0} (step : List V → N → V) (xs ys : List N) (i : ℕ) (d : V) → Prefix xs ys → i < length xs → get_or (grow step [] ys) i d ≡ get_or (grow step [] xs) i d
prefix_grow step xs ys i d p h =
    ap (λ l. get_or (grow step [] l) i d) p.1 ∙ (ap (λ l. get_or l i d) (grow-append step [] xs p.0) ∙ grow-keeps step (grow step [] xs) p.0 i d (omega (arith, grow-length step [] xs)))

-- next values that are given stay given
abbrev pub Kept : {A : Type 0} → (A → Option ℕ) → A → List A → List A → Type 0
Kept next d xs ys = (i n : ℕ) → next (get_or xs i d) ≡ Some n → next (get_or ys i d) ≡ Some n

abbrev pub next_of_bit : Bit → Option ℕ
next_of_bit b = b.next

abbrev pub next_of_reading : Reading → Option ℕ
next_of_reading r = r.next

abbrev pub BitsKept : List Bit → List Bit → Type 0
BitsKept xs ys = Kept next_of_bit no_bit xs ys

abbrev pub ReadingsKept : List Reading → List Reading → Type 0
ReadingsKept xs ys = Kept next_of_reading no_reading xs ys

abbrev pub StartsKept : List Reading → List Reading → Type 0
StartsKept xs ys = (i : ℕ) → i < length xs → (get_or ys i no_reading).start ≡ (get_or xs i no_reading).start

abbrev pub GivenKept : Option ℕ → Option ℕ → Type 0
GivenKept x y = (n : ℕ) → x ≡ Some n → y ≡ Some n

pub record Extends (r s : System) : Type 0 where
  pub bits : length r.bits ≤ length s.bits
  pub symbols : Prefix r.symbols s.symbols
  pub readings : length r.readings ≤ length s.readings
  pub inputs : r.inputs ≤ s.inputs
  pub terms : Prefix r.terms s.terms
  pub questions : Prefix r.questions s.questions
  pub claims : Prefix r.claims s.claims
  pub formulas : Prefix r.formulas s.formulas
  pub choices : Prefix r.choices s.choices
  pub next_bits : BitsKept r.bits s.bits
  pub starts : StartsKept r.readings s.readings
  pub next_readings : ReadingsKept r.readings s.readings
  pub invariant : GivenKept r.invariant s.invariant
  pub bound : GivenKept r.bound s.bound

pub extends_refl : (s : System) → Extends s s
extends_refl s = record { bits = omega arith; symbols = prefix_refl s.symbols; readings = omega arith; inputs = omega arith; terms = prefix_refl s.terms; questions = prefix_refl s.questions; claims = prefix_refl s.claims; formulas = prefix_refl s.formulas; choices = prefix_refl s.choices; next_bits = λ i f e. e; starts = λ i h. refl; next_readings = λ i k e. e; invariant = λ n e. e; bound = λ n e. e }

pub extends_trans : (r s t : System) → Extends r s → Extends s t → Extends r t
extends_trans r s t p q =
    record { bits = omega (arith, p.bits, q.bits); symbols = prefix_trans r.symbols s.symbols t.symbols p.symbols q.symbols; readings = omega (arith, p.readings, q.readings); inputs = omega (arith, p.inputs, q.inputs); terms = prefix_trans r.terms s.terms t.terms p.terms q.terms; questions = prefix_trans r.questions s.questions t.questions p.questions q.questions; claims = prefix_trans r.claims s.claims t.claims p.claims q.claims; formulas = prefix_trans r.formulas s.formulas t.formulas p.formulas q.formulas; choices = prefix_trans r.choices s.choices t.choices p.choices q.choices; next_bits = λ i f e. q.next_bits i f (p.next_bits i f e); starts = λ i h. q.starts i (omega (arith, p.readings)) ∙ p.starts i h; next_readings = λ i k e. q.next_readings i k (p.next_readings i k e); invariant = λ n e. q.invariant n (p.invariant n e); bound = λ n e. q.bound n (p.bound n e) }

-- the rules of a record whose things are all there

below_more_of : (a m n : ℕ) → m ≤ n → ltb a m ≡ true → ltb a n ≡ true
below_more_of a m n h e = grind (arith, nat_tests)

two_below : (a b m n : ℕ) → m ≤ n → ltb a m && ltb b m ≡ true → ltb a n && ltb b n ≡ true
two_below a b m n h e = grind (arith, nat_tests)

below_each : (a b m n i j : ℕ) → m ≤ n → i ≤ j → ltb a m && ltb b i ≡ true → ltb a n && ltb b j ≡ true
below_each a b m n i j h l e = grind (arith, nat_tests)

below_then : (a m n : ℕ) (rest : Bool) → m ≤ n → ltb a m && rest ≡ true → ltb a n && rest ≡ true
below_then a m n rest h e = grind (arith, nat_tests)

-- what is known of a symbol over terms of which this is known
abbrev over_one : TermInfo → TermInfo
over_one i = record { height = i.height + 1; has_input = i.has_input }

abbrev over_two : TermInfo → TermInfo → TermInfo
over_two i j = record { height = max i.height j.height + 1; has_input = i.has_input || j.has_input }

abbrev over_three : TermInfo → TermInfo → TermInfo → TermInfo
over_three i j k = record { height = max i.height (max j.height k.height) + 1; has_input = i.has_input || (j.has_input || k.has_input) }

module _ (r s : System) (e : Extends r s) where
  pub names_kept : (n : ℕ) (x : Record) → names r n x ≡ true → names s n x ≡ true
  names_kept n (Record.Bit b) h = refl
  names_kept n (Record.Symbol a) h = refl
  names_kept n (Record.Reading (Start.Name v)) h = refl
  names_kept n (Record.Reading (Start.Constant c)) h = below_more_of c (length r.symbols) (length s.symbols) (prefix_length r.symbols s.symbols e.symbols) h
  names_kept n Record.Input h = refl
  names_kept n (Record.Term (Term.Reading i)) h = below_more_of i (length r.readings) (length s.readings) e.readings h
  names_kept n (Record.Term (Term.Input i)) h = below_more_of i r.inputs s.inputs e.inputs h
  names_kept n (Record.Term (Term.Apply f args)) h = below_then f (length r.symbols) (length s.symbols) (args_below n args) (prefix_length r.symbols s.symbols e.symbols) h
  names_kept n (Record.Question q) h = two_below q.left q.right (length r.terms) (length s.terms) (prefix_length r.terms s.terms e.terms) h
  names_kept n (Record.Claim q) h = two_below q.left q.right (length r.terms) (length s.terms) (prefix_length r.terms s.terms e.terms) h
  names_kept n (Record.Formula Formula.True) h = refl
  names_kept n (Record.Formula (Formula.Bit b)) h = below_more_of b (length r.bits) (length s.bits) e.bits h
  names_kept n (Record.Formula (Formula.Question q)) h = below_more_of q (length r.questions) (length s.questions) (prefix_length r.questions s.questions e.questions) h
  names_kept n (Record.Formula (Formula.Claim c)) h = below_more_of c (length r.claims) (length s.claims) (prefix_length r.claims s.claims e.claims) h
  names_kept n (Record.Formula (Formula.Not a)) h = h
  names_kept n (Record.Formula (Formula.And a b)) h = h
  names_kept n (Record.Formula (Formula.Or a b)) h = h
  names_kept n (Record.Choice (Choice.Term t)) h = below_more_of t (length r.terms) (length s.terms) (prefix_length r.terms s.terms e.terms) h
  names_kept n (Record.Choice (Choice.If f a b)) h = below_then f (length r.formulas) (length s.formulas) (ltb a n && ltb b n) (prefix_length r.formulas s.formulas e.formulas) h
  names_kept n (Record.NextBit b f) h = below_each b f (length r.bits) (length s.bits) (length r.formulas) (length s.formulas) e.bits (prefix_length r.formulas s.formulas e.formulas) h
  names_kept n (Record.NextReading i k) h = below_each i k (length r.readings) (length s.readings) (length r.choices) (length s.choices) e.readings (prefix_length r.choices s.choices e.choices) h
  names_kept n (Record.Invariant f) h = below_more_of f (length r.formulas) (length s.formulas) (prefix_length r.formulas s.formulas e.formulas) h
  names_kept n (Record.Bound b) h = refl

  term_info_same : (a : ℕ) → a < length r.terms → get_or (term_infos s.terms) a no_info ≡ get_or (term_infos r.terms) a no_info
  term_info_same a h = prefix_grow term_info r.terms s.terms a no_info e.terms h

  formula_info_same : (f : ℕ) → f < length r.formulas → get_or (formula_infos s.formulas) f plain ≡ get_or (formula_infos r.formulas) f plain
  formula_info_same f h = prefix_grow formula_info r.formulas s.formulas f plain e.formulas h

  claim_same : (f : ℕ) → f < length r.formulas → contains_claim s f ≡ contains_claim r f
  claim_same f h = ap (λ (i : FormulaInfo). i.has_claim) (formula_info_same f h)

  question_same : (f : ℕ) → f < length r.formulas → contains_question s f ≡ contains_question r f
  question_same f h = ap (λ (i : FormulaInfo). i.has_question) (formula_info_same f h)

  below : (a n : ℕ) → n ≤ length r.terms → ltb a n ≡ true → a < length r.terms
  below a n l h = grind (arith, nat_tests)

  args_info_same : (n : ℕ) (args : Args) → n ≤ length r.terms → args_below n args ≡ true → args_info (term_infos s.terms) args ≡ args_info (term_infos r.terms) args
  args_info_same n Zero l h = refl
  args_info_same n (One a) l h = ap over_one (term_info_same a (below a n l h))
  args_info_same n (Two a b) l h = ap₂ over_two (term_info_same a (below a n l (grind (arith, nat_tests)))) (term_info_same b (below b n l (grind (arith, nat_tests))))
  args_info_same n (Three a b c) l h =
      let p = term_info_same a (below a n l (grind (arith, nat_tests))) in
      let q = term_info_same b (below b n l (grind (arith, nat_tests))) in
      let o = term_info_same c (below c n l (grind (arith, nat_tests))) in
      ap (λ i. over_three i (get_or (term_infos s.terms) b no_info) (get_or (term_infos s.terms) c no_info)) p ∙ ap₂ (over_three (get_or (term_infos r.terms) a no_info)) q o

  pub keeps_same : (n : ℕ) (x : Record) → n ≤ count r (kind_of x) → names r n x ≡ true → keeps s x ≡ keeps r x
  keeps_same n (Record.Bit b) l h = refl
  keeps_same n (Record.Symbol a) l h = refl
  keeps_same n (Record.Reading (Start.Name v)) l h = refl
  keeps_same n (Record.Reading (Start.Constant c)) l h = ap (λ a. eqb a 0) (prefix-get_or r.symbols s.symbols c 0 e.symbols (grind (arith, nat_tests)))
  keeps_same n Record.Input l h = refl
  keeps_same n (Record.Term (Term.Reading i)) l h = refl
  keeps_same n (Record.Term (Term.Input i)) l h = refl
  keeps_same n (Record.Term (Term.Apply f args)) l h =
      let a = prefix-get_or r.symbols s.symbols f 0 e.symbols (grind (arith, nat_tests)) in
      let i = args_info_same n args l (and_parts (ltb f (length r.symbols)) (args_below n args) h).1 in
      rw (a, i)
  keeps_same n (Record.Question q) l h = refl
  keeps_same n (Record.Claim q) l h =
      let a = ap (λ (i : TermInfo). i.has_input) (term_info_same q.left (grind (arith, nat_tests))) in
      let b = ap (λ (i : TermInfo). i.has_input) (term_info_same q.right (grind (arith, nat_tests))) in
      rw (a, b)
  keeps_same n (Record.Formula f) l h = refl
  keeps_same n (Record.Choice (Choice.Term t)) l h = refl
  keeps_same n (Record.Choice (Choice.If f a b)) l h = ap not (claim_same f (grind (arith, nat_tests)))
  keeps_same n (Record.NextBit b f) l h = ap not (claim_same f (grind (arith, nat_tests)))
  keeps_same n (Record.NextReading i k) l h = refl
  keeps_same n (Record.Invariant f) l h = ap not (question_same f (grind (arith, nat_tests)))
  keeps_same n (Record.Bound b) l h = refl
