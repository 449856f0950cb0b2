-- One configuration: its start, its judgement and the step from it.
use Rattle.std.proofs.Common.{◌≡◌, ℕ, ◌<◌, Bool, true, false, not, ◌&&◌, eqb, ltb, List, [], length, get_or, sym, refl, ap, ◌∙◌, ap₂, arith, ltb-true, leb-true}
use Rattle.std.proofs.lemmas.Bool.{and_parts, not-true}
use Rattle.sheet.specs.declared.syntax.Bit.{Bit}
use Rattle.sheet.specs.declared.syntax.Equation.{Equation}
use Rattle.sheet.specs.declared.syntax.Reading.{Reading}
use Rattle.sheet.specs.declared.syntax.Record.{Record}
use Rattle.sheet.specs.Lawful.{Lawful}
use Rattle.sheet.specs.Rules.{obeys_at, contains_input, input_at, term_infos}
use Rattle.sheet.specs.Runs.{Configuration, or_kept, numbered, step, step_values, step_truths, step_chosen, next_bit, next_reading}
use Rattle.sheet.specs.System.{System}
use Rattle.sheet.specs.Truth.{Meaning, term_value, term_values, equal, answers, truths, chosen}
use Rattle.sheet.proofs.Arrays.{filled_all}
use Rattle.sheet.proofs.Growing.{grow-length}
use Rattle.bench.specs.declared.configuration.Configuration.{Configuration as Place}
use Rattle.bench.specs.Outcome.{Same, Holds}
use Rattle.bench.specs.Values.{Known}
use Rattle.bench.proofs.Evaluating.{unlike}
use Rattle.bench.proofs.Agreeing.{numbered-same, or_kept_same, values_same, answers-same, truths-same, not_due, plain-same, map_each}

-- claims are over terms without inputs
module _ (s : System) (law : Lawful s) (all values : List ℕ) (lv : length values ≡ 64) (known : Known false s.terms all values) where
  claim_value : (t : ℕ) → t < length s.terms → contains_input s t ≡ false → get_or values t 0 ≡ get_or all t 0
  claim_value t h e =
      let few = leb-true (length s.terms) 64 law.few.terms in
      known t (omega (arith, few)) (λ q. unlike (sym e ∙ q))

  claim_same : (n : ℕ) (e : Equation) → obeys_at s n (Record.Claim e) ≡ true → equal values e ≡ equal all e
  claim_same n e o =
      let a = ltb e.left (length s.terms) in
      let b = ltb e.right (length s.terms) in
      let x = not (contains_input s e.left) in
      let y = not (contains_input s e.right) in
      let parts = and_parts (a && b) (x && y) o in
      let named = and_parts a b parts.0 in
      let plain = and_parts x y parts.1 in
      ap₂ eqb (claim_value e.left (ltb-true e.left (length s.terms) named.0) (not-true (contains_input s e.left) plain.0)) (claim_value e.right (ltb-true e.right (length s.terms) named.1) (not-true (contains_input s e.right) plain.1))

  claims_same : answers values s.claims ≡ answers all s.claims
  claims_same = map_each (λ n e. obeys_at s n (Record.Claim e)) (equal values) (equal all) claim_same 0 s.claims law.each.claims

-- the judgement
pub judged : (m : Meaning) (s : System) (place : Place) (c : Configuration) (claims : List Bool) (values : List ℕ) (f : ℕ) (r : Bool) → Lawful s → Holds place c → length values ≡ 64 → Known false s.terms (term_values m place.readings [] s.terms) values → Same false claims (answers values s.claims) → r ≡ get_or (truths place.bits [] claims s.formulas) f false → r ≡ get_or (truths c.bits [] (answers (term_values m c.readings [] s.terms) s.claims) s.formulas) f false
judged m s place c claims values f r law holds lv known same is =
    let all = term_values m place.readings [] s.terms in
    let claims_are : answers values s.claims ≡ answers (term_values m c.readings [] s.terms) s.claims = claims_same s law all values lv known ∙ ap (λ v. answers v s.claims) (values_same m place.readings c.readings [] holds.readings s.terms) in
    let ok : Same false claims (answers (term_values m c.readings [] s.terms) s.claims) = λ k. same k ∙ ap (λ l. get_or l k false) claims_are in
    is ∙ ap (λ l. get_or l f false) (truths-same place.bits c.bits [] [] claims (answers (term_values m c.readings [] s.terms) s.claims) holds.bits (λ k. refl) ok s.formulas)

-- what is known without inputs is known with any
pub known_with : (m : Meaning) (s : System) (readings inputs values : List ℕ) → Known false s.terms (term_values m readings [] s.terms) values → Known false s.terms (term_values m readings inputs s.terms) values
known_with m s readings inputs values known k h due =
    known k h due ∙ plain-same m readings [] inputs s.terms k (not_due (input_at (term_infos s.terms) k) due)

-- the step
module _ (m : Meaning) (s : System) (place : Place) (c : Configuration) (inputs : List ℕ) (law : Lawful s) (holds : Holds place c) (values : List ℕ) (lv : length values ≡ 64) (known : Known true s.terms (term_values m place.readings inputs s.terms) values) where
  values_are : Same 0 values (step_values m s c inputs)
  values_are k =
      filled_all 0 values (term_values m place.readings inputs s.terms) (λ j h. known j h (λ _. refl)) (omega (arith, leb-true (length s.terms) 64 law.few.terms, grow-length (term_value m place.readings inputs) [] s.terms)) k ∙ ap (λ l. get_or l k 0) (values_same m place.readings c.readings inputs holds.readings s.terms)

  module _ (questions ts : List Bool) (ks : List ℕ) (fq : Same false questions (answers values s.questions)) (ft : Same false ts (truths place.bits questions [] s.formulas)) (fk : Same 0 ks (chosen (λ f. get_or (truths place.bits questions [] s.formulas) f false) s.choices)) where
    questions_are : Same false questions (answers (step_values m s c inputs) s.questions)
    questions_are k =
        fq k ∙ ap (λ l. get_or l k false) (answers-same values (step_values m s c inputs) values_are s.questions)

    right_are : truths place.bits questions [] s.formulas ≡ step_truths m s c inputs
    right_are =
        truths-same place.bits c.bits questions (answers (step_values m s c inputs) s.questions) [] [] holds.bits questions_are (λ j. refl) s.formulas

    truths_are : Same false ts (step_truths m s c inputs)
    truths_are k = ft k ∙ ap (λ l. get_or l k false) right_are

    chosen_are : Same 0 ks (step_chosen m s c inputs)
    chosen_are k =
        fk k ∙ ap (λ (l : List Bool). get_or (chosen (λ f. get_or l f false) s.choices) k 0) right_are

    pub stepped : (next : Place) → Same false next.bits (numbered (λ n b. or_kept (λ f. get_or ts f false) (get_or place.bits n false) b.next) 0 s.bits) → Same 0 next.readings (numbered (λ n r. or_kept (λ k. get_or values (get_or ks k 0) 0) (get_or place.readings n 0) r.next) 0 s.readings) → Holds next (step m s c inputs)
    stepped next fb fr =
        let bit : ℕ → Bit → Bool = λ n b. or_kept (λ f. get_or ts f false) (get_or place.bits n false) b.next in
        let reading : ℕ → Reading → ℕ = λ n r. or_kept (λ k. get_or values (get_or ks k 0) 0) (get_or place.readings n 0) r.next in
        let bits_are = numbered-same bit (next_bit m s c inputs) (λ n b. or_kept_same (λ f. get_or ts f false) (λ f. get_or (step_truths m s c inputs) f false) (get_or place.bits n false) (get_or c.bits n false) truths_are (holds.bits n) b.next) 0 s.bits in
        let readings_are = numbered-same reading (next_reading m s c inputs) (λ n r. or_kept_same (λ k. get_or values (get_or ks k 0) 0) (λ k. get_or (step_values m s c inputs) (get_or (step_chosen m s c inputs) k 0) 0) (get_or place.readings n 0) (get_or c.readings n 0) (λ k. values_are (get_or ks k 0) ∙ ap (λ j. get_or (step_values m s c inputs) j 0) (chosen_are k)) (holds.readings n) r.next) 0 s.readings in
        record { bits = λ k. fb k ∙ ap (λ l. get_or l k false) bits_are; readings = λ k. fr k ∙ ap (λ l. get_or l k 0) readings_are }
