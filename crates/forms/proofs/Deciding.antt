-- A form is unsafe exactly where a case of the claims with a false invariant is possible.
use Rattle.std.proofs.Common.{◌≡◌, ℕ, suc, ◌^◌, ◌<◌, Bool, true, false, not, ◌&&◌, ◌||◌, ltb, List, [], ◌∷◌, ◌++◌, map, length, get_or, sym, refl, ap, ◌∙◌, subst, ⊎_elim, arith}
use Rattle.std.specs.List.{AllByRecursion as All}
use Rattle.std.proofs.ByRecursion.{All-append}
use Rattle.std.proofs.lemmas.List.{length-map, length_push, get_or_at, get_or_append_left}
use Rattle.std.proofs.lemmas.Bool.{ltb-true, cases_lt, cases_Bool, and_parts, or_parts, not-true, true≢false, both_ways}
use Rattle.sheet.specs.declared.syntax.Args.{Args}
use Rattle.sheet.specs.declared.syntax.Args.TheVariants.{Zero, One, Two, Three}
use Rattle.sheet.specs.declared.syntax.Equation.{Equation}
use Rattle.sheet.specs.declared.syntax.Record.{Record}
use Rattle.sheet.specs.declared.syntax.Term.{Term as SheetTerm}
use Rattle.sheet.specs.declared.syntax.TermInfo.{TermInfo}
use Rattle.sheet.specs.Grow.{grow}
use Rattle.sheet.specs.Lawful.{each_at, Lawful}
use Rattle.sheet.specs.Rules.{no_info, input_at, args_info, term_info, term_infos, names, keeps, obeys_at, args_below, contains_input}
use Rattle.sheet.specs.Runs.{Configuration, numbered, or_kept, invariant_holds}
use Rattle.sheet.specs.System.{System}
use Rattle.sheet.specs.Truth.{arg_values, term_value, term_values, equal, answers, truths}
use Rattle.sheet.proofs.Growing.{grow-length}
use Rattle.terms.specs.Terms.{Term, Interpretation, eval, Holds}
use Rattle.banks.proofs.Gaining.{all_left, all_right}
use Rattle.forms.specs.Rows.{Row, RowOf}
use Rattle.forms.specs.Candidate.{no_term, applied, term_over, terms_over, branch_answers, condition_of}
use Rattle.forms.specs.Safety.{Safe, Unsafe, Breaking, claim_conditions}
use Rattle.forms.specs.Laws.{Decided, SafetyByCases}
use Rattle.forms.proofs.Answering.{covered_small, interpreted, invariant_same}
use Rattle.forms.proofs.Branches.{branch_of, branch_small, answers_of_branch, answers_long}
use Rattle.forms.proofs.Stepping.{value_at, Agrees, conditions_true, answers_told}

-- Terms without inputs have their values whatever the inputs are.
pub record Plain (j : Interpretation) (infos : List TermInfo) (values : List ℕ) (terms : List Term) : Type 0 where
  pub informed : length infos ≡ length terms
  pub valued : length values ≡ length terms
  pub same : (n : ℕ) → n < length terms → input_at infos n ≡ false → get_or values n 0 ≡ eval j (get_or terms n no_term)

plain_push : (j : Interpretation) (infos : List TermInfo) (values : List ℕ) (terms : List Term) (i : TermInfo) (v : ℕ) (t : Term) → Plain j infos values terms → (i.has_input ≡ false → v ≡ eval j t) → Plain j (infos ++ i ∷ []) (values ++ v ∷ []) (terms ++ t ∷ [])
plain_push j infos values terms i v t plain new =
    let a = length_push infos i in
    let b = length_push values v in
    let c = length_push terms t in
    let p = plain.informed in
    let q = plain.valued in
    record { informed = omega arith; valued = omega arith; same = λ n inside free. ⊎_elim (before n free) (λ ge. after n (omega arith) free) (cases_lt n (length terms)) }
  where
    before : (n : ℕ) → input_at (infos ++ i ∷ []) n ≡ false → n < length terms → get_or (values ++ v ∷ []) n 0 ≡ eval j (get_or (terms ++ t ∷ []) n no_term)
    before n free lt =
        let x = get_or_append_left infos (i ∷ []) no_info n (omega (arith, plain.informed)) in
        let y = get_or_append_left values (v ∷ []) 0 n (omega (arith, plain.valued)) in
        let z = get_or_append_left terms (t ∷ []) no_term n lt in
        y ∙ (plain.same n lt (ap (λ (r : TermInfo). r.has_input) (sym x) ∙ free) ∙ ap (eval j) (sym z))

    after : (n : ℕ) → n ≡ length terms → input_at (infos ++ i ∷ []) n ≡ false → get_or (values ++ v ∷ []) n 0 ≡ eval j (get_or (terms ++ t ∷ []) n no_term)
    after n is free =
        let x = get_or_at infos i [] no_info n (plain.informed ∙ sym is) in
        let y = get_or_at values v [] 0 n (plain.valued ∙ sym is) in
        let z = get_or_at terms t [] no_term n (sym is) in
        y ∙ (new (ap (λ (r : TermInfo). r.has_input) (sym x) ∙ free) ∙ ap (eval j) (sym z))

plain_args : (j : Interpretation) (infos : List TermInfo) (values : List ℕ) (terms : List Term) (f : ℕ) (args : Args) → Plain j infos values terms → args_below (length terms) args ≡ true → (args_info infos args).has_input ≡ false → j.meaning f (arg_values values args) ≡ eval j (applied terms f args)
plain_args j infos values terms f Zero plain below free = refl
plain_args j infos values terms f (One a) plain below free = let p = plain.same a (ltb-true a (length terms) below) free in cc
plain_args j infos values terms f (Two a b) plain below free =
    let in' = and_parts (ltb a (length terms)) (ltb b (length terms)) below in
    let no' = or_parts (input_at infos a) (input_at infos b) free in
    let p = plain.same a (ltb-true a (length terms) in'.0) no'.0 in
    let q = plain.same b (ltb-true b (length terms) in'.1) no'.1 in
    cc
plain_args j infos values terms f (Three a b c) plain below free =
    let in' = and_parts (ltb a (length terms)) (ltb b (length terms) && ltb c (length terms)) below in
    let in'' = and_parts (ltb b (length terms)) (ltb c (length terms)) in'.1 in
    let no' = or_parts (input_at infos a) (input_at infos b || input_at infos c) free in
    let no'' = or_parts (input_at infos b) (input_at infos c) no'.1 in
    let p = plain.same a (ltb-true a (length terms) in'.0) no'.0 in
    let q = plain.same b (ltb-true b (length terms) in''.0) no''.0 in
    let r = plain.same c (ltb-true c (length terms) in''.1) no''.1 in
    cc

module _ (s : System) (j : Interpretation) (vector : List Term) (shaped : length vector ≡ length s.readings) where
  plain_term : (infos : List TermInfo) (values : List ℕ) (terms : List Term) (t : SheetTerm) → Plain j infos values terms → names s (length terms) (Record.Term t) ≡ true → (term_info infos t).has_input ≡ false → term_value j.meaning (map (eval j) vector) [] values t ≡ eval j (term_over vector [] terms t)
  plain_term infos values terms (SheetTerm.Reading r) plain ok free = value_at j vector r (omega (arith, ltb-true r (length s.readings) ok))
  plain_term infos values terms (SheetTerm.Input n) plain ok free = absurd (true≢false free)
  plain_term infos values terms (SheetTerm.Apply f args) plain ok free =
      plain_args j infos values terms f args plain (and_parts (ltb f (length s.symbols)) (args_below (length terms) args) ok).1 free

  plain_terms : (infos : List TermInfo) (values : List ℕ) (terms : List Term) (ts : List SheetTerm) → Plain j infos values terms → each_at (λ n t. obeys_at s n (Record.Term t)) (length terms) ts ≡ true → Plain j (grow term_info infos ts) (grow (term_value j.meaning (map (eval j) vector) []) values ts) (grow (term_over vector []) terms ts)
  plain_terms infos values terms [] plain ok = plain
  plain_terms infos values terms (t ∷ ts) plain ok =
      let u = term_over vector [] terms t in
      let parts = and_parts (obeys_at s (length terms) (Record.Term t)) (each_at (λ n t. obeys_at s n (Record.Term t)) (suc (length terms)) ts) ok in
      let rule = (and_parts (names s (length terms) (Record.Term t)) (keeps s (Record.Term t)) parts.0).0 in
      let count : suc (length terms) ≡ length (terms ++ u ∷ []) = omega (arith, length_push terms u) in
      plain_terms (infos ++ term_info infos t ∷ []) (values ++ term_value j.meaning (map (eval j) vector) [] values t ∷ []) (terms ++ u ∷ []) ts (plain_push j infos values terms (term_info infos t) (term_value j.meaning (map (eval j) vector) [] values t) u plain (plain_term infos values terms t plain rule)) (subst (λ n. each_at (λ n t. obeys_at s n (Record.Term t)) n ts ≡ true) count parts.1)

-- no input stands in a claim
claims_agree : (s : System) (j : Interpretation) (values : List ℕ) (terms : List Term) → length terms ≡ length s.terms → Plain j (term_infos s.terms) values terms → (n : ℕ) (es : List Equation) → each_at (λ n e. obeys_at s n (Record.Claim e)) n es ≡ true → All (Agrees j terms values) es
claims_agree s j values terms long plain n [] ok = tt
claims_agree s j values terms long plain n (e ∷ es) ok =
    let parts = and_parts (obeys_at s n (Record.Claim e)) (each_at (λ n e. obeys_at s n (Record.Claim e)) (suc n) es) ok in
    let rules = and_parts (names s n (Record.Claim e)) (keeps s (Record.Claim e)) parts.0 in
    let sides = and_parts (ltb e.left (length s.terms)) (ltb e.right (length s.terms)) rules.0 in
    let frees = and_parts (not (contains_input s e.left)) (not (contains_input s e.right)) rules.1 in
    let l = ltb-true e.left (length s.terms) sides.0 in
    let r = ltb-true e.right (length s.terms) sides.1 in
    ((plain.same e.left (omega arith) (not-true (contains_input s e.left) frees.0), plain.same e.right (omega arith) (not-true (contains_input s e.right) frees.1)), claims_agree s j values terms long plain (suc n) es parts.1)

module _ (s : System) (lawful : Lawful s) (form : Row) (shaped : RowOf s form) where
  abbrev over : List Term
  over = terms_over form.vector [] s.terms

  abbrev values_at : Interpretation → List ℕ
  values_at j = term_values j.meaning (map (eval j) form.vector) [] s.terms

  agree_at : (j : Interpretation) → All (Agrees j over (values_at j)) s.claims
  agree_at j =
      let plain = plain_terms s j form.vector shaped [] [] [] s.terms (record { informed = refl; valued = refl; same = λ n lt _. absurd (omega arith) }) lawful.each.terms in
      let long = grow-length (term_over form.vector []) [] s.terms in
      claims_agree s j (values_at j) over (omega arith) plain 0 s.claims lawful.each.claims

  abbrev under : Interpretation → Configuration
  under j = record { bits = form.bits; readings = map (eval j) form.vector }

  -- the invariant where the claims have these answers
  abbrev with_replies : List Bool → Bool
  with_replies replies = or_kept (λ f. get_or (truths form.bits [] replies s.formulas) f false) true s.invariant

  unsafe_breaks : (j : Interpretation) → All (Holds j) form.conditions → invariant_holds j.meaning s (under j) ≡ false → Breaking s form
  unsafe_breaks j holds broken =
      let replies = answers (values_at j) s.claims in
      let count = length-map s.claims (equal (values_at j)) in
      let is : branch_answers (length s.claims) (branch_of replies) ≡ replies = ap (λ k. branch_answers k (branch_of replies)) (sym count) ∙ answers_of_branch replies in
      record {
        claims = branch_of replies;
        within = subst (λ k. branch_of replies < 2 ^ k) count (branch_small replies);
        broken = ap with_replies is ∙ broken;
        possible = (j, All-append (Holds j) (claim_conditions s form (branch_of replies)) form.conditions (subst (λ l. All (Holds j) (numbered (condition_of over l) 0 s.claims)) (sym is) (conditions_true j over (values_at j) [] s.claims (agree_at j))) holds);
      }

  breaks_unsafe : Breaking s form → Unsafe s form
  breaks_unsafe b =
      let j = b.possible.0 in
      let all = b.possible.1 in
      let replies = branch_answers (length s.claims) b.claims in
      let told = answers_told j over (values_at j) [] replies s.claims (answers_long (length s.claims) b.claims) (agree_at j) (all_left (Holds j) (claim_conditions s form b.claims) form.conditions all) in
      record {
        meaning = j.meaning;
        configuration = under j;
        covers = record { by = j; under = λ f vs _. refl; covers = record { bits = refl; conditions = all_right (Holds j) (claim_conditions s form b.claims) form.conditions all; readings = refl } };
        broken = ap with_replies told ∙ b.broken;
      }

  none_breaks : (Breaking s form → ⊥) → Safe s form
  none_breaks none m c covers = ⊎_elim (λ e. e) (λ e. absurd (none (breaks e))) (cases_Bool (invariant_holds m s c))
    where
      breaks : invariant_holds m s c ≡ false → Breaking s form
      breaks e =
          let j = covers.by in
          let at : under j ≡ c = λ k. record { bits = covers.covers.bits k; readings = covers.covers.readings k } in
          unsafe_breaks j covers.covers.conditions (ap (λ d. invariant_holds j.meaning s d) at ∙ (invariant_same s lawful j.meaning m (interpreted j) covers.under c (covered_small j form c covers.covers) ∙ e))

  decided : Decided s form
  decided =
      record { safe = none_breaks; unsafe = breaks_unsafe; exact = λ safe b. let u = breaks_unsafe b in both_ways (invariant_holds u.meaning s u.configuration) u.broken (safe u.meaning u.configuration u.covers) }

pub safety_by_cases : SafetyByCases
safety_by_cases s lawful form shaped = decided s lawful form shaped
