-- The conditions of a case of the claims, and what trying the cases comes to.
use Rattle.std.proofs.Common.{◌≡◌, ℕ, ◌+◌, ◌-◌, ◌<◌, ◌≤◌, Bool, true, false, not, List, [], ◌++◌, length, get_or, take, Decides, MatchBool, sym, refl, ap, ◌∙◌, subst, ap₂, ⊎_elim, arith}
use Rattle.std.proofs.lemmas.List.{length-append, length-take-le, get_or-take, get_or_append_left, get_or-append-add}
use Rattle.std.proofs.lemmas.Bool.{cases_lt, true≢false}
use Rattle.sheet.specs.Runs.{or_kept}
use Rattle.sheet.specs.System.{System}
use Rattle.sheet.specs.Truth.{truths}
use Rattle.terms.specs.declared.Condition.{Condition}
use Rattle.terms.specs.declared.TermRecord.{TermRecord}
use Rattle.terms.specs.Terms.{Term, Literal, Sat}
use Rattle.closure.specs.Labels.{no_condition, literals, Ready}
use Rattle.forms.specs.Rows.{Row}
use Rattle.forms.specs.Candidate.{sign_of, branch_answers, condition_of, terms_over}
use Rattle.forms.specs.Safety.{claim_conditions, invariant_in}
use Rattle.forms.proofs.Branches.{answers_long}
use Rattle.candidates.specs.Working.{Stands, Listed, no_literal}
use Rattle.candidates.specs.Cases.{with_answer, Laid, Breaks}
use Rattle.candidates.proofs.Composing.{listed-map}
use Rattle.sheet.proofs.Numbering.{numbered_at, numbered-length}
use Rattle.candidates.proofs.Listing.{literal_same, no_equation}

-- the conditions of case b stand where those of the first case did, with other signs
module _ (s : System) (form : Row) (rs : List TermRecord) (n : ℕ) (cs : List Condition) (used : ℕ) (laid : Laid s form rs n cs used) (b : ℕ) (answers : List Bool) (is : answers ≡ branch_answers (length s.claims) b) (cs' : List Condition) (room : used ≤ length cs') (front : (k : ℕ) → k < length answers → get_or cs' k no_condition ≡ with_answer (get_or cs k no_condition) (get_or answers k false)) (back : (k : ℕ) → length answers ≤ k → get_or cs' k no_condition ≡ get_or cs k no_condition) where
  abbrev whole : List Literal
  whole = claim_conditions s form b ++ form.conditions

  abbrev values : List Term
  values = terms_over form.vector [] s.terms

  long : length answers ≡ length s.claims
  long = ap length is ∙ answers_long (length s.claims) b

  claims_long : length (claim_conditions s form b) ≡ length s.claims
  claims_long = numbered-length (condition_of values (branch_answers (length s.claims) b)) 0 s.claims

  whole_long : length whole ≡ used
  whole_long = length-append (claim_conditions s form b) form.conditions ∙ (ap (λ m. m + length form.conditions) claims_long ∙ sym laid.all)

  claim_stands : (k : ℕ) → k < length s.claims → Stands rs n (get_or whole k no_literal) (get_or cs' k no_condition)
  claim_stands k lt =
      let e = get_or s.claims k no_equation in
      let old = laid.claims k lt in
      let first = old.literal ∙ numbered_at (condition_of values (branch_answers (length s.claims) 0)) s.claims k no_literal no_equation lt in
      let now : get_or whole k no_literal ≡ condition_of values (branch_answers (length s.claims) b) k e = get_or_append_left (claim_conditions s form b) form.conditions no_literal k (omega (arith, claims_long)) ∙ numbered_at (condition_of values (branch_answers (length s.claims) b)) s.claims k no_literal no_equation lt in
      let new : Stands rs n (condition_of values (branch_answers (length s.claims) b) k e) (with_answer (get_or cs k no_condition) (get_or answers k false)) =
      record { lefts = old.lefts; rights = old.rights; literal = literal_same (ap (λ (l : Literal). l.left) first) (ap (λ (l : Literal). l.right) first) (ap (λ l. sign_of (get_or l k false)) is) } in
      subst (λ l. Stands rs n l (get_or cs' k no_condition)) (sym now) (subst (Stands rs n (condition_of values (branch_answers (length s.claims) b) k e)) (sym (front k (omega (arith, long)))) new)

  own_stands : (k : ℕ) → length s.claims ≤ k → k < used → Stands rs n (get_or whole k no_literal) (get_or cs' k no_condition)
  own_stands k ge lt =
      let j = k - length s.claims in
      let at : length s.claims + j ≡ k = omega arith in
      let at' : length (claim_conditions s form b) + j ≡ k = omega (arith, claims_long) in
      let old = laid.own j (omega (arith, laid.all)) in
      let here : get_or form.conditions j no_literal ≡ get_or whole k no_literal = sym (get_or-append-add (claim_conditions s form b) form.conditions j no_literal) ∙ ap (λ m. get_or whole m no_literal) at' in
      let there : get_or cs (length s.claims + j) no_condition ≡ get_or cs' k no_condition = ap (λ m. get_or cs m no_condition) at ∙ sym (back k (omega (arith, long))) in
      subst (λ l. Stands rs n l (get_or cs' k no_condition)) here (subst (Stands rs n (get_or form.conditions j no_literal)) there old)

  stands_at : Listed rs n whole used cs'
  stands_at k lt = ⊎_elim (claim_stands k) (λ ge. own_stands k ge lt) (cases_lt k (length s.claims))

  taken_long : length (take used cs') ≡ used
  taken_long = length-take-le used cs' room

  case_literals : literals rs (take used cs') ≡ whole
  case_literals = listed-map rs n whole cs' used whole_long room stands_at

  pub case_ready : (labels : List ℕ) → 512 ≤ length labels → Ready rs n (take used cs') labels
  case_ready labels labelled =
      record {
        ordered = laid.bank.ordered;
        few = laid.bank.few;
        labelled = omega (arith, laid.bank.few);
        lefts = λ k lt. (let inside : k < used = omega (arith, taken_long) in subst (λ (c : Condition). c.left < n) (sym (get_or-take used cs' k no_condition inside)) (stands_at k inside).lefts);
        rights = λ k lt. (let inside : k < used = omega (arith, taken_long) in subst (λ (c : Condition). c.right < n) (sym (get_or-take used cs' k no_condition inside)) (stands_at k inside).rights);
      }

  pub case_tried : invariant_in s form b ≡ false → (impossible : Bool) → MatchBool impossible (Sat (literals rs (take used cs')) → ⊥) (Sat (literals rs (take used cs'))) → Decides (not impossible) (Breaks s form b)
  case_tried broken true never = ((λ e. absurd (true≢false (sym e))), λ p. absurd (never (subst Sat (sym case_literals) p.1)))
  case_tried broken false some = ((λ _. (broken, subst Sat case_literals some)), λ _. refl)

pub invariant-at : (s : System) (form : Row) (b : ℕ) (bits answers : List Bool) → form.bits ≡ bits → answers ≡ branch_answers (length s.claims) b → invariant_in s form b ≡ or_kept (λ f. get_or (truths bits [] answers s.formulas) f false) true s.invariant
invariant-at s form b bits answers is is' = ap₂ (λ xs ys. or_kept (λ f. get_or (truths xs [] ys s.formulas) f false) true s.invariant) is (sym is')
