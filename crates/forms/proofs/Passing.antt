-- A covered configuration goes through exactly one branch, and that branch's candidate covers the next one.
use Rattle.std.proofs.Common.{◌≡◌, ℕ, ◌^◌, ◌<◌, Bool, false, List, [], map, length, get_or, Some, None, Option, sym, refl, ap, ◌∙◌, subst, subst₂, zero-add, arith}
use Rattle.std.specs.List.{AllByRecursion as All}
use Rattle.std.proofs.ByRecursion.{All-append, All-weaker}
use Rattle.std.proofs.lemmas.List.{length-map}
use Rattle.std.proofs.lemmas.Bool.{or_left, or_right}
use Rattle.plant.specs.Plant.{IsValue, SameAnswers}
use Rattle.sheet.proofs.Growing.{grow-length}
use Rattle.sheet.specs.declared.syntax.Equation.{Equation}
use Rattle.sheet.specs.Lawful.{Lawful}
use Rattle.sheet.specs.Runs.{Configuration, numbered, or_kept, step_values, step}
use Rattle.sheet.specs.System.{System}
use Rattle.sheet.specs.Truth.{Meaning, equal, answers, truths, term_of_choice, chosen}
use Rattle.terms.specs.Terms.{Term, Interpretation, eval, Holds}
use Rattle.forms.specs.Rows.{Row, RowOf, CoversBy, Covers, occurs_in_terms, occurs_in_literals, stands}
use Rattle.forms.specs.Candidate.{or_none, branch_answers, input_names, term_over, terms_over, row_truths, row_chosen, candidate_with, candidate}
use Rattle.forms.specs.Laws.{Enters, InputsOf, BranchCovers, CandidateCovers, ImpossibleBranch}
use Rattle.forms.proofs.Answering.{covered_small, interpreted, step_values_same, step_same}
use Rattle.forms.proofs.Branches.{branch_of, branch_small, answers_of_branch, branch_of_answers}
use Rattle.forms.proofs.Naming.{names_new, assigned, Alike, values_elsewhere, values_given, taken_elsewhere, vector_alike, conditions_alike}
use Rattle.forms.proofs.Stepping.{value_at, terms_values, Agrees, conditions_true, equations_inside, choices_inside, next_values}

-- the configuration that a row has under these values
abbrev row_at : Interpretation → Row → Configuration
row_at j row = record { bits = row.bits; readings = map (eval j) row.vector }

-- a step from the values of the sheet's terms
abbrev step_from : System → Configuration → List ℕ → Configuration
step_from s c values =
    record {
      bits = numbered (λ n b. or_kept (λ f. get_or (truths c.bits (answers values s.questions) [] s.formulas) f false) (get_or c.bits n false) b.next) 0 s.bits;
      readings = numbered (λ n r. or_kept (λ k. get_or values (get_or (chosen (λ f. get_or (truths c.bits (answers values s.questions) [] s.formulas) f false) s.choices) k 0) 0) (get_or c.readings n 0) r.next) 0 s.readings;
    }

module _ (s : System) (lawful : Lawful s) (row : Row) (shaped : RowOf s row) (names : List ℕ) (long : length names ≡ s.inputs) (j : Interpretation) (holds : All (Holds j) row.conditions) where
  abbrev over : List Term
  over = terms_over row.vector names s.terms

  over_long : length over ≡ length s.terms
  over_long = grow-length (term_over row.vector names) [] s.terms ∙ zero-add (length s.terms)

  from_terms : CoversBy j (candidate_with s row names (answers (map (eval j) over) s.questions)) (step_from s (row_at j row) (map (eval j) over))
  from_terms =
      let replies = answers (map (eval j) over) s.questions in
      let truth : ℕ → Bool = λ f. get_or (row_truths s row names replies) f false in
      let picked = row_chosen s row names replies in
      let agree = All-weaker (λ (e : Equation). (e.left < length s.terms) × (e.right < length s.terms)) (Agrees j over (map (eval j) over)) (λ e inside. (value_at j over e.left (omega (arith, over_long, inside.0)), value_at j over e.right (omega (arith, over_long, inside.1)))) s.questions (equations_inside s 0 s.questions lawful.each.questions) in
      record {
        bits = refl;
        conditions = All-append (Holds j) _ row.conditions (conditions_true j over (map (eval j) over) [] s.questions agree) holds;
        readings = next_values s j row.vector over picked over_long (grow-length (term_of_choice truth) [] s.choices ∙ zero-add (length s.choices)) (choices_inside s truth [] s.choices tt lawful.each.choices) 0 s.readings (omega arith) lawful.each.next_readings;
      }

  pub stepped : CoversBy j (candidate_with s row names (answers (step_values j.meaning s (row_at j row) (map j.values names)) s.questions)) (step j.meaning s (row_at j row) (map j.values names))
  stepped =
      let e = terms_values s j row.vector names shaped long [] s.terms lawful.each.terms in
      subst (λ vs. CoversBy j (candidate_with s row names (answers vs s.questions)) (step_from s (row_at j row) vs)) (sym e) from_terms

pub branch_covers : BranchCovers
branch_covers s lawful row shaped names is i c covers inputs ok =
    let new = names_new s.inputs (stands row) names is in
    let j = assigned i names inputs ok.small in
    let alike : Alike i j (stands row) = λ x st. values_elsewhere names inputs i.values x (taken_elsewhere (stands row) names x st new.free) in
    let vec = vector_alike i j refl row.vector (λ x e. alike x (or_left (occurs_in_terms x row.vector) (occurs_in_literals x row.conditions) e)) in
    let conds = conditions_alike i j refl row.conditions (λ x e. alike x (or_right (occurs_in_terms x row.vector) (occurs_in_literals x row.conditions) e)) covers.conditions in
    let given = values_given names inputs i.values (new.long ∙ sym ok.long) new.distinct in
    let readings = vec ∙ covers.readings in
    let conf : row_at j row ≡ c = λ k. record { bits = covers.bits k; readings = readings k } in
    let base = stepped s lawful row shaped names new.long j conds in
    let moved = subst₂ (λ d v. CoversBy j (candidate_with s row names (answers (step_values i.meaning s d v) s.questions)) (step i.meaning s d v)) conf given base in
    let replies = answers (step_values i.meaning s c inputs) s.questions in
    let count = length-map s.questions (equal (step_values i.meaning s c inputs)) in
    let enters : Enters i.meaning s c inputs (branch_of replies) = ap (λ k. branch_answers k (branch_of replies)) (sym count) ∙ answers_of_branch replies in
    record {
      branch = branch_of replies;
      within = subst (λ k. branch_of replies < 2 ^ k) count (branch_small replies);
      enters = enters;
      only = λ b small entered. sym (branch_of_answers (length s.questions) b small) ∙ ap branch_of entered;
      next = candidate_with s row names (branch_answers (length s.questions) (branch_of replies));
      made = ap (λ o. or_none o (λ xs. Some (candidate_with s row xs (branch_answers (length s.questions) (branch_of replies))))) is;
      by = j;
      under = refl;
      kept = alike;
      given = given;
      covers = subst (λ a. CoversBy j (candidate_with s row names a) (step i.meaning s c inputs)) (sym enters) moved;
    }

-- the step of a covered configuration is the step under the meaning that covers it, which enters the same branch
module _ (s : System) (lawful : Lawful s) (row : Row) (m : Meaning) (c : Configuration) (covers : Covers m row c) (inputs : List ℕ) (ok : InputsOf s inputs) where
  small : All IsValue c.readings
  small = covered_small covers.by row c covers.covers

  pub entered : (b : ℕ) → Enters covers.by.meaning s c inputs b → Enters m s c inputs b
  entered b enters = enters ∙ ap (λ vs. answers vs s.questions) (step_values_same s lawful covers.by.meaning m (interpreted covers.by) covers.under c inputs small ok.small)

  entered_by : (b : ℕ) → Enters m s c inputs b → Enters covers.by.meaning s c inputs b
  entered_by b enters = enters ∙ sym (ap (λ vs. answers vs s.questions) (step_values_same s lawful covers.by.meaning m (interpreted covers.by) covers.under c inputs small ok.small))

  stepped_by : step covers.by.meaning s c inputs ≡ step m s c inputs
  stepped_by = step_same s lawful covers.by.meaning m (interpreted covers.by) covers.under c inputs small ok.small

-- the step of a covered configuration that goes through the branch
found_steps : (s : System) → Lawful s → (row : Row) → RowOf s row → (b : ℕ) → b < 2 ^ length s.questions → (next : Row) → candidate s row b ≡ Some next → (m : Meaning) (c : Configuration) → Covers m row c → (inputs : List ℕ) → InputsOf s inputs → Enters m s c inputs b → Covers m next (step m s c inputs)
found_steps s lawful row shaped b small next made m c covers inputs ok enters = by (input_names s row) refl made
  where
    by : (o : Option (List ℕ)) → input_names s row ≡ o → or_none o (λ xs. Some (candidate_with s row xs (branch_answers (length s.questions) b))) ≡ Some next → Covers m next (step m s c inputs)
    by None is made' = let z : ◌≡◌ {A = ℕ} 0 1 = cc in absurd (omega arith)
    by (Some names) is made' =
        let steps = branch_covers s lawful row shaped names is covers.by c covers.covers inputs ok in
        let here = steps.only b small (entered_by s lawful row m c covers inputs ok b enters) in
        let same' : ◌≡◌ {A = Option Row} (Some steps.next) (Some next) = sym steps.made ∙ (ap (candidate s row) (sym here) ∙ made) in
        let e : steps.next ≡ next = cc in
        record {
          by = steps.by;
          under = subst (λ n. SameAnswers n m) (sym steps.under) covers.under;
          covers = subst (CoversBy steps.by next) (stepped_by s lawful row m c covers inputs ok) (subst (λ r. CoversBy steps.by r (step covers.by.meaning s c inputs)) e steps.covers);
        }

pub candidate_covers : CandidateCovers
candidate_covers s lawful row shaped b small next made m c covers inputs ok enters =
    found_steps s lawful row shaped b small next made m c covers inputs ok enters

pub impossible_branch : ImpossibleBranch
impossible_branch s lawful row shaped b small next made never m c covers inputs ok enters =
    let f = found_steps s lawful row shaped b small next made m c covers inputs ok enters in never (f.by, f.covers.conditions)
