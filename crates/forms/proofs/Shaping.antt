-- Row 0 covers every start; candidates and forms have the shape that the laws need; a candidate has one form.
use Rattle.std.proofs.Common.{◌≡◌, ℕ, ◌^◌, ◌<◌, ◌≤◌, true, false, ltb, ◌⊎◌, List, [], ◌∷◌, map, length, get_or, Some, None, filter, Option, sym, refl, ap, ◌∙◌, subst, inl, inr, arith}
use Rattle.std.specs.List.{AllByRecursion as All}
use Rattle.std.proofs.ByRecursion.{All-take, all_kept_by, kept_by_passes}
use Rattle.std.proofs.lemmas.List.{length-map, length-take}
use Rattle.std.proofs.lemmas.Option.{none-some, same_Some}
use Rattle.std.proofs.lemmas.Bool.{cond-true, cond-false, cases_Bool, ltb-false}
use Rattle.sheet.specs.declared.syntax.Reading.{Reading}
use Rattle.sheet.specs.declared.syntax.Start.{Start}
use Rattle.sheet.specs.Runs.{start_value, start_reading}
use Rattle.sheet.specs.Truth.{Meaning}
use Rattle.sheet.proofs.Numbering.{numbered-length}
use Rattle.terms.specs.Terms.{Term, name, Interpretation, eval, height, replaced, Literal}
use Rattle.forms.specs.Rows.{Row, RowOf, CoversBy, start_term, start_of, first_row, stands, lowest_free}
use Rattle.forms.specs.Candidate.{or_none, input_names, branch_answers, candidate_with}
use Rattle.forms.specs.Form.{first_higher, lowest, replaced_row, Cut, low, nameless, cut, is_low, is_named, without_repeats, trimmed, Form}
use Rattle.forms.specs.Laws.{FirstRowCovers, Formed, OneForm, CandidateShaped}
use Rattle.forms.proofs.Answering.{small_at, clipped, clipped_small, clipped_same, interpreted, start_same}
use Rattle.forms.proofs.Cutting.{all_once}
use Rattle.forms.proofs.Shrinking.{some_form}

abbrev at_start : (m : Meaning) → ((f : ℕ) (vs : List ℕ) → m f vs < 2 ^ 32) → (values : List ℕ) → ((x : ℕ) → get_or values x 0 < 2 ^ 32) → Interpretation
at_start m small values all = record { meaning = m; values = λ x. get_or values x 0; meaning_small = small; values_small = all }

eval-start_term : (m : Meaning) (small : (f : ℕ) (vs : List ℕ) → m f vs < 2 ^ 32) (values : List ℕ) (all : (x : ℕ) → get_or values x 0 < 2 ^ 32) (w : Start) → eval (at_start m small values all) (start_term w) ≡ start_value m values w
eval-start_term m small values all (Start.Name n) = refl
eval-start_term m small values all (Start.Constant f) = refl

start_values : (m : Meaning) (small : (f : ℕ) (vs : List ℕ) → m f vs < 2 ^ 32) (values : List ℕ) (all : (x : ℕ) → get_or values x 0 < 2 ^ 32) (rs : List Reading) → map (eval (at_start m small values all)) (map start_of rs) ≡ map (start_reading m values) rs
start_values m small values all [] = refl
start_values m small values all (r ∷ rs) =
    let p = eval-start_term m small values all r.start in let q = start_values m small values all rs in cc

pub first_row_covers : FirstRowCovers
first_row_covers s =
    record {
      shaped = length-map s.readings start_of;
      covers = λ lawful m plant values all.
          let p = clipped m in
          let i = at_start p (clipped_small m) values (small_at values all) in
          let same' = start_same s lawful p m (interpreted i) (clipped_same m plant) values in
          record {
            by = i;
            under = clipped_same m plant;
            covers = subst (CoversBy i (first_row s)) same' (record { bits = refl; conditions = tt; readings = start_values p (clipped_small m) values (small_at values all) s.readings });
          };
    }

pub candidate_shaped : CandidateShaped
candidate_shaped s row b next made = by (input_names s row) made
  where
    by : (o : Option (List ℕ)) → or_none o (λ xs. Some (candidate_with s row xs (branch_answers (length s.questions) b))) ≡ Some next → RowOf s next
    by None is = let z : ◌≡◌ {A = ℕ} 0 1 = cc in absurd (omega arith)
    by (Some xs) is =
        let e : candidate_with s row xs (branch_answers (length s.questions) b) ≡ next = cc in
        subst (RowOf s) e (numbered-length _ 0 s.readings)

-- what the cuts leave
abbrev Left : ℕ → Row → Option Row → Type 0
Left h row None = Unit {0}
Left h row (Some end) = (first_higher h end.vector ≡ None) × (length end.vector ≡ length row.vector)

left_more : (h : ℕ) (row : Row) (old new : Term) (end : Option Row) → Left h (replaced_row old new row) end → Left h row end
left_more h row old new None left = tt
left_more h row old new (Some end) left = (left.0, left.1 ∙ length-map row.vector (replaced old new))

cuts_left : (h : ℕ) {row : Row} {end : Option Row} → Cut h row end → Left h row end
cuts_left h (low row e) = (e, refl)
cuts_left h (nameless row t e none) = tt
cuts_left h (cut row t x end e free rest) = left_more h row (lowest t) (name x) end (cuts_left h rest)

none_higher : (h : ℕ) (ts : List Term) → first_higher h ts ≡ None → All (λ t. height t ≤ h) ts
none_higher h [] is = tt
none_higher h (t ∷ ts) is = by (λ later. none_higher h ts later) (cases_Bool (ltb h (height t)))
  where
    by : (first_higher h ts ≡ None → All (λ t. height t ≤ h) ts) → (ltb h (height t) ≡ true) ⊎ (ltb h (height t) ≡ false) → All (λ t. height t ≤ h) (t ∷ ts)
    by rest (inl yes') =
        let e : ◌≡◌ {A = Option Term} (Some t) None = sym (cond-true (ltb h (height t)) (Some t) (first_higher h ts) yes') ∙ is in
        let z : ◌≡◌ {A = ℕ} 0 1 = cc in
        absurd (omega arith)
    by rest (inr no') = (ltb-false h (height t) no', rest (sym (cond-false (ltb h (height t)) (Some t) (first_higher h ts) no') ∙ is))

trimmed_formed : (h : ℕ) (row : Row) → first_higher h row.vector ≡ None → Formed h (trimmed h row)
trimmed_formed h row is =
    let lows = filter (is_low h) row.conditions in
    let named = filter (is_named row.vector) lows in
    let Low = λ (c : Literal). is_low h c ≡ true in
    let Named = λ (c : Literal). is_named row.vector c ≡ true in
    record {
      low = none_higher h row.vector is;
      conditions_low = All-take Low 16 (without_repeats [] named) (all_once Low [] named (all_kept_by (is_named row.vector) Low lows (kept_by_passes (is_low h) row.conditions)));
      named = All-take Named 16 (without_repeats [] named) (all_once Named [] named (kept_by_passes (is_named row.vector) lows));
      few = omega (arith, length-take 16 (without_repeats [] named));
    }

-- the ways in which cutting can go on from a row
abbrev Ways : ℕ → Row → Option Row → Type 0
Ways h row end =
    ((first_higher h row.vector ≡ None) × (end ≡ Some row))
    ⊎ (((t : Term) × (first_higher h row.vector ≡ Some t) × (lowest_free (stands row) ≡ None) × (end ≡ None)) ⊎ ((t : Term) × (x : ℕ) × (first_higher h row.vector ≡ Some t) × (lowest_free (stands row) ≡ Some x) × Cut h (replaced_row (lowest t) (name x) row) end))

ways : (h : ℕ) {row : Row} {end : Option Row} → Cut h row end → Ways h row end
ways h (low row e) = inl (e, refl)
ways h (nameless row t e none) = inr (inl (t, e, none, refl))
ways h (cut row t x end e free rest) = inr (inr (t, x, e, free, rest))

cut_once : (h : ℕ) {row : Row} {a : Option Row} → Cut h row a → (b : Option Row) → Cut h row b → a ≡ b
cut_once h (low row e) b other = by (ways h other)
  where
    by : Ways h row b → Some row ≡ b
    by (inl w) = sym w.1
    by (inr (inl w)) = absurd (none-some w.0 (sym e ∙ w.1))
    by (inr (inr w)) = absurd (none-some w.0 (sym e ∙ w.2))
cut_once h (nameless row t e none) b other = by (ways h other)
  where
    by : Ways h row b → None ≡ b
    by (inl w) = absurd (none-some t (sym w.0 ∙ e))
    by (inr (inl w)) = sym w.3
    by (inr (inr w)) = absurd (none-some w.1 (sym none ∙ w.3))
cut_once h (cut row t x end e free rest) b other = by (λ c. cut_once h rest b c) (ways h other)
  where
    by : (Cut h (replaced_row (lowest t) (name x) row) b → end ≡ b) → Ways h row b → end ≡ b
    by same' (inl w) = absurd (none-some t (sym w.0 ∙ e))
    by same' (inr (inl w)) = absurd (none-some x (sym w.2 ∙ free))
    by same' (inr (inr w)) =
        let p = same_Some w.0 t (sym w.2 ∙ e) in
        let q = same_Some w.1 x (sym w.3 ∙ free) in
        same' (subst (λ y. Cut h (replaced_row (lowest t) (name y) row) b) q (subst (λ u. Cut h (replaced_row (lowest u) (name w.1) row) b) p w.4))

form_once : (h : ℕ) (row : Row) (a b : Option Row) → Form h row a → Form h row b → a ≡ b
form_once h row None None p q = refl
form_once h row None (Some b) p q = absurd (none-some q.0 (cut_once h p (Some q.0) q.1))
form_once h row (Some a) None p q = absurd (none-some p.0 (cut_once h q (Some p.0) p.1))
form_once h row (Some a) (Some b) p q =
    let e = same_Some p.0 q.0 (cut_once h p.1 (Some q.0) q.1) in
    ap Some (p.2 ∙ (ap (trimmed h) e ∙ sym q.2))

pub one_form : OneForm
one_form h row =
    record {
      outcome = (some_form h row).0;
      is = (some_form h row).1;
      only = form_once h row;
      formed = λ form is. subst (Formed h) (sym is.2) (trimmed_formed h is.0 (cuts_left h is.1).0);
      shaped = λ form is. ap (λ (r : Row). length r.vector) is.2 ∙ (cuts_left h is.1).1;
    }
