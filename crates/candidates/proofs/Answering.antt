-- What the calls answer, from what is built, and the same with the terms counted.
use Rattle.std.proofs.Common.{◌≡◌, ℕ, zero, suc, ◌<◌, ◌≤◌, Bool, List, [], ◌∷◌, ◌++◌, map, length, get_or, take, IsErrAnd, MatchOption, MatchResult, Some, None, Ok, Err, Option, Result, sym, refl, ap, ◌∙◌, subst, append-nil, arith}
use Rattle.std.proofs.lemmas.List.{length-map}
use Rattle.fault.specs.declared.TableFault.{TableFault}
use Rattle.fault.specs.declared.TableFault.TheVariants.{BadMemory, UnsafeStart, NoSuchBranch, NotWaiting, NotOut, HeightAboveBound, NamesExhausted, TermsExhausted, Satisfiable, NoRenaming, UnsafeForm, RowLimit}
use Rattle.sheet.specs.Runs.{start_bit}
use Rattle.sheet.specs.declared.syntax.Reading.{Reading}
use Rattle.sheet.specs.Lawful.{Lawful}
use Rattle.sheet.specs.System.{System, no_reading}
use Rattle.terms.specs.declared.Condition.{Condition}
use Rattle.terms.specs.declared.TermRecord.{TermRecord}
use Rattle.terms.specs.Terms.{Term}
use Rattle.terms.specs.Bank.{Bank, Extends}
use Rattle.terms.proofs.Filing.{bank_less}
use Rattle.banks.specs.Gains.{Gained, Overfull}
use Rattle.banks.specs.Room.{Holding, Roomy}
use Rattle.banks.proofs.Gaining.{roomy_gained, crowded_overfull, holding_after}
use Rattle.rows.specs.declared.row.RowRecord.{RowRecord}
use Rattle.forms.specs.Rows.{Row, start_of, first_row, stands}
use Rattle.rows.specs.Names.{is_in}
use Rattle.std.specs.Option.{ok_or}
use Rattle.forms.specs.Candidate.{branch_answers, or_none, names_for, input_names, candidate_with, candidate}
use Rattle.forms.specs.Counted.{sides_of, terms_in, made, CandidateIn}
use Rattle.rows.specs.Records.{row_in}
use Rattle.candidates.specs.declared.conditions.Conditions.{Conditions}
use Rattle.candidates.specs.Outcome.{Kept, Accepted, Refused, StandsFor, Lists, CandidateMade, ConditionsMade, FirstRefused, FirstRowMade, Wanting, CandidateCounted, ConditionsCounted, FirstRowCounted}
use Rattle.candidates.specs.Working.{Prepared, Started, Added, Vectored, Named}
use Rattle.candidates.proofs.Composing.{vectored_map, recalls_none}
use Rattle.candidates.proofs.Lawfully.{starts_named}

pub kept_same : (rs : List TermRecord) (n : ℕ) → Kept rs n rs n
kept_same rs n = record { count = refl; records = λ k lt. (refl, refl); bank = λ b. b }

pub kept_back : (rs rs' : List TermRecord) (n n' : ℕ) → Extends rs n rs' n' → Kept rs n rs' n
kept_back rs rs' n n' x = record { count = refl; records = x.stays; bank = λ b. bank_less rs' n' n x.more x.bank }

pub small_part : (m : ℕ) (xs : List ℕ) → ((k : ℕ) → get_or xs k 0 < 32) → (k : ℕ) → get_or (take m xs) k 0 < 32
small_part zero xs h k = omega arith
small_part (suc m) [] h k = h k
small_part (suc m) (x ∷ xs) h zero = h zero
small_part (suc m) (x ∷ xs) h (suc k) = small_part m xs (λ j. h (suc j)) k

module _ (s : System) (rs : List TermRecord) (n : ℕ) (row : RowRecord) (b : ℕ) where
  pub candidate_is : (names : List ℕ) → input_names s (row_in s rs row) ≡ Some names → candidate s (row_in s rs row) b ≡ Some (candidate_with s (row_in s rs row) names (branch_answers (length s.questions) b))
  candidate_is names is = ap (λ o. or_none o (λ inputs. Some (candidate_with s (row_in s rs row) inputs (branch_answers (length s.questions) b)))) is

  pub candidate_none : input_names s (row_in s rs row) ≡ None → candidate s (row_in s rs row) b ≡ None
  candidate_none is = ap (λ o. or_none o (λ inputs. Some (candidate_with s (row_in s rs row) inputs (branch_answers (length s.questions) b)))) is

  pub prepared : (taken : ℕ) (free : Option (List ℕ)) (r : Result (List ℕ) TableFault) → Accepted s rs n row b → ◌≡◌ {A = ℕ → Bool} (stands (row_in s rs row)) (is_in taken)
      → MatchOption free (names_for s.inputs (is_in taken) ≡ None) (λ out. (names_for s.inputs (is_in taken) ≡ Some (take s.inputs out)) × ((k : ℕ) → get_or out k 0 < 32)) → r ≡ ok_or free NamesExhausted → Prepared s rs n row b r
  prepared taken None r accepted same named e = rw e (λ ts. (accepted, candidate_none (ap (names_for s.inputs) same ∙ named)))
  prepared taken (Some out) r accepted same named e = rw e (accepted, ap (names_for s.inputs) same ∙ named.0, named.1)

  module _ (names : List ℕ) (is : input_names s (row_in s rs row) ≡ Some names) (accepted : Accepted s rs n row b) (rs' : List TermRecord) (n' : ℕ) where
    terms_refused : (ts : Row → List Term) (e : TableFault) → e ≡ TermsExhausted → Overfull rs n (ts (candidate_with s (row_in s rs row) names (branch_answers (length s.questions) b))) → Extends rs n rs' n' → Refused s rs n row b ts e × Kept rs n rs' n
    terms_refused ts e fault over x =
        (subst (Refused s rs n row b ts) (sym fault) (accepted, (candidate_with s (row_in s rs row) names (branch_answers (length s.questions) b), candidate_is names is, over)), kept_back rs rs' n n' x)

    pub candidate_answered : (n₂ : ℕ) (made r : Result RowRecord TableFault) → Added rs n (terms_in (candidate_with s (row_in s rs row) names (branch_answers (length s.questions) b))) rs' n' (StandsFor s rs' n' 22 (candidate_with s (row_in s rs row) names (branch_answers (length s.questions) b))) made → r ≡ made → MatchResult made (λ _. n₂ ≡ n') (λ _. n₂ ≡ n) → CandidateMade s rs n row b rs' n₂ r
    candidate_answered n₂ (Ok m) r x same count =
        rw same (rw count (accepted, (candidate_with s (row_in s rs row) names (branch_answers (length s.questions) b), candidate_is names is, x.0, x.1)))
    candidate_answered n₂ (Err e) r x same count = rw same (rw count (terms_refused terms_in e x.0 x.1 x.2))

    pub conditions_answered : (n₂ : ℕ) (made r : Result Conditions TableFault) → Added rs n (sides_of (candidate_with s (row_in s rs row) names (branch_answers (length s.questions) b)).conditions) rs' n' (Lists rs' n' (candidate_with s (row_in s rs row) names (branch_answers (length s.questions) b)).conditions) made → r ≡ made → MatchResult made (λ _. n₂ ≡ n') (λ _. n₂ ≡ n) → ConditionsMade s rs n row b rs' n₂ r
    conditions_answered n₂ (Ok c) r x same count =
        rw same (rw count (accepted, (candidate_with s (row_in s rs row) names (branch_answers (length s.questions) b), candidate_is names is, x.0, x.1)))
    conditions_answered n₂ (Err e) r x same count = rw same (rw count (terms_refused (λ next. sides_of next.conditions) e x.0 x.1 x.2))

  -- a refusal before any term
  pub candidate_break : (e : TableFault) (r : Result RowRecord TableFault) → ((ts : Row → List Term) → Refused s rs n row b ts e) → IsErrAnd r (λ y. y ≡ e) → CandidateMade s rs n row b rs n r
  candidate_break e (Ok r) h by = absurd by
  candidate_break e (Err y) h by = (subst (Refused s rs n row b terms_in) (sym by) (h terms_in), kept_same rs n)

  pub conditions_break : (e : TableFault) (r : Result Conditions TableFault) → ((ts : Row → List Term) → Refused s rs n row b ts e) → IsErrAnd r (λ y. y ≡ e) → ConditionsMade s rs n row b rs n r
  conditions_break e (Ok r) h by = absurd by
  conditions_break e (Err y) h by = (subst (Refused s rs n row b (λ next. sides_of next.conditions)) (sym by) (h (λ next. sides_of next.conditions)), kept_same rs n)

  -- names or terms are wanting
  wanting : (ts : Row → List Term) (A B : Type 0) → (candidate s (row_in s rs row) b ≡ None → A) → ((next : Row) → candidate s (row_in s rs row) b ≡ Some next → Overfull rs n (ts next) → B) → (e : TableFault) → Refused s rs n row b ts e → Wanting A B e
  wanting ts A B names terms BadMemory h = tt
  wanting ts A B names terms UnsafeStart h = tt
  wanting ts A B names terms NoSuchBranch h = tt
  wanting ts A B names terms NotWaiting h = tt
  wanting ts A B names terms NotOut h = tt
  wanting ts A B names terms HeightAboveBound h = tt
  wanting ts A B names terms NamesExhausted h = names h.1
  wanting ts A B names terms TermsExhausted h = terms h.1.0 h.1.1 h.1.2
  wanting ts A B names terms Satisfiable h = tt
  wanting ts A B names terms NoRenaming h = tt
  wanting ts A B names terms UnsafeForm h = tt
  wanting ts A B names terms RowLimit h = tt

  module _ (seen : List Term) (holding : Holding rs n seen) (rs' : List TermRecord) (n' : ℕ) where
    pub candidate_counted : (r : Result RowRecord TableFault) → CandidateMade s rs n row b rs' n' r → CandidateCounted s (row_in s rs row) b seen rs' n' r
    candidate_counted (Ok r) h =
        let next = h.1.0 in
        let g = h.1.2 in
        subst (λ x. CandidateIn s (row_in s rs row) b seen (made x (seen ++ terms_in x)) × Holding rs' n' (seen ++ terms_in x)) (sym h.1.3.stands)
        ((h.1.1, refl, roomy_gained rs n seen holding (terms_in next) rs' n' g), holding_after rs rs' n n' (terms_in next) g seen holding)
    candidate_counted (Err e) h = wanting terms_in _ _ (λ is. is) (λ next is over. (next, is, crowded_overfull rs n seen holding (terms_in next) over)) e h.0

    pub conditions_counted : (r : Result Conditions TableFault) → ConditionsMade s rs n row b rs' n' r → ConditionsCounted s (row_in s rs row) b seen rs' n' r
    conditions_counted (Ok c) h =
        let next = h.1.0 in
        let g = h.1.2 in
        let cs = h.1.3.literals in
        ((next, h.1.1, cs, subst (λ ls. Roomy (seen ++ sides_of ls)) (sym cs) (roomy_gained rs n seen holding (sides_of next.conditions) rs' n' g)), subst (λ ls. Holding rs' n' (seen ++ sides_of ls)) (sym cs) (holding_after rs rs' n n' (sides_of next.conditions) g seen holding))
    conditions_counted (Err e) h =
        wanting (λ next. sides_of next.conditions) _ _ (λ is. is) (λ next is over. (next, is, crowded_overfull rs n seen holding (sides_of next.conditions) over)) e h.0

-- row 0
module _ (s : System) (rs : List TermRecord) (n : ℕ) (rs' : List TermRecord) (n' : ℕ) where
  first_terms : map start_of s.readings ≡ terms_in (first_row s)
  first_terms = sym (append-nil (map start_of s.readings))

  pub started_over : ∥ Lawful s ∥₁ → length rs ≡ 512 → Bank rs n → (xs : List Reading) → xs ≡ s.readings → (r : Result (List ℕ) TableFault)
      → (Started [] rs n [] → ((k : ℕ) → k < length xs → Named (get_or xs k no_reading).start) → Added rs n (map start_of xs) rs' n' (Vectored rs' n' (map start_of xs) (length xs)) r)
      → Added rs n (map start_of s.readings) rs' n' (Vectored rs' n' (map start_of s.readings) (length s.readings)) r
  started_over lawful long bank xs is r added =
      subst (λ (ys : List Reading). Added rs n (map start_of ys) rs' n' (Vectored rs' n' (map start_of ys) (length ys)) r) is
      (added (record { bank = bank; long = omega arith; recalled = recalls_none [] rs n 0 }) (subst (λ (ys : List Reading). (k : ℕ) → k < length ys → Named (get_or ys k no_reading).start) (sym is) (starts_named s lawful)))

  pub first_made : (blank : List Condition) (bits : List Bool) (vector : List ℕ) → Added rs n (map start_of s.readings) rs' n' (Vectored rs' n' (map start_of s.readings) (length s.readings)) (Ok vector) → take (length s.bits) bits ≡ map start_bit s.bits → length s.bits ≤ length bits → length s.readings ≤ length vector
      → Added rs n (terms_in (first_row s)) rs' n' (StandsFor s rs' n' 16 (first_row s)) (Ok (record { bits = bits; vector = vector; conditions = blank; used = 0 }))
  first_made blank bits vector x is room room' =
      let v = vectored_map rs' n' (map start_of s.readings) vector (length s.readings) (length-map s.readings start_of) room' x.1 in (
        subst (λ ts. Gained rs n ts rs' n') first_terms x.0,
        record {
          stands = λ i. record { bits = is i; vector = v i; conditions = [] };
          inside = record { bits = room; readings = room'; vector = λ k lt. (x.1 k lt).0; few = omega arith; stored = omega arith; conditions = record { lefts = λ k lt. absurd (omega arith); rights = λ k lt. absurd (omega arith) } };
        },
      )

  pub first_refused : Overfull rs n (map start_of s.readings) → Overfull rs n (terms_in (first_row s))
  first_refused = subst (Overfull rs n) first_terms

  pub first_answered : (n₂ : ℕ) (made r : Result RowRecord TableFault) → length rs ≡ 512 → Bank rs n → Added rs n (terms_in (first_row s)) rs' n' (StandsFor s rs' n' 16 (first_row s)) made → r ≡ made → MatchResult made (λ _. n₂ ≡ n') (λ _. n₂ ≡ n) → FirstRowMade s rs n rs' n₂ r
  first_answered n₂ (Ok m) r long bank x same count = rw same (rw count (long, bank, x.0, x.1))
  first_answered n₂ (Err e) r long bank x same count =
      rw same (rw count (subst (FirstRefused s rs n) (sym x.0) (long, bank, x.1), kept_back rs rs' n n' x.2))

first_wanting : (s : System) (rs : List TermRecord) (n : ℕ) (B : Type 0) → (Overfull rs n (terms_in (first_row s)) → B) → (e : TableFault) → FirstRefused s rs n e → Wanting (Unit {0}) B e
first_wanting s rs n B terms BadMemory h = tt
first_wanting s rs n B terms UnsafeStart h = tt
first_wanting s rs n B terms NoSuchBranch h = tt
first_wanting s rs n B terms NotWaiting h = tt
first_wanting s rs n B terms NotOut h = tt
first_wanting s rs n B terms HeightAboveBound h = tt
first_wanting s rs n B terms NamesExhausted h = tt
first_wanting s rs n B terms TermsExhausted h = terms h.2
first_wanting s rs n B terms Satisfiable h = tt
first_wanting s rs n B terms NoRenaming h = tt
first_wanting s rs n B terms UnsafeForm h = tt
first_wanting s rs n B terms RowLimit h = tt

pub first_counted : (s : System) (rs : List TermRecord) (n : ℕ) (rs' : List TermRecord) (n' : ℕ) (seen : List Term) → Holding rs n seen → (r : Result RowRecord TableFault) → FirstRowMade s rs n rs' n' r → FirstRowCounted s seen rs' n' r
first_counted s rs n rs' n' seen holding (Ok r) h =
    (roomy_gained rs n seen holding (terms_in (first_row s)) rs' n' h.2, holding_after rs rs' n n' (terms_in (first_row s)) h.2 seen holding)
first_counted s rs n rs' n' seen holding (Err e) h = first_wanting s rs n _ (λ over. crowded_overfull rs n seen holding (terms_in (first_row s)) over) e h.0
