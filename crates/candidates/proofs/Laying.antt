-- The claims' conditions of a form in the bank, and the form's own behind them.
use Rattle.std.proofs.Common.{◌≡◌, ℕ, ◌+◌, ◌<◌, Bool, List, [], map, length, get_or, take, replicate, None, Ok, Err, Option, Result, sym, ap, ◌∙◌, subst, ap₂, arith}
use Rattle.std.proofs.lemmas.List.{length-map, length-take-le, get_or-map, get_or-take}
use Rattle.fault.specs.declared.TableFault.{TableFault}
use Rattle.sheet.specs.declared.syntax.Equation.{Equation}
use Rattle.sheet.specs.declared.syntax.TermEntry.{TermEntry}
use Rattle.sheet.specs.Runs.{numbered}
use Rattle.sheet.specs.Stored.{term_in}
use Rattle.sheet.specs.System.{System}
use Rattle.terms.specs.declared.Condition.{Condition}
use Rattle.terms.specs.declared.TermRecord.{TermRecord}
use Rattle.terms.specs.Terms.{Term, Literal}
use Rattle.terms.specs.Bank.{Extends, term_at, literal_of}
use Rattle.closure.specs.Labels.{no_condition}
use Rattle.banks.specs.Gains.{Gained, Overfull}
use Rattle.rows.specs.declared.row.RowRecord.{RowRecord}
use Rattle.forms.specs.Rows.{Row}
use Rattle.forms.specs.Candidate.{branch_answers, condition_of, terms_over}
use Rattle.forms.specs.Safety.{claim_conditions}
use Rattle.forms.specs.Counted.{sides_of, claim_terms}
use Rattle.rows.specs.Records.{Sound, row_in}
use Rattle.candidates.specs.Working.{Started, Over, Added, Made, WalksOver, Stands, Listed, no_literal}
use Rattle.candidates.specs.Cases.{Laid, Unbroken, Searched}
use Rattle.candidates.proofs.Composing.{recalls_none}
use Rattle.candidates.proofs.Listing.{stands_later}

module _ (s : System) (rs : List TermRecord) (n : ℕ) (form : RowRecord) (sound : Sound s rs n 16 form) where
  abbrev row : Row
  row = row_in s rs form

  row_over : (places : List ℕ) → places ≡ take (length s.readings) form.vector → Over row.vector rs n places []
  row_over places is =
      record {
        inside = λ k lt. (let inside : k < length s.readings = omega (arith, ap length is, length-take-le (length s.readings) form.vector sound.row.readings) in
            subst (λ p. p < n) (sym (ap (λ xs. get_or xs k 0) is ∙ get_or-take (length s.readings) form.vector k 0 inside)) (sound.row.vector k inside));
        terms = ap (map (term_at rs)) (sym is);
        small = λ k. omega arith;
      }

  row_started : (values : List Term) (m : ℕ) → Started values rs n (replicate m None)
  row_started values m = record { bank = sound.bank; long = omega (arith, sound.long); recalled = recalls_none values rs n m }

  -- The claims' conditions, asked over the row's vector with no inputs and the answers of the first case.
  module _ (entries : List TermEntry) (entries-are : map term_in entries ≡ s.terms) (places : List ℕ) (places_are : places ≡ take (length s.readings) form.vector) (inputs : List ℕ) (inputs_are : inputs ≡ []) (claims : List Equation) (claims_are : claims ≡ s.claims) (answers : List Bool) (answers_are : answers ≡ branch_answers (length s.claims) 0) where
    abbrev asked : List Term → List Literal
    asked values = numbered (condition_of values answers) 0 claims

    abbrev values : List Term
    values = terms_over row.vector [] (map term_in entries)

    first_case : asked values ≡ claim_conditions s row 0
    first_case =
        ap (λ ts. numbered (condition_of (terms_over row.vector [] ts) answers) 0 claims) entries-are
        ∙ ap₂ (λ l cs. numbered (condition_of (terms_over row.vector [] s.terms) l) 0 cs) answers_are claims_are

    module _ (rs' : List TermRecord) (n' : ℕ) (known' : List (Option ℕ)) (r : Result (List Condition) TableFault) where
      asked_over : WalksOver entries places inputs rs n (replicate 64 None) (λ v values. sides_of (asked values)) rs' n' known' (λ v values. Listed rs' n' (asked values) (length claims)) r → Added rs n (sides_of (asked values)) rs' n' (Made values rs' n' known' (Listed rs' n' (asked values) (length claims))) r
      asked_over walks =
          subst (λ ns. WalksOver entries places ns rs n (replicate 64 None) (λ v values. sides_of (asked values)) rs' n' known' (λ v values. Listed rs' n' (asked values) (length claims)) r) inputs_are walks row.vector (row_over places places_are) (row_started values 64)

    pub claims_asked : (rs' : List TermRecord) (n' : ℕ) (known' : List (Option ℕ)) (r : Result (List Condition) TableFault) → WalksOver entries places inputs rs n (replicate 64 None) (λ v values. sides_of (asked values)) rs' n' known' (λ v values. Listed rs' n' (asked values) (length claims)) r → Added rs n (claim_terms s row) rs' n' (Listed rs' n' (claim_conditions s row 0) (length claims)) r
    claims_asked rs' n' known' (Ok list) walks =
        let h = asked_over rs' n' known' (Ok list) walks in
        (subst (λ ls. Gained rs n (sides_of ls) rs' n') first_case h.0, subst (λ ls. Listed rs' n' ls (length claims) list) first_case h.1.made)
    claims_asked rs' n' known' (Err e) walks =
        let h = asked_over rs' n' known' (Err e) walks in
        (h.0, subst (λ ls. Overfull rs n (sides_of ls)) first_case h.1, h.2)

  own_stands : (k : ℕ) → k < form.used → Stands rs n (get_or row.conditions k no_literal) (get_or form.conditions k no_condition)
  own_stands k lt =
      record {
        lefts = sound.row.conditions.lefts k lt;
        rights = sound.row.conditions.rights k lt;
        literal = sym (get_or-map (literal_of rs) (take form.used form.conditions) k no_condition no_literal (omega (arith, length-take-le form.used form.conditions sound.row.stored)) ∙ ap (literal_of rs) (get_or-take form.used form.conditions k no_condition lt));
      }

  module _ (rs' : List TermRecord) (n' : ℕ) (x : Extends rs n rs' n') (asked : ℕ) (Asked-is : asked ≡ length s.claims) (list : List Condition) (listed : Listed rs' n' (claim_conditions s row 0) asked list) (own : List Condition) (own_is : own ≡ take form.used form.conditions) where
    own_long : length own ≡ form.used
    own_long = ap length own_is ∙ length-take-le form.used form.conditions sound.row.stored

    conditions_long : length row.conditions ≡ form.used
    conditions_long = length-map (take form.used form.conditions) (literal_of rs) ∙ length-take-le form.used form.conditions sound.row.stored

    pub all_laid : (cs : List Condition) (used : ℕ) → used ≡ asked + length own → ((k : ℕ) → k < asked → get_or cs k no_condition ≡ get_or list k no_condition) → ((k : ℕ) → k < length own → get_or cs (asked + k) no_condition ≡ get_or own k no_condition) → Laid s row rs' n' cs used
    all_laid cs used used-is front back =
        record {
          bank = x.bank;
          claims = λ k lt. (let inside : k < asked = omega arith in subst (Stands rs' n' (get_or (claim_conditions s row 0) k no_literal)) (sym (front k inside)) (listed k inside));
          own = λ k lt. (
              let inside : k < form.used = omega (arith, conditions_long) in
              let is : get_or cs (length s.claims + k) no_condition ≡ get_or form.conditions k no_condition = ap (λ m. get_or cs (m + k) no_condition) (sym Asked-is) ∙ (back k (omega (arith, own_long)) ∙ (ap (λ xs. get_or xs k no_condition) own_is ∙ get_or-take form.used form.conditions k no_condition inside)) in
              subst (Stands rs' n' (get_or row.conditions k no_literal)) (sym is) (stands_later rs rs' n n' x (get_or row.conditions k no_literal) (get_or form.conditions k no_condition) (own_stands k inside)));
          all = omega (arith, own_long, conditions_long, used-is, Asked-is);
        }

pub searched_added : (s : System) (form : Row) (rs : List TermRecord) (n : ℕ) (ts : List Term) (rs' : List TermRecord) (n' : ℕ) → Gained rs n ts rs' n' → (r : Result Bool TableFault) → Searched s form r → Added rs n ts rs' n' (Unbroken s form) r
searched_added s form rs n ts rs' n' g (Ok b) h = (g, h)
searched_added s form rs n ts rs' n' g (Err e) h = absurd h
