-- What holds while the terms of a sheet are interned over a row, and what it comes to. Assumes nothing.
use Rattle.std.specs.Prelude.{◌≡◌, ℕ, ◌+◌, ◌<◌, ◌≤◌, Bool, List, [], ◌∷◌, map, length, get_or, take, Some, None, Ok, Err, Option, Result, slice_index, slice_index_or}
use Rattle.fault.specs.declared.TableFault.{TableFault}
use Rattle.fault.specs.declared.TableFault.TheVariants.{TermsExhausted}
use Rattle.sheet.specs.declared.syntax.Equation.{Equation}
use Rattle.sheet.specs.declared.syntax.Start.{Start}
use Rattle.sheet.specs.declared.syntax.TermEntry.{TermEntry}
use Rattle.sheet.specs.Runs.{or_kept}
use Rattle.sheet.specs.Stored.{term_in}
use Rattle.terms.specs.declared.Condition.{Condition}
use Rattle.terms.specs.declared.Sign.TheVariants.{Equal}
use Rattle.terms.specs.declared.TermRecord.{TermRecord}
use Rattle.terms.specs.Terms.{Term, Literal}
use Rattle.terms.specs.Bank.{Bank, Extends, term_at, literal_of}
use Rattle.banks.specs.Gains.{Gained, Overfull}
use Rattle.closure.specs.Labels.{no_condition}
use Rattle.forms.specs.Candidate.{no_term, sign_of, terms_over, input_names}
use Rattle.sheet.specs.System.{System}
use Rattle.rows.specs.declared.row.RowRecord.{RowRecord}
use Rattle.rows.specs.Records.{row_in}
use Rattle.forms.specs.Rows.{Row}
use Rattle.candidates.specs.Outcome.{Accepted, Refused}
use Rattle.candidates.specs.declared.conditions.Conditions.{Conditions}
use Rattle.candidates.specs.declared.instantiating.Given.{Given}
use Rattle.candidates.specs.declared.instantiating.Memory.{Memory}

-- what is known of each number is the place of its term
abbrev pub Recalls : List Term → List TermRecord → ℕ → List (Option ℕ) → Type 0
Recalls values rs n known = (k p : ℕ) → slice_index_or known k None ≡ Some p → (p < n) × (term_at rs p ≡ slice_index_or values k no_term)

-- a bank with memory for 512 terms, and the places of terms already interned
pub record Started (values : List Term) (rs : List TermRecord) (n : ℕ) (known : List (Option ℕ)) : Type 0 where
  pub bank : Bank rs n
  pub long : 512 ≤ length rs
  pub recalled : Recalls values rs n known

-- places of the bank that stand for the terms v, and names for the inputs
pub record Over (v : List Term) (rs : List TermRecord) (n : ℕ) (places names : List ℕ) : Type 0 where
  pub inside : (k : ℕ) → k < length places → slice_index places k < n
  pub terms : v ≡ map (term_at rs) places
  pub small : (k : ℕ) → slice_index names k < 32

-- terms are added, and something is made that P is true of; or the terms are too many
abbrev pub Added : {A : Type 0} → List TermRecord → ℕ → List Term → List TermRecord → ℕ → (A → Type 0) → Result A TableFault → Type 0
Added rs n ts rs' n' P (Ok a) = Gained rs n ts rs' n' × P a
Added rs n ts rs' n' P (Err e) = (e ≡ TermsExhausted) × Overfull rs n ts × Extends rs n rs' n'

-- something that P is true of, with the memory still right
pub record Made {A : Type 0} (values : List Term) (rs : List TermRecord) (n : ℕ) (known : List (Option ℕ)) (P : A → Type 0) (a : A) : Type 0 where
  pub made : P a
  pub recalled : Recalls values rs n known

-- p is the place of the term t among the bank's first n
abbrev pub At : List TermRecord → ℕ → Term → ℕ → Type 0
At rs n t p = (p < n) × (term_at rs p ≡ t)

abbrev pub Placed : List Term → List TermRecord → ℕ → Term → List TermRecord → ℕ → List (Option ℕ) → Result ℕ TableFault → Type 0
Placed values rs n t rs' n' known' r = Added rs n (t ∷ []) rs' n' (Made values rs' n' known' (At rs' n' t)) r

-- since rs and n, just the terms ts were added
pub record Walked (values v : List Term) (places names : List ℕ) (rs : List TermRecord) (n : ℕ) (ts : List Term) (rs' : List TermRecord) (n' : ℕ) (known : List (Option ℕ)) : Type 0 where
  pub gained : Gained rs n ts rs' n'
  pub over : Over v rs' n' places names
  pub started : Started values rs' n' known

-- an equation with its answer, as a condition
abbrev pub literal_for : List Term → Equation → Bool → Literal
literal_for values e answer = record { left = slice_index_or values e.left no_term; right = slice_index_or values e.right no_term; sign = sign_of answer }

-- past the end
abbrev pub no_literal : Literal
no_literal = record { left = no_term; right = no_term; sign = Equal }

-- the condition is between the bank's first n terms and stands for the literal
pub record Stands (rs : List TermRecord) (n : ℕ) (l : Literal) (c : Condition) : Type 0 where
  pub lefts : c.left < n
  pub rights : c.right < n
  pub literal : literal_of rs c ≡ l

-- the first m conditions stand for the first m literals, and the first m places for the first m terms
abbrev pub Listed : List TermRecord → ℕ → List Literal → ℕ → List Condition → Type 0
Listed rs n ls m cs = (k : ℕ) → k < m → Stands rs n (slice_index_or ls k no_literal) (slice_index_or cs k no_condition)

abbrev pub Vectored : List TermRecord → ℕ → List Term → ℕ → List ℕ → Type 0
Vectored rs n ts m ps = (k : ℕ) → k < m → At rs n (slice_index_or ts k no_term) (slice_index ps k)

-- over any row that the places stand for: the terms ts of the row's vector and the sheet's terms over it are added, and P is true of what is made
abbrev pub WalksOver : {A : Type 0} → List TermEntry → List ℕ → List ℕ → List TermRecord → ℕ → List (Option ℕ) → (List Term → List Term → List Term) → List TermRecord → ℕ → List (Option ℕ) → (List Term → List Term → A → Type 0) → Result A TableFault → Type 0
WalksOver entries places names rs n known ts rs' n' known' P r =
    (v : List Term) → Over v rs n places names → Started (terms_over v names (map term_in entries)) rs n known
    → Added rs n (ts v (terms_over v names (map term_in entries))) rs' n' (Made (terms_over v names (map term_in entries)) rs' n' known' (P v (terms_over v names (map term_in entries)))) r

-- the same of a memory before and after, where P is over the bank as it is then
abbrev pub Walks : {A : Type 0} → Given → Memory → (List Term → List Term → List Term) → Memory → (List TermRecord → ℕ → List Term → List Term → A → Type 0) → Result A TableFault → Type 0
Walks g old ts new P r =
    WalksOver g.terms.now g.vector.now g.inputs.now old.bank.now old.count.now.terms old.known ts new.bank.now new.count.now.terms new.known (P new.bank.now new.count.now.terms) r

-- the place of one term is made
abbrev pub Places : Given → Memory → (List Term → List Term → Term) → Memory → Result ℕ TableFault → Type 0
Places g old t new r = Walks g old (λ v values. t v values ∷ []) new (λ rs n v values. At rs n (t v values)) r

-- the memory is what was lent, as long as it was
abbrev pub Lent : Memory → Memory → Type 0
Lent old new = (new.bank.ghost_name ≡ old.bank.ghost_name) × (new.count.ghost_name ≡ old.count.ghost_name) × (length new.bank.now ≡ length old.bank.now)

-- the next term of reading n, from the terms that the choices come to
abbrev pub next_over : List ℕ → List Term → List Term → ℕ → Option ℕ → Term
next_over chosen v values n next = or_kept (λ k. get_or values (slice_index chosen k) no_term) (slice_index_or v n no_term) next

-- a start by name is by one of the 32
abbrev pub Named : Start → Type 0
Named (Start.Name x) = x < 32
Named (Start.Constant f) = Unit {0}

-- the conditions of the questions, and behind them the row's own
pub record Joined (rs : List TermRecord) (n : ℕ) (asked : List Literal) (own : List Condition) (c : Conditions) : Type 0 where
  pub used : c.used ≡ length asked + length own
  pub front : Listed rs n asked (length asked) c.list
  pub back : (k : ℕ) → k < length own → slice_index_or c.list (length asked + k) no_condition ≡ slice_index_or own k no_condition
  pub long : length c.list ≡ 22

-- the inputs' names, or the refusals that come before any term
abbrev pub Prepared : System → List TermRecord → ℕ → RowRecord → ℕ → Result (List ℕ) TableFault → Type 0
Prepared s rs n row b (Ok names) = Accepted s rs n row b × (input_names s (row_in s rs row) ≡ Some (take s.inputs names)) × ((k : ℕ) → slice_index names k < 32)
Prepared s rs n row b (Err e) = (ts : Row → List Term) → Refused s rs n row b ts e
