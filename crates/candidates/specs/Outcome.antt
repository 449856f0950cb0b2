-- What the calls answer, the memory that they leave, and when they refuse. Assumes nothing.
use Rattle.std.specs.Prelude.{◌≡◌, ℕ, ◌^◌, ◌<◌, ◌≤◌, List, ◌++◌, map, length, take, Some, None, Ok, Err, Result}
use Rattle.fault.specs.declared.TableFault.{TableFault}
use Rattle.fault.specs.declared.TableFault.TheVariants.{BadMemory, UnsafeStart, NoSuchBranch, NotWaiting, NotOut, HeightAboveBound, NamesExhausted, TermsExhausted, Satisfiable, NoRenaming, UnsafeForm, RowLimit}
use Rattle.sheet.specs.System.{System}
use Rattle.terms.specs.declared.TermRecord.{TermRecord}
use Rattle.terms.specs.Terms.{Term, Literal, Sat}
use Rattle.terms.specs.Bank.{Bank, Stays, literal_of}
use Rattle.banks.specs.Gains.{Gained, Overfull}
use Rattle.banks.specs.Room.{Holding, Roomy, Crowded}
use Rattle.rows.specs.declared.row.RowRecord.{RowRecord}
use Rattle.forms.specs.Rows.{Row, first_row}
use Rattle.forms.specs.Candidate.{candidate}
use Rattle.forms.specs.Counted.{sides_of, terms_in, made, nameless, crowded, CandidateIn, ConditionsIn, ConditionsCrowded}
use Rattle.forms.specs.Laws.{CoversStep, NotEntered}
use Rattle.rows.specs.Records.{row_in, Between, Inside, Sound}
use Rattle.candidates.specs.declared.conditions.Conditions.{Conditions}

-- the record stands for the row, with at most so many conditions, all of whose terms are among the bank's first n
pub record StandsFor (s : System) (rs : List TermRecord) (n most : ℕ) (row : Row) (r : RowRecord) : Type 0 where
  pub stands : row_in s rs r ≡ row
  pub inside : Inside s n most r

-- the first `used` conditions stand for the literals, and are between the bank's first n terms
pub record Lists (rs : List TermRecord) (n : ℕ) (ls : List Literal) (c : Conditions) : Type 0 where
  pub literals : map (literal_of rs) (take c.used c.list) ≡ ls
  pub few : c.used ≤ 22
  pub between : Between n c.list c.used

-- the count and the first n records are as they were, and a bank is one still
pub record Kept (rs : List TermRecord) (n : ℕ) (rs' : List TermRecord) (n' : ℕ) : Type 0 where
  pub count : n' ≡ n
  pub records : Stays n rs rs'
  pub bank : Bank rs n → Bank rs' n

-- sound memory, and a branch of the sheet
pub record Accepted (s : System) (rs : List TermRecord) (n : ℕ) (row : RowRecord) (b : ℕ) : Type 0 where
  pub sound : Sound s rs n 16 row
  pub branch : b < 2 ^ length s.questions

-- the refusals on a branch, in their order; ts are the terms that are needed of the candidate
abbrev pub Refused : System → List TermRecord → ℕ → RowRecord → ℕ → (Row → List Term) → TableFault → Type 0
Refused s rs n row b ts BadMemory = Sound s rs n 16 row → ⊥
Refused s rs n row b ts UnsafeStart = ⊥
Refused s rs n row b ts NoSuchBranch = Sound s rs n 16 row × (2 ^ length s.questions ≤ b)
Refused s rs n row b ts NotWaiting = ⊥
Refused s rs n row b ts NotOut = ⊥
Refused s rs n row b ts HeightAboveBound = ⊥
Refused s rs n row b ts NamesExhausted = Accepted s rs n row b × (candidate s (row_in s rs row) b ≡ None)
Refused s rs n row b ts TermsExhausted = Accepted s rs n row b × ((next : Row) × (candidate s (row_in s rs row) b ≡ Some next) × Overfull rs n (ts next))
Refused s rs n row b ts Satisfiable = ⊥
Refused s rs n row b ts NoRenaming = ⊥
Refused s rs n row b ts UnsafeForm = ⊥
Refused s rs n row b ts RowLimit = ⊥

-- The candidate of a row on a branch: the bank has gained its terms, and nothing else but their subterms.
abbrev pub CandidateMade : System → List TermRecord → ℕ → RowRecord → ℕ → List TermRecord → ℕ → Result RowRecord TableFault → Type 0
CandidateMade s rs n row b rs' n' (Ok r) =
    Accepted s rs n row b × ((next : Row) × (candidate s (row_in s rs row) b ≡ Some next) × Gained rs n (terms_in next) rs' n' × StandsFor s rs' n' 22 next r)
CandidateMade s rs n row b rs' n' (Err e) = Refused s rs n row b terms_in e × Kept rs n rs' n'

-- The candidate's conditions alone, with their terms alone.
abbrev pub ConditionsMade : System → List TermRecord → ℕ → RowRecord → ℕ → List TermRecord → ℕ → Result Conditions TableFault → Type 0
ConditionsMade s rs n row b rs' n' (Ok c) =
    Accepted s rs n row b × ((next : Row) × (candidate s (row_in s rs row) b ≡ Some next) × Gained rs n (sides_of next.conditions) rs' n' × Lists rs' n' next.conditions c)
ConditionsMade s rs n row b rs' n' (Err e) = Refused s rs n row b (λ next. sides_of next.conditions) e × Kept rs n rs' n'

-- Row 0.
abbrev pub FirstRefused : System → List TermRecord → ℕ → TableFault → Type 0
FirstRefused s rs n BadMemory = length rs ≡ 512 → Bank rs n → ⊥
FirstRefused s rs n UnsafeStart = ⊥
FirstRefused s rs n NoSuchBranch = ⊥
FirstRefused s rs n NotWaiting = ⊥
FirstRefused s rs n NotOut = ⊥
FirstRefused s rs n HeightAboveBound = ⊥
FirstRefused s rs n NamesExhausted = ⊥
FirstRefused s rs n TermsExhausted = (length rs ≡ 512) × Bank rs n × Overfull rs n (terms_in (first_row s))
FirstRefused s rs n Satisfiable = ⊥
FirstRefused s rs n NoRenaming = ⊥
FirstRefused s rs n UnsafeForm = ⊥
FirstRefused s rs n RowLimit = ⊥

abbrev pub FirstRowMade : System → List TermRecord → ℕ → List TermRecord → ℕ → Result RowRecord TableFault → Type 0
FirstRowMade s rs n rs' n' (Ok r) = (length rs ≡ 512) × Bank rs n × Gained rs n (terms_in (first_row s)) rs' n' × StandsFor s rs' n' 16 (first_row s) r
FirstRowMade s rs n rs' n' (Err e) = FirstRefused s rs n e × Kept rs n rs' n'

-- The same by the different terms alone, where the bank's are those of `seen`: what names are wanting for, and what terms.
abbrev pub Wanting : Type 0 → Type 0 → TableFault → Type 0
Wanting names terms BadMemory = Unit {0}
Wanting names terms UnsafeStart = Unit {0}
Wanting names terms NoSuchBranch = Unit {0}
Wanting names terms NotWaiting = Unit {0}
Wanting names terms NotOut = Unit {0}
Wanting names terms HeightAboveBound = Unit {0}
Wanting names terms NamesExhausted = names
Wanting names terms TermsExhausted = terms
Wanting names terms Satisfiable = Unit {0}
Wanting names terms NoRenaming = Unit {0}
Wanting names terms UnsafeForm = Unit {0}
Wanting names terms RowLimit = Unit {0}

abbrev pub CandidateCounted : System → Row → ℕ → List Term → List TermRecord → ℕ → Result RowRecord TableFault → Type 0
CandidateCounted s row b seen rs' n' (Ok r) = CandidateIn s row b seen (made (row_in s rs' r) (seen ++ terms_in (row_in s rs' r))) × Holding rs' n' (seen ++ terms_in (row_in s rs' r))
CandidateCounted s row b seen rs' n' (Err e) = Wanting (CandidateIn s row b seen nameless) (CandidateIn s row b seen crowded) e

abbrev pub conditions_in : List TermRecord → Conditions → List Literal
conditions_in rs c = map (literal_of rs) (take c.used c.list)

abbrev pub ConditionsCounted : System → Row → ℕ → List Term → List TermRecord → ℕ → Result Conditions TableFault → Type 0
ConditionsCounted s row b seen rs' n' (Ok c) = ConditionsIn s row b seen (conditions_in rs' c) × Holding rs' n' (seen ++ sides_of (conditions_in rs' c))
ConditionsCounted s row b seen rs' n' (Err e) = Wanting (candidate s row b ≡ None) (ConditionsCrowded s row b seen) e

abbrev pub FirstRowCounted : System → List Term → List TermRecord → ℕ → Result RowRecord TableFault → Type 0
FirstRowCounted s seen rs' n' (Ok r) = Roomy (seen ++ terms_in (first_row s)) × Holding rs' n' (seen ++ terms_in (first_row s))
FirstRowCounted s seen rs' n' (Err e) = Wanting (Unit {0}) (Crowded (seen ++ terms_in (first_row s))) e

-- What the answers are for: a covered configuration that goes through the branch goes to one that the candidate covers; where
-- the conditions are impossible, none goes through it.
abbrev pub CandidateCovering : System → List TermRecord → RowRecord → ℕ → List TermRecord → Result RowRecord TableFault → Type 0
CandidateCovering s rs row b rs' (Ok r) = CoversStep s (row_in s rs row) b (row_in s rs' r)
CandidateCovering s rs row b rs' (Err e) = Unit {0}

abbrev pub ConditionsRefuting : System → List TermRecord → RowRecord → ℕ → List TermRecord → Result Conditions TableFault → Type 0
ConditionsRefuting s rs row b rs' (Ok c) = (Sat (conditions_in rs' c) → ⊥) → NotEntered s (row_in s rs row) b
ConditionsRefuting s rs row b rs' (Err e) = Unit {0}
