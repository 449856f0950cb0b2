-- What building a form answers, and the memory that it leaves. Assumes nothing.
use Rattle.std.specs.Prelude.{◌≡◌, ℕ, ◌⊎◌, List, Some, None, Ok, Err, Result}
use Rattle.fault.specs.declared.TableFault.{TableFault}
use Rattle.fault.specs.declared.TableFault.TheVariants.{BadMemory, UnsafeStart, NoSuchBranch, NotWaiting, NotOut, HeightAboveBound, NamesExhausted, TermsExhausted, Satisfiable, NoRenaming, UnsafeForm, RowLimit}
use Rattle.sheet.specs.System.{System}
use Rattle.terms.specs.declared.TermRecord.{TermRecord}
use Rattle.terms.specs.Terms.{Term, name}
use Rattle.terms.specs.Bank.{Extends, Stays}
use Rattle.banks.specs.Room.{Holding}
use Rattle.banks.specs.Gains.{Gained}
use Rattle.rows.specs.declared.row.RowRecord.{RowRecord}
use Rattle.forms.specs.Rows.{Row, stands, lowest_free}
use Rattle.forms.specs.Form.{lowest, replaced_row}
use Rattle.forms.specs.Counted.{terms_in, Built, made, nameless, crowded, CutIn, FormIn}
use Rattle.forms.specs.Laws.{CoveredBy}
use Rattle.rows.specs.Records.{row_in, Inside, Sound}
use Rattle.folding.specs.Rewriting.{Refused}

-- one cut: the lowest free name takes the place of the term to which the way down from t leads
pub record CutMade (s : System) (rs : List TermRecord) (n : ℕ) (row : RowRecord) (t : Term) (rs' : List TermRecord) (n' : ℕ) (next : RowRecord) : Type 0 where
  pub given : ℕ
  pub free : lowest_free (stands (row_in s rs row)) ≡ Some given
  pub gained : Gained rs n (terms_in (replaced_row (lowest t) (name given) (row_in s rs row))) rs' n'
  pub is : row_in s rs' next ≡ replaced_row (lowest t) (name given) (row_in s rs row)
  pub inside : Inside s n' 22 next

abbrev pub CutRefused : System → List TermRecord → ℕ → RowRecord → Term → List TermRecord → ℕ → TableFault → Type 0
CutRefused s rs n row t rs' n' e =
    ((e ≡ NamesExhausted) × (lowest_free (stands (row_in s rs row)) ≡ None) × Extends rs n rs' n')
    ⊎ ((x : ℕ) × (lowest_free (stands (row_in s rs row)) ≡ Some x) × Refused rs n (terms_in (replaced_row (lowest t) (name x) (row_in s rs row))) rs' n' e)

-- whatever terms the bank holds, building comes to this
abbrev pub Comes : List TermRecord → ℕ → (List Term → Type 0) → Type 0
Comes rs n P = (seen : List Term) → Holding rs n seen → P seen

-- a row that building came to, and the terms that the bank holds then
abbrev pub Reached : (List Term → Built → Type 0) → List TermRecord → ℕ → Row → List Term → Type 0
Reached built rs' n' row seen = (seen' : List Term) × Holding rs' n' seen' × built seen (made row seen')

-- all the cuts
pub record CutsMade (s : System) (rs : List TermRecord) (n : ℕ) (row : RowRecord) (h : ℕ) (rs' : List TermRecord) (n' : ℕ) (end : RowRecord) : Type 0 where
  pub extends : Extends rs n rs' n'
  pub inside : Inside s n' 22 end
  pub cut : Comes rs n (Reached (λ seen b. CutIn h seen (row_in s rs row) b) rs' n' (row_in s rs' end))

-- the number of the want that is met first
abbrev pub CutsWant : System → List TermRecord → ℕ → RowRecord → ℕ → TableFault → Type 0
CutsWant s rs n row h NamesExhausted = Comes rs n (λ seen. CutIn h seen (row_in s rs row) nameless)
CutsWant s rs n row h TermsExhausted = Comes rs n (λ seen. CutIn h seen (row_in s rs row) crowded)
CutsWant s rs n row h BadMemory = ⊥
CutsWant s rs n row h UnsafeStart = ⊥
CutsWant s rs n row h NoSuchBranch = ⊥
CutsWant s rs n row h NotWaiting = ⊥
CutsWant s rs n row h NotOut = ⊥
CutsWant s rs n row h HeightAboveBound = ⊥
CutsWant s rs n row h Satisfiable = ⊥
CutsWant s rs n row h NoRenaming = ⊥
CutsWant s rs n row h UnsafeForm = ⊥
CutsWant s rs n row h RowLimit = ⊥

pub record CutsRefused (s : System) (rs : List TermRecord) (n : ℕ) (row : RowRecord) (h : ℕ) (rs' : List TermRecord) (n' : ℕ) (e : TableFault) : Type 0 where
  pub extends : Extends rs n rs' n'
  pub want : CutsWant s rs n row h e

-- The form of a row at height h. A refusal leaves the bank's terms as they were: names or terms are wanting, whichever
-- is met first, or memory is not a bank with a row.
pub record FormMade (s : System) (rs : List TermRecord) (n : ℕ) (row : RowRecord) (h : ℕ) (rs' : List TermRecord) (n' : ℕ) (form : RowRecord) : Type 0 where
  pub sound : Sound s rs n 22 row
  pub extends : Extends rs n rs' n'
  pub inside : Inside s n' 16 form
  pub is : Comes rs n (Reached (λ seen b. FormIn h seen (row_in s rs row) b) rs' n' (row_in s rs' form))

abbrev pub FormWants : System → List TermRecord → ℕ → RowRecord → ℕ → TableFault → Type 0
FormWants s rs n row h e = ((e ≡ BadMemory) × (Sound s rs n 22 row → ⊥)) ⊎ (Sound s rs n 22 row × CutsWant s rs n row h e)

abbrev pub FormBuilt : System → List TermRecord → ℕ → RowRecord → ℕ → List TermRecord → ℕ → Result RowRecord TableFault → Type 0
FormBuilt s rs n row h rs' n' (Ok form) = FormMade s rs n row h rs' n' form
FormBuilt s rs n row h rs' n' (Err e) = (n' ≡ n) × Stays n rs rs' × FormWants s rs n row h e

-- under every meaning, the form covers all that the row covers
abbrev pub FormCovering : System → List TermRecord → RowRecord → List TermRecord → Result RowRecord TableFault → Type 0
FormCovering s rs row rs' (Ok form) = CoveredBy (row_in s rs row) (row_in s rs' form)
FormCovering s rs row rs' (Err e) = Unit {0}
