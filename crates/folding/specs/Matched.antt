-- What the question whether an older row takes a form answers. Assumes nothing.
use Rattle.std.specs.Prelude.{◌≡◌, ℕ, ◌<◌, ◌≤◌, Bool, true, ◌⊎◌, List, ◌++◌, map, length, Some, None, Ok, Err, Decides, Option, Result, slice_index}
use Rattle.std.specs.List.{AllByRecursion}
use Rattle.fault.specs.declared.TableFault.{TableFault}
use Rattle.fault.specs.declared.TableFault.TheVariants.{BadMemory, TermsExhausted}
use Rattle.sheet.specs.System.{System}
use Rattle.terms.specs.declared.TermRecord.{TermRecord}
use Rattle.terms.specs.Terms.{Term, Literal, Entails}
use Rattle.terms.specs.Bank.{Bank}
use Rattle.banks.specs.Room.{Roomy, Crowded, Holding}
use Rattle.rows.specs.declared.row.RowRecord.{RowRecord}
use Rattle.forms.specs.Rows.{Row}
use Rattle.forms.specs.Form.{is_named}
use Rattle.forms.specs.Laws.{CoveredBy}
use Rattle.forms.specs.Matching.{Fits, Takes, renamed_in}
use Rattle.forms.specs.Counted.{FitsVector, renamed_sides, sides_of}
use Rattle.rows.specs.Records.{Between, Sound, row_in}
use Rattle.folding.specs.declared.renaming.Renaming.{Renaming}

-- the renaming of a record
abbrev pub sends : Renaming → ℕ → ℕ
sends r x = slice_index r.to x

-- the conditions of the row have only names of its vector
abbrev pub Closed : Row → Type 0
Closed row = AllByRecursion (λ c. is_named row.vector c ≡ true) row.conditions

-- memory with two rows that can be compared, and room for labels
pub record Comparable (s : System) (rs : List TermRecord) (n : ℕ) (o f : RowRecord) (labels : List ℕ) : Type 0 where
  pub older : Sound s rs n 16 o
  pub form : Sound s rs n 16 f
  pub labelled : 512 ≤ length labels
  pub closed : Closed (row_in s rs o)

-- memory in which a renaming of the older record's conditions can be weighed against the other's
pub record Weighable (rs : List TermRecord) (n : ℕ) (r : Renaming) (o f : RowRecord) (labels : List ℕ) : Type 0 where
  pub bank : Bank rs n
  pub long : 512 ≤ length rs
  pub names : (x : ℕ) → sends r x < 32
  pub older : Between n o.conditions o.used
  pub stored : o.used ≤ length o.conditions
  pub form : Between n f.conditions f.used
  pub given : f.used ≤ length f.conditions
  pub few : f.used ≤ 16
  pub labelled : 512 ≤ length labels

-- the bank has room for the older row's conditions, whichever renaming fits the vector
abbrev pub HasRoom : List TermRecord → ℕ → Row → Row → Type 0
HasRoom rs n older form =
    (to : ℕ → ℕ) → FitsVector to older form → (seen : List Term) → Holding rs n seen → Roomy (seen ++ renamed_sides to older)

-- a renaming fits the vector, and the bank has no room for the older row's conditions, renamed
pub record LacksRoom (rs : List TermRecord) (n : ℕ) (older form : Row) : Type 0 where
  pub to : ℕ → ℕ
  pub fits : FitsVector to older form
  pub crowded : (seen : List Term) → Holding rs n seen → Crowded (seen ++ renamed_sides to older)

-- whether the given conditions entail the others, renamed, where there is room for these
abbrev pub Weighed : List TermRecord → ℕ → (ℕ → ℕ) → List Literal → List Literal → Result Bool TableFault → Type 0
Weighed rs n to older given (Ok answer) =
    ((seen : List Term) → Holding rs n seen → Roomy (seen ++ sides_of (map (renamed_in to) older)))
    × Decides answer (AllByRecursion (Entails given) (map (renamed_in to) older))
Weighed rs n to older given (Err e) =
    (e ≡ TermsExhausted) × ((seen : List Term) → Holding rs n seen → Crowded (seen ++ sides_of (map (renamed_in to) older)))

-- a renaming that fits is found exactly where there is one; want of terms comes first
abbrev pub Found : Row → Row → Option Renaming → Type 0
Found older form None = Takes older form → ⊥
Found older form (Some r) = Fits (sends r) older form

-- where a renaming is found, the older row covers all that the form covers, under every meaning
abbrev pub FoundCovering : Row → Row → Option Renaming → Type 0
FoundCovering older form None = Unit {0}
FoundCovering older form (Some r) = CoveredBy form older

abbrev pub MatchCovering : Row → Row → Result (Option Renaming) TableFault → Type 0
MatchCovering older form (Ok found) = FoundCovering older form found
MatchCovering older form (Err e) = Unit {0}

abbrev pub Matched : System → List TermRecord → ℕ → RowRecord → RowRecord → List ℕ → Result (Option Renaming) TableFault → Type 0
Matched s rs n older form labels (Ok found) =
    Comparable s rs n older form labels × HasRoom rs n (row_in s rs older) (row_in s rs form) × Found (row_in s rs older) (row_in s rs form) found
Matched s rs n older form labels (Err e) =
    ((e ≡ BadMemory) × (Comparable s rs n older form labels → ⊥))
    ⊎ ((e ≡ TermsExhausted) × Comparable s rs n older form labels × LacksRoom rs n (row_in s rs older) (row_in s rs form))
