-- What the work on one branch answers, by the rules, and the memory that it leaves. Assumes nothing.
use Rattle.std.specs.Prelude.{◌≡◌, ℕ, ◌^◌, ◌<◌, ◌≤◌, Bool, true, false, ◌⊎◌, List, ◌++◌, length, Ok, Err, None, Result}
use Rattle.fault.specs.declared.TableFault.{TableFault}
use Rattle.fault.specs.declared.TableFault.TheVariants.{UnsafeStart, NamesExhausted, TermsExhausted, Satisfiable, NoRenaming, UnsafeForm, RowLimit}
use Rattle.sheet.specs.System.{System}
use Rattle.terms.specs.declared.TermRecord.{TermRecord}
use Rattle.terms.specs.Terms.{Term, Literal, Sat}
use Rattle.terms.specs.Bank.{Extends}
use Rattle.banks.specs.Room.{HasAll, Roomy, Crowded, Holding}
use Rattle.forms.specs.Rows.{Row, first_row}
use Rattle.forms.specs.Candidate.{candidate}
use Rattle.forms.specs.Counted.{made, nameless, crowded, ConditionsIn, ConditionsCrowded, FitsVector, sides_of, renamed_sides, claim_terms}
use Rattle.forms.specs.Matching.{Takes}
use Rattle.forms.specs.Safety.{Safe, Unsafe}
use Rattle.rows.specs.declared.row.RowRecord.{RowRecord}
use Rattle.rows.specs.Records.{row_in, Inside, Sound}
use Rattle.candidates.specs.Outcome.{Kept}
use Rattle.folding.specs.Matched.{Closed}
use Rattle.rules.specs.Rules.{BuildsFrom}

-- a bank in memory of 512 places with a row over it, a branch of the sheet, and a label for each term
pub record Workable (s : System) (rs : List TermRecord) (n : ℕ) (row : RowRecord) (number : ℕ) (labels : List ℕ) : Type 0 where
  pub sound : Sound s rs n 16 row
  pub branch : number < 2 ^ length s.questions
  pub labelled : 512 ≤ length labels

-- a row of the table, whose conditions name only what stands in its vector
pub record Comparable (s : System) (rs : List TermRecord) (n : ℕ) (row : RowRecord) : Type 0 where
  pub inside : Inside s n 16 row
  pub closed : Closed (row_in s rs row)

-- joins fewer than the terms considered, and no meaning that meets the conditions; or the first refusal
abbrev pub Refuted : System → Row → ℕ → List Term → Result ℕ TableFault → Type 0
Refuted s row number seen (Ok joins) =
    (cs : List Literal) × ConditionsIn s row number seen cs × (Sat cs → ⊥)
    × ((all : List Term) → HasAll all (seen ++ sides_of cs) → joins < length all)
Refuted s row number seen (Err NamesExhausted) = candidate s row number ≡ None
Refuted s row number seen (Err TermsExhausted) = ConditionsCrowded s row number seen
Refuted s row number seen (Err Satisfiable) = (cs : List Literal) × ConditionsIn s row number seen cs × Sat cs
Refuted s row number seen (Err _) = ⊥

-- the form that building comes to, in a bank that holds just the terms seen by then; or what is wanting first
abbrev pub BuiltAs : System → Row → ℕ → ℕ → List Term → List TermRecord → ℕ → Result RowRecord TableFault → Type 0
BuiltAs s row number h seen rs' n' (Ok r) =
    (seen' : List Term) × BuildsFrom s row number h seen (made (row_in s rs' r) seen') × Holding rs' n' seen' × Comparable s rs' n' r
BuiltAs s row number h seen rs' n' (Err NamesExhausted) = BuildsFrom s row number h seen nameless
BuiltAs s row number h seen rs' n' (Err TermsExhausted) = BuildsFrom s row number h seen crowded
BuiltAs s row number h seen rs' n' (Err _) = ⊥

-- the form, which the older row takes; or the first refusal
abbrev pub Covered : System → Row → ℕ → Row → ℕ → List Term → Result Unit TableFault → Type 0
Covered s row number older h seen (Ok done) =
    (form : Row) × (seen' : List Term) × BuildsFrom s row number h seen (made form seen')
    × ((to : ℕ → ℕ) → FitsVector to older form → Roomy (seen' ++ renamed_sides to older)) × Takes older form
Covered s row number older h seen (Err NamesExhausted) = BuildsFrom s row number h seen nameless
Covered s row number older h seen (Err TermsExhausted) =
    BuildsFrom s row number h seen crowded
    ⊎ ((form : Row) × (seen' : List Term) × BuildsFrom s row number h seen (made form seen')
    × ((to : ℕ → ℕ) × FitsVector to older form × Crowded (seen' ++ renamed_sides to older)))
Covered s row number older h seen (Err NoRenaming) =
    (form : Row) × (seen' : List Term) × BuildsFrom s row number h seen (made form seen')
    × ((to : ℕ → ℕ) → FitsVector to older form → Roomy (seen' ++ renamed_sides to older)) × (Takes older form → ⊥)
Covered s row number older h seen (Err _) = ⊥

-- a form over whose vector the terms of all claims have room
abbrev Judged : System → Row → ℕ → ℕ → List Term → (Row → Type 0) → Type 0
Judged s row number h seen P =
    (form : Row) × (seen' : List Term) × BuildsFrom s row number h seen (made form seen') × Roomy (seen' ++ claim_terms s form) × P form

-- the form, which is safe, where a row is free; or the first refusal
abbrev pub Proposed : System → Row → ℕ → ℕ → Bool → List Term → List TermRecord → ℕ → Result RowRecord TableFault → Type 0
Proposed s row number h is_full seen rs' n' (Ok r) =
    (seen' : List Term) × BuildsFrom s row number h seen (made (row_in s rs' r) seen')
    × Roomy (seen' ++ claim_terms s (row_in s rs' r)) × Safe s (row_in s rs' r) × (is_full ≡ false)
    × Holding rs' n' seen' × Comparable s rs' n' r
Proposed s row number h is_full seen rs' n' (Err NamesExhausted) = BuildsFrom s row number h seen nameless
Proposed s row number h is_full seen rs' n' (Err TermsExhausted) =
    BuildsFrom s row number h seen crowded
    ⊎ ((form : Row) × (seen' : List Term) × BuildsFrom s row number h seen (made form seen') × Crowded (seen' ++ claim_terms s form))
Proposed s row number h is_full seen rs' n' (Err UnsafeForm) = Judged s row number h seen (Unsafe s)
Proposed s row number h is_full seen rs' n' (Err RowLimit) = Judged s row number h seen (Safe s) × (is_full ≡ true)
Proposed s row number h is_full seen rs' n' (Err _) = ⊥

-- the bank has grown where a form was made, and is as it was where none was
abbrev pub KeptUnlessMade : List TermRecord → ℕ → List TermRecord → ℕ → Result RowRecord TableFault → Type 0
KeptUnlessMade rs n rs' n' (Ok r) = Extends rs n rs' n'
KeptUnlessMade rs n rs' n' (Err e) = Kept rs n rs' n'

-- row 0 and just its terms, where it is safe; or a meaning and a configuration that show that it is not
abbrev pub Begun : System → List TermRecord → ℕ → Result RowRecord TableFault → Type 0
Begun s rs n (Ok r) = (row_in s rs r ≡ first_row s) × Safe s (first_row s) × Holding rs n (first_row s).vector × Comparable s rs n r
Begun s rs n (Err UnsafeStart) = Unsafe s (first_row s)
Begun s rs n (Err _) = ⊥
