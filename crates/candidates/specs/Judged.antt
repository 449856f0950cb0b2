-- What judging a form answers. Assumes nothing.
use Rattle.std.specs.Prelude.{◌≡◌, ℕ, ◌≤◌, Bool, false, ◌⊎◌, List, ◌++◌, length, Ok, Err, Decides, Result}
use Rattle.fault.specs.declared.TableFault.{TableFault}
use Rattle.fault.specs.declared.TableFault.TheVariants.{BadMemory, TermsExhausted}
use Rattle.sheet.specs.System.{System}
use Rattle.terms.specs.declared.TermRecord.{TermRecord}
use Rattle.terms.specs.Terms.{Term}
use Rattle.banks.specs.Room.{Roomy, Crowded, Holding}
use Rattle.rows.specs.declared.row.RowRecord.{RowRecord}
use Rattle.forms.specs.Rows.{Row}
use Rattle.forms.specs.Safety.{Safe, Unsafe}
use Rattle.forms.specs.Counted.{claim_terms}
use Rattle.rows.specs.Records.{Sound, row_in}

-- a form with at most 16 conditions in a bank of n terms, and a label for each of 512 terms
pub record Judgeable (s : System) (rs : List TermRecord) (n : ℕ) (form : RowRecord) (labels : List ℕ) : Type 0 where
  pub sound : Sound s rs n 16 form
  pub labelled : 512 ≤ length labels

-- whether the form is safe, with a meaning and a configuration that show it where it is not
pub record Verdict (s : System) (form : Row) (safe : Bool) : Type 0 where
  pub decided : Decides safe (Safe s form)
  pub shown : safe ≡ false → Unsafe s form

-- A verdict where the claims' terms have room; a refusal for want of terms where they have none; and a refusal of any
-- other memory.
abbrev pub Judged : System → List TermRecord → ℕ → RowRecord → List ℕ → Result Bool TableFault → Type 0
Judged s rs n form labels (Ok safe) =
    Judgeable s rs n form labels × Verdict s (row_in s rs form) safe × ((seen : List Term) → Holding rs n seen → Roomy (seen ++ claim_terms s (row_in s rs form)))
Judged s rs n form labels (Err e) =
    ((e ≡ BadMemory) × (Judgeable s rs n form labels → ⊥))
    ⊎ ((e ≡ TermsExhausted) × Judgeable s rs n form labels × ((seen : List Term) → Holding rs n seen → Crowded (seen ++ claim_terms s (row_in s rs form))))
