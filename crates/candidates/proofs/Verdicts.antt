-- What trying the cases says of the form.
use Rattle.std.proofs.Common.{◌≡◌, ℕ, Bool, true, false, List, length, take, Ok, Err, Result, refl, ◌∙◌, inr}
use Rattle.std.proofs.lemmas.List.{length-map, length-take-le}
use Rattle.std.proofs.lemmas.Bool.{true≢false, false≢true}
use Rattle.fault.specs.declared.TableFault.{TableFault}
use Rattle.sheet.specs.Lawful.{Lawful}
use Rattle.sheet.specs.System.{System}
use Rattle.terms.specs.declared.TermRecord.{TermRecord}
use Rattle.terms.specs.Bank.{term_at}
use Rattle.banks.proofs.Gaining.{roomy_gained, crowded_overfull}
use Rattle.rows.specs.declared.row.RowRecord.{RowRecord}
use Rattle.forms.specs.Rows.{Row}
use Rattle.forms.specs.Counted.{claim_terms}
use Rattle.forms.specs.Laws.{Decided}
use Rattle.rows.specs.Records.{Sound, row_in}
use Rattle.forms.proofs.Deciding.{safety_by_cases}
use Rattle.candidates.specs.Working.{Added}
use Rattle.candidates.specs.Cases.{Unbroken}
use Rattle.candidates.specs.Judged.{Judgeable, Verdict, Judged}
use Rattle.candidates.specs.Outcome.{Kept}
use Rattle.candidates.proofs.Answering.{kept_back}
use Rattle.sheet.proofs.Fewness.{lawful_sheet}

module _ (s : System) (lawful : ∥ Lawful s ∥₁) where
  module _ (rs : List TermRecord) (n : ℕ) (form : RowRecord) where
    abbrev row : Row
    row = row_in s rs form

    decided : Sound s rs n 16 form → Decided s row
    decided sound =
        safety_by_cases s (lawful_sheet s lawful) row (length-map (take (length s.readings) form.vector) (term_at rs) ∙ length-take-le (length s.readings) form.vector sound.row.readings)

    verdict : Decided s row → (safe : Bool) → Unbroken s row safe → Verdict s row safe
    verdict d true never = record { decided = ((λ _. d.safe never), λ _. refl); shown = λ e. absurd (true≢false e) }
    verdict d false breaking = record { decided = ((λ e. absurd (false≢true e)), λ safe. absurd (d.exact safe breaking)); shown = λ _. d.unsafe breaking }

    pub judged_by : (labels : List ℕ) → Judgeable s rs n form labels → (rs' : List TermRecord) (n' : ℕ) (r : Result Bool TableFault) → Added rs n (claim_terms s row) rs' n' (Unbroken s row) r → Judged s rs n form labels r
    judged_by labels fit rs' n' (Ok safe) h =
        (fit, verdict (decided fit.sound) safe h.1, λ seen holding. roomy_gained rs n seen holding (claim_terms s row) rs' n' h.0)
    judged_by labels fit rs' n' (Err e) h = inr (h.0, fit, λ seen holding. crowded_overfull rs n seen holding (claim_terms s row) h.1)

    pub kept_after : (rs' : List TermRecord) (n' n₂ : ℕ) (r : Result Bool TableFault) → Added rs n (claim_terms s row) rs' n' (Unbroken s row) r → n₂ ≡ n → Kept rs n rs' n₂
    kept_after rs' n' n₂ (Ok safe) h restored = rw restored (kept_back rs rs' n n' h.0.extends)
    kept_after rs' n' n₂ (Err e) h restored = rw restored (kept_back rs rs' n n' h.2)
