-- What building a row's form comes to, from what the candidate and the form of it answer.
use Rattle.std.proofs.Common.{◌≡◌, ℕ, List, ◌++◌, length, Ok, Err, Result, ⊎_elim, ◌∙◌, arith}
use Rattle.fault.specs.declared.TableFault.{TableFault}
use Rattle.fault.specs.declared.TableFault.TheVariants.{BadMemory, UnsafeStart, NoSuchBranch, NotWaiting, NotOut, HeightAboveBound, NamesExhausted, TermsExhausted, Satisfiable, NoRenaming, UnsafeForm, RowLimit}
use Rattle.sheet.specs.System.{System}
use Rattle.terms.specs.Terms.{Term}
use Rattle.terms.specs.declared.TermRecord.{TermRecord}
use Rattle.forms.specs.Rows.{Row}
use Rattle.forms.specs.Counted.{Built, made, nameless, crowded, terms_in}
use Rattle.forms.proofs.Counting.{counted_form}
use Rattle.forms.proofs.Shaping.{one_form}
use Rattle.rows.specs.declared.row.RowRecord.{RowRecord}
use Rattle.rows.specs.Records.{row_in, Sound}
use Rattle.candidates.specs.Outcome.{CandidateMade, CandidateCounted}
use Rattle.folding.specs.Matched.{Closed}
use Rattle.folding.specs.Outcome.{FormBuilt, CutsWant}
use Rattle.rules.specs.Rules.{Continues}
use Rattle.table.specs.Offers.{Workable, BuiltAs}

nameless_not : (form : Row) (seen : List Term) → made form seen ≡ nameless → ⊥
nameless_not form seen e = let z : ◌≡◌ {A = ℕ} 0 1 = cc in absurd (omega arith)

crowded_not : (form : Row) (seen : List Term) → made form seen ≡ crowded → ⊥
crowded_not form seen e = let z : ◌≡◌ {A = ℕ} 0 1 = cc in absurd (omega arith)

-- a form's conditions name only what stands in its vector
pub closed_form : (h : ℕ) (begun : Built) (form : Row) (seen : List Term) → Continues h begun (made form seen) → Closed form
closed_form h (made next seen') form seen c = ((one_form h next).formed form ((counted_form h seen' next).made form seen c)).named
closed_form h nameless form seen c = absurd (nameless_not form seen c)
closed_form h crowded form seen c = absurd (crowded_not form seen c)

module _ (s : System) (rs : List TermRecord) (n : ℕ) (r : RowRecord) (number : ℕ) (labels : List ℕ) (work : Workable s rs n r number labels) where
  abbrev row : Row
  row = row_in s rs r

  module _ (rs₁ : List TermRecord) (n₁ : ℕ) (next : RowRecord) (candidate : CandidateMade s rs n r number rs₁ n₁ (Ok next)) (long : length rs₁ ≡ length rs) where
    -- a form can be built of the candidate
    sound : Sound s rs₁ n₁ 22 next
    sound = record { bank = candidate.1.2.extends.bank; long = long ∙ work.sound.long; row = candidate.1.3.inside }

    module _ (h : ℕ) (rs₂ : List TermRecord) (n₂ : ℕ) (seen : List Term) (counted : CandidateCounted s row number seen rs₁ n₁ (Ok next)) where
      -- the bank's terms with the candidate's
      abbrev midway : List Term
      midway = seen ++ terms_in (row_in s rs₁ next)

      abbrev begun : Built
      begun = made (row_in s rs₁ next) midway

      cuts_want : (e : TableFault) → CutsWant s rs₁ n₁ next h e → BuiltAs s row number h seen rs₂ n₂ (Err e)
      cuts_want BadMemory want = want
      cuts_want UnsafeStart want = want
      cuts_want NoSuchBranch want = want
      cuts_want NotWaiting want = want
      cuts_want NotOut want = want
      cuts_want HeightAboveBound want = want
      cuts_want NamesExhausted want = (begun, counted.0, want midway counted.1)
      cuts_want TermsExhausted want = (begun, counted.0, want midway counted.1)
      cuts_want Satisfiable want = want
      cuts_want NoRenaming want = want
      cuts_want UnsafeForm want = want
      cuts_want RowLimit want = want

      pub form_built : (a : Result RowRecord TableFault) → FormBuilt s rs₁ n₁ next h rs₂ n₂ a → BuiltAs s row number h seen rs₂ n₂ a
      form_built (Ok form) f =
          let end = f.is midway counted.1 in
          (end.0, (begun, counted.0, end.2), end.1, record { inside = f.inside; closed = closed_form h begun (row_in s rs₂ form) end.0 end.2 })
      form_built (Err e) f = ⊎_elim (λ no'. absurd (no'.1 sound)) (λ no'. cuts_want e no'.1) f.2
