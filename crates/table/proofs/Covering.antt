-- Whether the older row takes the form, from what building it and matching it answer.
use Rattle.std.proofs.Common.{◌≡◌, ℕ, List, length, Some, None, Ok, Err, Option, Result, ⊎_elim, inr, sym, ◌∙◌, subst}
use Rattle.fault.specs.declared.TableFault.{TableFault}
use Rattle.fault.specs.declared.TableFault.TheVariants.{TermsExhausted, NoRenaming}
use Rattle.sheet.specs.System.{System}
use Rattle.terms.specs.Terms.{Term}
use Rattle.terms.specs.declared.TermRecord.{TermRecord}
use Rattle.terms.specs.Bank.{Extends}
use Rattle.forms.specs.Rows.{Row}
use Rattle.rows.specs.declared.row.RowRecord.{RowRecord}
use Rattle.rows.specs.Records.{row_in}
use Rattle.folding.specs.declared.renaming.Renaming.{Renaming}
use Rattle.folding.specs.Matched.{Closed, Found, Matched, sends}
use Rattle.folding.specs.Matched as Matching
use Rattle.table.specs.Offers.{Workable, Comparable, BuiltAs, Covered}
use Rattle.table.proofs.Staying.{row_stays, inside_more}

module _ (s : System) (rs rs₁ : List TermRecord) (n n₁ : ℕ) (r o form : RowRecord) (number h : ℕ) (labels : List ℕ) (seen : List Term) where
  module _ (work : Workable s rs n r number labels) (standing : Comparable s rs n o) (e : Extends rs n rs₁ n₁) (long : length rs₁ ≡ length rs) (built : BuiltAs s (row_in s rs r) number h seen rs₁ n₁ (Ok form)) where
    same : row_in s rs₁ o ≡ row_in s rs o
    same = row_stays s rs rs₁ n 16 o e.stays standing.inside

    -- the two rows can be compared
    comparable : Matching.Comparable s rs₁ n₁ o form labels
    comparable =
        let long' : length rs₁ ≡ 512 = long ∙ work.sound.long in
        record {
          older = record { bank = e.bank; long = long'; row = inside_more s n n₁ 16 o e.more standing.inside };
          form = record { bank = e.bank; long = long'; row = built.3.inside };
          labelled = work.labelled;
          closed = subst Closed (sym same) standing.closed;
        }

    covered_as : (a : Result Unit TableFault) → Covered s (row_in s rs r) number (row_in s rs₁ o) h seen a → Covered s (row_in s rs r) number (row_in s rs o) h seen a
    covered_as a c = subst (λ (x : Row). Covered s (row_in s rs r) number x h seen a) same c

    abbrev FoundHere : Option Renaming → Type 0
    FoundHere found = Found (row_in s rs₁ o) (row_in s rs₁ form) found

    module _ (found : Option Renaming) (m : Matched s rs₁ n₁ o form labels (Ok found)) where
      pub taken : (by : Renaming) → found ≡ Some by → Covered s (row_in s rs r) number (row_in s rs o) h seen (Ok tt)
      taken by is = covered_as (Ok tt) (row_in s rs₁ form, built.0, built.1, λ to fits. m.1 to fits built.0 built.2, (sends by, subst FoundHere is m.2))

      pub untaken : found ≡ None → Covered s (row_in s rs r) number (row_in s rs o) h seen (Err NoRenaming)
      untaken is = covered_as (Err NoRenaming) (row_in s rs₁ form, built.0, built.1, λ to fits. m.1 to fits built.0 built.2, subst FoundHere is m.2)

    pub unmatched : (fault : TableFault) → Matched s rs₁ n₁ o form labels (Err fault) → Covered s (row_in s rs r) number (row_in s rs o) h seen (Err fault)
    unmatched fault m =
        ⊎_elim (λ no'. absurd (no'.1 comparable))
        (λ no'. subst (λ (f : TableFault). Covered s (row_in s rs r) number (row_in s rs o) h seen (Err f)) (sym no'.0)
        (covered_as (Err TermsExhausted) (inr (row_in s rs₁ form, built.0, built.1, (no'.2.to, no'.2.fits, no'.2.crowded built.0 built.2))))) m
