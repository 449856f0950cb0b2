-- Whether a form is safe and a row is free, from what building and judging answer.
use Rattle.std.proofs.Common.{◌≡◌, ℕ, Bool, true, false, List, ◌++◌, Ok, Err, sym, subst, arith}
use Rattle.fault.specs.declared.TableFault.TheVariants.{RowLimit}
use Rattle.sheet.specs.System.{System}
use Rattle.terms.specs.Terms.{Term}
use Rattle.terms.specs.declared.TermRecord.{TermRecord}
use Rattle.banks.specs.Room.{Roomy}
use Rattle.forms.specs.Rows.{Row}
use Rattle.forms.specs.Counted.{made, claim_terms}
use Rattle.forms.specs.Safety.{Safe}
use Rattle.rules.specs.Rules.{BuildsFrom}
use Rattle.rows.specs.declared.row.RowRecord.{RowRecord}
use Rattle.rows.specs.Records.{row_in}
use Rattle.candidates.specs.Judged.{Judged}
use Rattle.candidates.specs.Outcome.{Kept}
use Rattle.folding.specs.Matched.{Closed}
use Rattle.table.specs.Offers.{BuiltAs, Proposed}
use Rattle.table.proofs.Staying.{row_stays, inside_more, holding_kept}

module _ (s : System) (row : Row) (number h : ℕ) (is_full : Bool) (seen : List Term) (rs : List TermRecord) (n : ℕ) (form : RowRecord) (built : BuiltAs s row number h seen rs n (Ok form)) where
  module _ (labels : List ℕ) (safe : Bool) (judged : Judged s rs n form labels (Ok safe)) (is : safe ≡ true) (rs' : List TermRecord) (n' : ℕ) where
    pub no_row_free : is_full ≡ true → Proposed s row number h is_full seen rs' n' (Err RowLimit)
    no_row_free full = ((row_in s rs form, built.0, built.1, judged.2 built.0 built.2, judged.1.decided.0 is), full)

    abbrev AsForm : Row → Type 0
    AsForm x = BuildsFrom s row number h seen (made x built.0) × Roomy (built.0 ++ claim_terms s x) × Safe s x × Closed x

    -- judging adds terms that leave again
    pub proposed : is_full ≡ false → Kept rs n rs' n' → Proposed s row number h is_full seen rs' n' (Ok form)
    proposed free kept =
        let same : row_in s rs' form ≡ row_in s rs form = row_stays s rs rs' n 16 form kept.records built.3.inside in
        let of : AsForm (row_in s rs' form) = subst AsForm (sym same) (built.1, judged.2 built.0 built.2, judged.1.decided.0 is, built.3.closed) in
        let inside = inside_more s n n' 16 form (omega (arith, kept.count)) built.3.inside in
        (built.0, of.0, of.1, of.2, free, holding_kept rs rs' n n' built.0 built.2 kept, record { inside = inside; closed = of.3 })
