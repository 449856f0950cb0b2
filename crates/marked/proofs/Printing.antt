-- What is printed of the three sheets' bytes: they are read as their sheet and as no other, and its work comes to one line.
use Rattle.std.proofs.Common.{◌≡◌, ℕ, true, false, List, ◌++◌, sym, refl, ap, ◌∙◌, subst, arith, codes}
use Rattle.std.specs.Fmt.{decimal}
use Rattle.std.proofs.lemmas.Fmt.{decimal_digit}
use Rattle.forms.specs.Rows.{Row, first_row}
use Rattle.forms.specs.Safety.{Safe, Unsafe}
use Rattle.reader.specs.Law.{ReadAs}
use Rattle.rules.specs.declared.Entry.{Entry}
use Rattle.rules.specs.declared.Mark.TheVariants.{Waiting, Merged, Kept}
use Rattle.rules.specs.declared.Outcome.{Outcome}
use Rattle.rules.specs.Standing.{Standing, counts_of}
use Rattle.sheet.specs.System.{System}
use Rattle.verdict_text.specs.Checked.{SheetLine, Checked}
use Rattle.verdict_text.specs.Checked.SheetLine.{unsafe_start, worked}
use Rattle.verdict_text.specs.Checked.Checked.{faulty, whole}
use Rattle.verdict_text.specs.Lines.{line_of}
use Rattle.marked.specs.Sheets.{hopper, hopper_bound_0, hopper_without_m}
use Rattle.marked.specs.Works.{branch, calls_of, answers_of, Works, two_rows, one_row}
use Rattle.marked.specs.Printed.{Prints, PrintedLines}
use Rattle.marked.proofs.Reading.{hopper_read, bound_0_read, without_m_read}
use Rattle.marked.proofs.Holding.{holding}
use Rattle.marked.proofs.Ending.{bound_0_unknown, without_m_unknown}

not_unsafe : (s : System) (form : Row) → Safe s form → Unsafe s form → ⊥
not_unsafe s form safe u =
    let e : true ≡ false = sym (safe u.meaning u.configuration u.covers) ∙ u.broken in
    let z : ◌≡◌ {A = ℕ} 0 1 = cc in
    absurd (omega arith)

module _ (bytes : List ℕ) (s : System) (read : ReadAs bytes s) (work : List Entry) (outcome : Outcome) (at : Standing) (works : Works s work outcome at) where
  sheet_line : (line : List ℕ) → SheetLine s line → line ≡ line_of outcome (counts_of at)
  sheet_line line (unsafe_start bad is) = absurd (not_unsafe s (first_row s) works.opens bad)
  sheet_line line (worked safe calls answers end after through is) =
      let same = works.only calls answers end after through in
      is ∙ ap (λ o. line_of o (counts_of after)) same.one_outcome ∙ ap (λ t. line_of outcome (counts_of t)) same.one_standing

  only_line : (line : List ℕ) → Checked bytes line → line ≡ line_of outcome (counts_of at)
  only_line line (faulty f refused is) = absurd (refused.none s read.describe)
  only_line line (whole t told is) = sheet_line line (subst (λ r. SheetLine r line) (read.only t told.describe) is)

  prints : Prints bytes (line_of outcome (counts_of at))
  prints =
      record {
        checked = whole s read (worked works.opens (calls_of work) (answers_of work) outcome at works.worked refl);
        only = only_line;
      }

-- a digit that is printed is one byte
zero_is : decimal 0 ≡ codes "0"
zero_is = decimal_digit 0 (omega arith)

one_is : decimal 1 ≡ codes "1"
one_is = decimal_digit 1 (omega arith)

two_is : decimal 2 ≡ codes "2"
two_is = decimal_digit 2 (omega arith)

three_is : decimal 3 ≡ codes "3"
three_is = decimal_digit 3 (omega arith)

holds_is : line_of Outcome.Holds (counts_of (two_rows Merged Kept Merged Merged)) ≡ codes "holds rows 2 kept 1 merged 3 struck 0\n"
holds_is = λ i. (codes "holds rows " ++ two_is i) ++ ((codes " kept " ++ one_is i) ++ ((codes " merged " ++ three_is i) ++ ((codes " struck " ++ zero_is i) ++ codes "\n")))

unknown_is : line_of (Outcome.Unknown (branch 0 1)) (counts_of (one_row Merged Waiting)) ≡ codes "unknown row 0 branch 1\n"
unknown_is = λ i. (codes "unknown row " ++ zero_is i) ++ ((codes " branch " ++ one_is i) ++ codes "\n")

pub printed_lines : PrintedLines
printed_lines =
    record {
      hopper_line = subst (Prints _) holds_is (prints _ hopper hopper_read _ Outcome.Holds (two_rows Merged Kept Merged Merged) holding.works);
      bound_0_line = subst (Prints _) unknown_is (prints _ hopper_bound_0 bound_0_read _ (Outcome.Unknown (branch 0 1)) (one_row Merged Waiting) bound_0_unknown.works);
      without_m_line = subst (Prints _) unknown_is (prints _ hopper_without_m without_m_read _ (Outcome.Unknown (branch 0 1)) (one_row Merged Waiting) without_m_unknown.works);
    }
