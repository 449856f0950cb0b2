-- What candidates and their conditions are for, from the laws of covering.
use Rattle.std.proofs.Common.{ℕ, List, length, take, Ok, Err, Result, sym, ◌∙◌, subst}
use Rattle.std.proofs.lemmas.List.{length-map, length-take-le}
use Rattle.fault.specs.declared.TableFault.{TableFault}
use Rattle.sheet.specs.Lawful.{Lawful}
use Rattle.sheet.specs.System.{System}
use Rattle.terms.specs.declared.TermRecord.{TermRecord}
use Rattle.terms.specs.Bank.{term_at}
use Rattle.terms.specs.Terms.{Sat}
use Rattle.forms.specs.Rows.{RowOf}
use Rattle.forms.specs.Laws.{CoversStep}
use Rattle.forms.proofs.Passing.{candidate_covers, impossible_branch}
use Rattle.rows.specs.declared.row.RowRecord.{RowRecord}
use Rattle.rows.specs.Records.{row_in, Inside}
use Rattle.candidates.specs.declared.conditions.Conditions.{Conditions}
use Rattle.candidates.specs.Outcome.{CandidateMade, CandidateCovering, ConditionsMade, ConditionsRefuting}
use Rattle.sheet.proofs.Fewness.{lawful_sheet}

row_shaped : (s : System) (rs : List TermRecord) (n most : ℕ) (row : RowRecord) → Inside s n most row → RowOf s (row_in s rs row)
row_shaped s rs n most row inside = length-map (take (length s.readings) row.vector) (term_at rs) ∙ length-take-le (length s.readings) row.vector inside.readings

module _ (s : System) (lawful : ∥ Lawful s ∥₁) (rs : List TermRecord) (n : ℕ) (row : RowRecord) (b : ℕ) (rs' : List TermRecord) (n' : ℕ) where
  pub candidate_covering : (r : Result RowRecord TableFault) → CandidateMade s rs n row b rs' n' r → CandidateCovering s rs row b rs' r
  candidate_covering (Ok r) made =
      let found = made.1 in
      subst (CoversStep s (row_in s rs row) b) (sym found.3.stands)
      (candidate_covers s (lawful_sheet s lawful) (row_in s rs row) (row_shaped s rs n 16 row made.0.sound.row) b made.0.branch found.0 found.1)
  candidate_covering (Err e) made = tt

  pub conditions_refuting : (r : Result Conditions TableFault) → ConditionsMade s rs n row b rs' n' r → ConditionsRefuting s rs row b rs' r
  conditions_refuting (Ok c) made = λ never. let found = made.1 in
      impossible_branch s (lawful_sheet s lawful) (row_in s rs row) (row_shaped s rs n 16 row made.0.sound.row) b made.0.branch found.0 found.1 (λ sat. never (subst Sat (sym found.3.literals) sat))
  conditions_refuting (Err e) made = tt
