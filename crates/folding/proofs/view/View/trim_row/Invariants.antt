use Rattle.sheet.specs.View.{sheet_of}
use Rattle.rows.specs.Records.{row_in}
use Rattle.folding.proofs.Dropping.{Trimming}
use Rattle.folding.proofs.view.View.trim_row.Given as goal

abbrev pub invariant-loop-condition : goal.invariant-loop-condition
invariant-loop-condition l =
    Trimming l.self.records.now l.self.count.terms l.height (row_in (sheet_of l.sheet) l.self.records.now l.fn.row).vector l.condition-items l.conditions l.used l.condition-index
