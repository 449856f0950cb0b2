use Rattle.sheet.specs.View.{sheet_of}
use Rattle.rows.specs.Records.{row_in}
use Rattle.forms.proofs.Shrinking.{sizes}
use Rattle.folding.proofs.Cuts.{Midway}
use Rattle.folding.proofs.cutting.cut.Given as goal

abbrev pub invariant-loop-place : goal.invariant-loop-place
invariant-loop-place l = Midway (sheet_of l.sheet) l.initial.bank l.initial.count.terms l.initial.made l.bound l.bank l.count.terms l.made

abbrev pub decreases-loop-place : goal.decreases-loop-place
decreases-loop-place l = sizes (row_in (sheet_of l.sheet) l.bank l.made).vector
