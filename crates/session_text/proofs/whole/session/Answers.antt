use Rattle.std.proofs.Common.{string_bytes}
use Rattle.std.proofs.lemmas.Result.{IfOk-weaker}
use Rattle.sheet.specs.View.{sheet_of}
use Rattle.script.specs.Reading.{script_said}
use Rattle.session_text.specs.Session.{whole}
use Rattle.session_text.proofs.Telling.{failed_text}
use Rattle.session_text.proofs.whole.session.Goals as goal
use Rattle.session_text.proofs.whole.session.Goals.{in-Ok, in-Err}

pub returns : goal.returns
returns c = elim c.match-sheet_in.branch [
  | in-Ok w ↦ rw w.result-is (IfOk-weaker w.script_text.result _ _ (λ t told. whole (sheet_of w.in-Ok.field-0) w.in-Ok.ensures (told _ w.in-Ok.ensures)) w.script_text.ensures)
  | in-Err w ↦ rw w.result-is (IfOk-weaker w.failure_line.result _ _ (λ t is. failed_text c.args.sheet.now c.args.limit (script_said c.args.script.now) (string_bytes t) w.in-Err.failure w.in-Err.ensures is) w.failure_line.ensures)
]
