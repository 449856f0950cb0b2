use Rattle.std.proofs.Common.{rules}
use Rattle.sheet.specs.View.{sheet_of}
use Rattle.sheet.proofs.Fewness.{lawful_sheet}
use Rattle.verdict_text.specs.Checked.Checked.{faulty, whole}
use Rattle.verdict_text.proofs.Saying.{if_ok, line_says}
use Rattle.verdict_text.proofs.verdict_line.Goals as goal

pub returns-in-Ok-clause-line : goal.returns-in-Ok-clause-line
returns-in-Ok-clause-line c = if_ok c.sheet_line.result _ _ (λ text line. whole (sheet_of c.read.new.place) c.in-Ok.ensures.exact line) c.sheet_line.ensures

pub returns-in-Ok-clause-holds : goal.returns-in-Ok-clause-holds
returns-in-Ok-clause-holds c =
    let s = sheet_of c.read.new.place in
    if_ok c.sheet_line.result _ _ (λ text line begins. record { sheet = s; read = c.in-Ok.ensures.exact; always = line_says s (lawful_sheet s c.read.new.place.lawful) _ line begins }) c.sheet_line.ensures

pub returns-in-Err-Fault-clause-line : goal.returns-in-Err-Fault-clause-line
returns-in-Err-Fault-clause-line c =
    let refused = rw c.in-Err-Fault.field-0-is at c.in-Err-Fault.ensures in
    if_ok c.format.result _ _ (λ text is. faulty c.in-Err-Fault.fault refused.exact (search rules)) c.format.ensures.ok
