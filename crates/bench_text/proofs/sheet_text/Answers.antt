use Rattle.std.proofs.Common.{string_bytes}
use Rattle.std.proofs.lemmas.Result.{IfOk-weaker}
use Rattle.run_file.specs.Reading.{run_of}
use Rattle.sheet.specs.View.{sheet_of}
use Rattle.bench_text.specs.Report.{whole}
use Rattle.bench_text.proofs.Lasting.{failed_text}
use Rattle.bench_text.proofs.sheet_text.Goals as goal

pub returns-in-Ok : goal.returns-in-Ok
returns-in-Ok c = IfOk-weaker c.plant_text.result _ _ (λ t is. whole (sheet_of c.read.new.place) c.in-Ok.ensures.exact is) c.plant_text.ensures

pub returns : goal.returns
returns c = IfOk-weaker c.failure_line.result _ _ (λ t is. failed_text c.args.bytes.now (run_of c.args.run.now) (string_bytes t) c.in-Err.failure c.in-Err.ensures.exact is) c.failure_line.ensures
