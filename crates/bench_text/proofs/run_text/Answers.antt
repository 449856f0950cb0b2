use Rattle.std.proofs.lemmas.Result.{IfOk-weaker}
use Rattle.bench_text.specs.Report.{refused}
use Rattle.run_file.specs.Reading.{run_of}
use Rattle.bench_text.proofs.run_text.Goals as goal

pub returns-in-Ok : goal.returns-in-Ok
returns-in-Ok g c =
    let run = run_of c.args.run.now in
    let done = rw (c.as_slice-starts.ensures.value, c.as_slice-inputs.ensures.value) at c.in-Ok.ensures.answer in
    IfOk-weaker c.ending.result _ _ (λ t is. is (g.M.Model.meaning c.args.model.now) run.starts run.inputs done.0 done.1) c.ending.ensures

pub returns-in-Err : goal.returns-in-Err
returns-in-Err g c =
    let done = rw (c.as_slice-starts.ensures.value, c.as_slice-inputs.ensures.value) at c.in-Err.ensures.answer in
    IfOk-weaker c.fault_line.result _ _ (λ t is. refused c.in-Err.fault done.0 is) c.fault_line.ensures
