use Rattle.std.proofs.Common.{ℕ, get_or, sym, rules}
use Rattle.sheet.specs.declared.syntax.Reading.{Reading}
use Rattle.sheet.specs.Runs.{or_kept, numbered}
use Rattle.sheet.specs.View.{sheet_of}
use Rattle.sheet.proofs.Arrays.{begins}
use Rattle.sheet.proofs.Fewness.{few_readings}
use Rattle.sheet.proofs.Numbering.{numbered-length}
use Rattle.bench.proofs.Filling.{begins_same}
use Rattle.bench.proofs.readings.next_readings.Goals as goal

pub returns : goal.returns
returns c =
    let next : ℕ → Reading → ℕ = λ n r. or_kept (λ k. get_or c.args.values.now (get_or c.args.chosen.now k 0) 0) (get_or c.args.old.now n 0) r.next in
    let s = sheet_of c.args.sheet.now in
    let long = sym (numbered-length next 0 s.readings) in
    begins_same 0 c.from_fn.result (numbered next 0 s.readings) _ long (begins (numbered next 0 s.readings) 0 (λ k y q call. search rules) c.from_fn.result 6 c.from_fn.ensures.items _ long (few_readings s c.args.sheet.now.lawful))
