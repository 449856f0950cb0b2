use Rattle.std.proofs.Common.{◌<◌, length, map, get_or, sym, ap, ◌∙◌, arith}
use Rattle.std.proofs.lemmas.List.{get_or-map, get_or-set_other, length-set}
use Rattle.sheet.specs.Runs.{start_value, start_reading}
use Rattle.sheet.specs.System.{no_reading}
use Rattle.sheet.specs.Truth.{Meaning}
use Rattle.sheet.specs.View.{sheet_of}
use Rattle.sheet.proofs.Fewness.{few_readings}
use Rattle.bench.proofs.Filling.{filled_more}
use Rattle.bench.proofs.readings.start_readings.Goals as goal

pub loop-k-preserved : goal.loop-k-preserved
loop-k-preserved g c =
    let old = c.loop-k.invariant in
    let readings = c.as_slice-readings.result.now in
    let start = start_reading (g.M.Model.meaning c.args.model.now) c.args.starts.now in
    let k = c.loop-k.k in
    let v = c.start_value.result in
    let room : k < length c.loop-k.out = omega (arith, old.long, few_readings (sheet_of c.args.sheet.now) c.args.sheet.now.lawful, ap length c.as_slice-readings.ensures.value) in
    let is = c.start_value.ensures.answer ∙ (ap (λ (f : Meaning). start_value f c.args.starts.now (get_or readings k no_reading).start) old.kept.0 ∙ sym (get_or-map start readings k no_reading 0 c.loop-k-test.true)) in
    record {
      long = length-set c.loop-k.out k v ∙ old.long;
      right = filled_more 0 c.loop-k.out (map start readings) k v room is old.right;
      rest = λ j h. get_or-set_other c.loop-k.out k j v 0 (λ e. omega (arith, e)) ∙ old.rest j (omega arith);
      kept = (c.start_value.ensures.kept.0 ∙ old.kept.0, c.start_value.ensures.kept.1 ∙ old.kept.1);
    }
