use Rattle.std.proofs.Common.{false, map, sym, rules}
use lib.ListN.{length-map}
use Rattle.sheet.specs.Runs.{start_bit}
use Rattle.sheet.specs.View.{sheet_of}
use Rattle.sheet.proofs.Arrays.{begins}
use Rattle.sheet.proofs.Fewness.{few_bits}
use Rattle.sheet.proofs.sheet.Sheet.start_bits.Goals as goal

pub returns : goal.returns
returns c =
    let bits = c.args.self.now.parts.bits.items in
    let filled = begins (map start_bit bits) false (λ k y q call. search rules) c.from_fn.result 16 c.from_fn.ensures.items _ (sym (length-map bits start_bit)) (few_bits (sheet_of c.args.self.now) c.args.self.now.lawful) in
    record { value = filled.0; rest = filled.1 }
