use Rattle.std.proofs.Common.{ℕ, Bool, false, get_or, sym, rules}
use Rattle.sheet.specs.declared.syntax.Bit.{Bit}
use Rattle.sheet.specs.Runs.{or_kept, numbered}
use Rattle.sheet.specs.View.{sheet_of}
use Rattle.sheet.proofs.Arrays.{begins}
use Rattle.sheet.proofs.Fewness.{few_bits}
use Rattle.sheet.proofs.Numbering.{numbered-length}
use Rattle.sheet.proofs.sheet.Sheet.next_bits.Goals as goal

pub returns : goal.returns
returns c =
    let next : ℕ → Bit → Bool = λ n b. or_kept (λ f. get_or c.args.truths.now f false) (get_or c.args.old.now n false) b.next in
    let bits = c.args.self.now.parts.bits.items in
    let filled = begins (numbered next 0 bits) false (λ k y q call. search rules) c.from_fn.result 16 c.from_fn.ensures.items _ (sym (numbered-length next 0 bits)) (few_bits (sheet_of c.args.self.now) c.args.self.now.lawful) in
    record { value = filled.0; rest = filled.1 }
