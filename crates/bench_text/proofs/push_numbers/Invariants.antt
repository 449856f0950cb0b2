use Rattle.std.proofs.Common.{◌≡◌, ◌++◌, drop, string_bytes}
use Rattle.bench_text.specs.Lines.{spaced}
use Rattle.bench_text.proofs.push_numbers.Given as goal

abbrev pub invariant-loop-number : goal.invariant-loop-number
invariant-loop-number l = string_bytes l.text ++ spaced (drop l.number-index l.numbers) ≡ string_bytes l.initial.text ++ spaced l.numbers
