use Rattle.std.proofs.Common.{◌≡◌, ◌++◌, drop, string_bytes}
use Rattle.sheet_text.specs.Lines.{numbers_of}
use Rattle.sheet_text.proofs.push_numbers.Given as goal

abbrev pub invariant-loop-b : goal.invariant-loop-b
invariant-loop-b l = string_bytes l.text ++ numbers_of (drop l.b-index l.body) ≡ string_bytes l.initial.text ++ numbers_of l.body
