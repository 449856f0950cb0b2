use Rattle.std.proofs.Common.{◌/◌, ◌%◌, ◌^◌, false, eqb, rules, arith}
use Rattle.sheet.proofs.Arrays.{made}
use Rattle.candidates.proofs.Filling.{answers_from_bits}
use Rattle.candidates.proofs.answers.answers_of.Goals as goal

pub returns : goal.returns
returns c count few =
    answers_from_bits c.from_fn.result count c.args.branch (search rules) (λ k lt. made _ _ (λ k. eqb (c.args.branch / 2 ^ k % 2) 1) (λ k y q step. search rules) _ 6 c.from_fn.ensures.items k false (omega arith))
