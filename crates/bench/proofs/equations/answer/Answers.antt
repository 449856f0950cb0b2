use Rattle.std.proofs.Common.{false, sym, rules}
use lib.ListN.{length-map}
use Rattle.sheet.specs.Truth.{equal, answers}
use Rattle.sheet.proofs.Arrays.{begins}
use Rattle.bench.proofs.Filling.{begins_same}
use Rattle.bench.proofs.equations.answer.Goals as goal

pub returns : goal.returns
returns g c =
    let all = answers c.args.values.now c.args.equations.now in
    let long = sym (length-map c.args.equations.now (equal c.args.values.now)) in
    begins_same false c.from_fn.result all _ long (begins all false (λ k y q call. search rules) c.from_fn.result g.row.N c.from_fn.ensures.items _ long c.requires)
