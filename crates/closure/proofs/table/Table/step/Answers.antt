use Rattle.std.proofs.Common.{arith}
use Rattle.closure.proofs.Merging.{grown_more}
use Rattle.closure.proofs.Visiting.{joins_few}
use Rattle.closure.proofs.table.Table.step.Goals as goal

pub returns-in-Some : goal.returns-in-Some
returns-in-Some c =
    let first = c.in-Some.ensures in
    record {
      grown = grown_more c.args.places.now.bank.now c.args.places.now.terms c.args.labels.now c.visit.new.labels c.propagate.new.labels 1 c.propagate.result first.grown c.propagate.ensures;
      seen = first.seen;
      swept = λ none _. absurd (omega (arith, none));
    }

pub overflow_add-result : goal.overflow_add-result
overflow_add-result c =
    omega (arith, joins_few c.args.places.now.bank.now c.args.places.now.terms c.visit.new.labels c.propagate.new.labels c.propagate.result c.propagate.ensures, c.args.places.now.few)
