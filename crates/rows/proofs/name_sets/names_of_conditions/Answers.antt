use Rattle.rows.proofs.Sets.{literals_step}
use Rattle.rows.proofs.name_sets.names_of_conditions.Goals as goal

pub loop-condition-preserved : goal.loop-condition-preserved
loop-condition-preserved c n bank inside =
    let k = c.loop-condition.condition-index in
    literals_step c.args.bank.now n bank c.args.conditions.now k c.loop-condition.names c.names_of_condition-names.result c.loop-condition-test.true (inside.lefts k c.loop-condition-test.true) (inside.rights k c.loop-condition-test.true) (c.loop-condition.invariant n bank inside) c.names_of_condition-names.ensures
