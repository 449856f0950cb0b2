use Rattle.std.proofs.Common.{arith}
use Rattle.std.proofs.lemmas.List.{take_all}
use Rattle.rows.proofs.Sets.{terms_step}
use Rattle.rows.proofs.name_sets.names_of_terms.Goals as goal

pub loop-place-preserved : goal.loop-place-preserved
loop-place-preserved c n bank inside =
    let k = c.loop-place.place-index in
    terms_step c.args.bank.now n bank c.args.places.now k c.loop-place.names c.names_at-names.result c.loop-place-test.true (inside k c.loop-place-test.true) (c.loop-place.invariant n bank inside) c.names_at-names.ensures

pub returns : goal.returns
returns c n bank inside =
    let all = take_all c.loop-place.place-index c.args.places.now (omega arith) in
    rw all at (c.loop-place.invariant n bank inside)
