use Rattle.std.proofs.Common.{◌≡◌, true, false, rules, tests, arith}
use Rattle.std.proofs.lemmas.Iterator.{first_from_Range}
use Rattle.rows.specs.Names.{is_in}
use Rattle.rows.proofs.Sets.{lowest_is}
use Rattle.rows.proofs.name_sets.lowest_free.Goals as goal

pub returns : goal.returns
returns c =
    let taken = is_in c.args.names in
    lowest_is taken c.find.result
    (first_from_Range _ _ _ _ (λ x. taken x ≡ false) (λ x. taken x ≡ true) c.find.ensures.ran
    (λ x q k. grind (arith, tests))
    (λ x q k. (search rules, grind (arith, tests))))
