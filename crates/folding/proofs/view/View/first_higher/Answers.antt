use Rattle.std.proofs.Common.{◌<◌, refl, arith, rules, tests}
use Rattle.std.proofs.lemmas.List.{get_or_read_under}
use Rattle.std.proofs.lemmas.Iterator.{YieldsList-from_slice}
use Rattle.std.proofs.lemmas.Iterator.Adapters.{serves_from_places}
use Rattle.std.proofs.lemmas.Iterator.Consumers.{YieldsList-from_copied}
use Rattle.std.proofs.lemmas.Iterator.Search.{find_from_yields_List}
use Rattle.folding.proofs.Descending.{is_higher, found}
use Rattle.folding.proofs.view.View.first_higher.Goals as goal

pub find-requires-clause-callable : goal.find-requires-clause-callable
find-requires-clause-callable c =
    let ps = c.args.places.now in
    serves_from_places (YieldsList-from_copied (YieldsList-from_slice ps cc)) (λ x q e. search (rules, tests))
    (λ x k lt is.
    let inside : x < c.args.self.now.count.terms = omega (arith, c.requires k lt, get_or_read_under ps k _ x 0 is lt refl) in
    search (rules, tests))

pub returns : goal.returns
returns c =
    let rs = c.args.self.now.records.now in
    let ps = c.args.places.now in
    let is = find_from_yields_List (is_higher rs c.args.bound) _ _ c.find.result c.find.ensures.ran (YieldsList-from_copied (YieldsList-from_slice ps cc)) (λ x b q k. search (rules, tests)) in
    found rs c.args.self.now.count.terms c.args.self.now.is_bank c.args.bound ps c.requires c.find.result is
