use Rattle.std.proofs.Common.{◌<◌, length, refl, ap, rules, tests, arith}
use Rattle.std.proofs.lemmas.List.{get_or_read_under}
use Rattle.std.proofs.lemmas.Iterator.{YieldsList-from_slice}
use Rattle.std.proofs.lemmas.Iterator.Adapters.{serves_from_places}
use Rattle.closure.specs.Labels.{no_condition}
use Rattle.closure.proofs.deciding.Question.is_broken.Goals as goal

pub any-requires-clause-callable : goal.any-requires-clause-callable
any-requires-clause-callable c =
    let q = c.args.self.now in
    serves_from_places (YieldsList-from_slice q.conditions.now cc) (λ x q e. search (rules, tests))
    (λ x k lt is.
    let here = get_or_read_under q.conditions.now k (length q.conditions.now) x.now no_condition is lt refl in
    let left : x.now.left < length c.args.labels.now = omega (arith, q.lefts k lt, ap (λ d. d.left) here) in
    let right : x.now.right < length c.args.labels.now = omega (arith, q.rights k lt, ap (λ d. d.right) here) in
    search (rules, tests))
