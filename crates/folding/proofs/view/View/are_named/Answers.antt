use Rattle.std.proofs.Common.{◌≡◌, ◌<◌, Bool, true, List, [], ◌∷◌, length, map, Decides, refl, sym, ap, subst, rules, tests, arith}
use Rattle.std.specs.List.{AllByRecursion as All, list_all}
use Rattle.std.proofs.lemmas.Bool.{and_parts, and_from}
use Rattle.std.proofs.lemmas.Iterator.Search.{all_from_yields_List}
use Rattle.terms.specs.declared.Condition.{Condition}
use Rattle.terms.specs.Terms.{Literal}
use Rattle.terms.specs.Bank.{literal_of}
use Rattle.forms.specs.Form.{is_named}
use Rattle.std.proofs.lemmas.List.{get_or_read_under}
use Rattle.std.proofs.lemmas.Iterator.{YieldsList-from_slice}
use Rattle.std.proofs.lemmas.Iterator.Adapters.{serves_from_places}
use Rattle.closure.specs.Labels.{literals, no_condition}
use Rattle.folding.proofs.view.View.are_named.Goals as goal

pub all-requires-clause-callable : goal.all-requires-clause-callable
all-requires-clause-callable c =
    let cs = c.args.conditions.now in
    let n = c.args.self.now.count.terms in
    serves_from_places (YieldsList-from_slice cs cc) (λ x q e. search (rules, tests))
    (λ x k lt is.
    let here = get_or_read_under cs k (length cs) x.now no_condition is lt refl in
    let left : x.now.left < n = omega (arith, c.requires.lefts k lt, ap (λ d. d.left) here) in
    let right : x.now.right < n = omega (arith, c.requires.rights k lt, ap (λ d. d.right) here) in
    search (rules, tests))

all_decided : (test : Literal → Bool) (f : Condition → Literal) (cs : List Condition) → Decides (list_all (λ d. test (f d)) cs) (All (λ l. test l ≡ true) (map f cs))
all_decided test f [] = (λ _. tt, λ _. refl)
all_decided test f (d ∷ cs) =
    let r = all_decided test f cs in (λ e. let p = and_parts _ _ e in (p.0, r.0 p.1), λ h. and_from _ _ h.0 (r.1 h.1))

pub returns : goal.returns
returns c vector h =
    let rs = c.args.self.now.records.now in
    let cs = c.args.conditions.now in
    let is = all_from_yields_List (λ d. is_named vector (literal_of rs d)) _ _ c.all.result c.all.ensures.ran (YieldsList-from_slice cs cc) (λ x b q k. search (rules, tests)) in
    subst (λ b. Decides b (All (λ l. is_named vector l ≡ true) (literals rs cs))) (sym is) (all_decided (is_named vector) (literal_of rs) cs)
