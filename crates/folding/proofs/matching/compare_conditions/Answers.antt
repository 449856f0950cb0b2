use Rattle.std.proofs.Common.{◌≡◌, length, take, Decides, subst, ◌∙◌, arith, rules}
use Rattle.std.specs.List.{AllByRecursion as All}
use Rattle.std.proofs.lemmas.List.{length-take-le}
use Rattle.std.proofs.lemmas.Result.{err_from_is_err_and}
use Rattle.terms.specs.Terms.{Entails}
use Rattle.closure.specs.Labels.{literals}
use Rattle.folding.specs.declared.change.Change.TheVariants.{Rename}
use Rattle.folding.specs.Rewriting.{ConditionsChanged}
use Rattle.folding.proofs.Entailed.{between_taken, front_taken}
use Rattle.folding.proofs.RowPasses.{known_none}
use Rattle.folding.proofs.Weighing.{weighed, unweighed, decided_back}
use Rattle.folding.proofs.matching.compare_conditions.Goals as goal

pub invariant_of-rewriting-clause-is_known : goal.invariant_of-rewriting-clause-is_known
invariant_of-rewriting-clause-is_known c = known_none c.args.bank.now c.args.count.now.terms (Rename c.args.renaming.now.to) 512

pub returns-in_err-rewrite_conditions-clause-answer : goal.returns-in_err-rewrite_conditions-clause-answer
returns-in_err-rewrite_conditions-clause-answer c =
    let rs = c.args.bank.now in
    let older = c.args.older.now in
    let form = c.args.form.now in
    let end = c.rewrite_conditions.new.self in
    let p = err_from_is_err_and c.from_residual.result c.from_residual.ensures.1 in
    rw (p.1, p.2)
    (unweighed rs c.args.count.now.terms c.args.renaming.now (take older.used older.conditions) end.bank.now end.count.now.terms c.in_err-rewrite_conditions.field-0.0 c.in_err-rewrite_conditions.ensures.changed (literals rs (take form.used form.conditions)))

pub returns-clause-answer : goal.returns-clause-answer
returns-clause-answer c =
    let rs = c.args.bank.now in
    let n = c.args.count.now.terms in
    let older = c.args.older.now in
    let form = c.args.form.now in
    let end = c.rewrite_conditions.new.self in
    let new = c.rewrite_conditions.new.conditions in
    let old = take older.used older.conditions in
    let given = take form.used form.conditions in
    let h : ConditionsChanged rs n (Rename c.args.renaming.now.to) old new end.bank.now end.count.now.terms = c.in_ok-rewrite_conditions.ensures.changed in
    let same : length new ≡ length old = c.rewrite_conditions.auto.conditions in
    weighed rs n c.args.renaming.now old new end.bank.now end.count.now.terms h same given (between_taken n n form.conditions form.used (omega arith) c.requires.form) c.are_entailed.result
    (subst (λ cs. Decides c.are_entailed.result (All (Entails (literals end.bank.now given)) (literals end.bank.now cs))) (front_taken older.used new _ (same ∙ length-take-le older.used older.conditions c.requires.stored))
    (decided_back _ _ _ _ _ c.are_entailed.ensures (search rules)))
