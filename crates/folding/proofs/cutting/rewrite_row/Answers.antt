use Rattle.std.proofs.Common.{take, subst, rules}
use Rattle.std.proofs.lemmas.Result.{err_from_is_err_and}
use Rattle.sheet.specs.View.{sheet_of}
use Rattle.terms.proofs.Filing.{extends_none}
use Rattle.folding.specs.Rewriting.{NoRoom, PlacesChanged, ConditionsChanged, side_places}
use Rattle.folding.proofs.RowPasses.{known_none, vector_broken, conditions_broken, row_changed, refused_back, row_changed_back}
use Rattle.folding.proofs.cutting.rewrite_row.Goals as goal

pub invariant_of-rewriting-clause-is_known : goal.invariant_of-rewriting-clause-is_known
invariant_of-rewriting-clause-is_known c = known_none c.args.bank.now c.args.count.now.terms c.args.change.now 512

pub returns-in_err-rewrite_places : goal.returns-in_err-rewrite_places
returns-in_err-rewrite_places c =
    let rs = c.args.bank.now in
    let n = c.args.count.now.terms in
    let e = c.in_err-rewrite_places.field-0.0 in
    let end = c.rewrite_places.new.self in
    let p = err_from_is_err_and c.from_residual.result c.from_residual.ensures.1 in
    rw (p.1, p.2)
    (refused_back _ _ _ _ _ _ _ _ (vector_broken rs n c.args.change.now c.requires.suits rs n (extends_none rs n c.requires.sound.bank) (sheet_of c.args.sheet.now) c.args.row c.requires.sound.row e end.bank.now end.count.now.terms
    (subst (λ k. NoRoom rs n c.args.change.now (take k c.args.row.vector) end.bank.now end.count.now.terms e) c.readings_of-readings.ensures c.in_err-rewrite_places.ensures.changed)) (search rules) (search rules))

pub returns-in_err-rewrite_conditions : goal.returns-in_err-rewrite_conditions
returns-in_err-rewrite_conditions c =
    let rs = c.args.bank.now in
    let n = c.args.count.now.terms in
    let e = c.in_err-rewrite_conditions.field-0.0 in
    let half = c.rewrite_places.new.self in
    let end = c.rewrite_conditions.new.self in
    let h = subst (λ k. PlacesChanged rs n c.args.change.now (take k c.args.row.vector) c.rewrite_places.new.places half.bank.now half.count.now.terms) c.readings_of-readings.ensures c.in_ok-rewrite_places.ensures.changed in
    let q = err_from_is_err_and c.from_residual-in_err-rewrite_conditions.result c.from_residual-in_err-rewrite_conditions.ensures.1 in
    rw (q.1, q.2)
    (refused_back _ _ _ _ _ _ _ _ (conditions_broken rs n c.args.change.now c.requires.suits half.bank.now half.count.now.terms h.gained.extends (sheet_of c.args.sheet.now) c.args.row c.requires.sound.row c.rewrite_places.new.places (rw c.readings_of-readings.ensures at c.rewrite_places.auto.places) h e end.bank.now end.count.now.terms
    (subst (λ change. NoRoom half.bank.now half.count.now.terms change (side_places (take c.args.row.used c.args.row.conditions)) end.bank.now end.count.now.terms e) c.rewrite_places.ensures.change c.in_err-rewrite_conditions.ensures.changed)) (search rules) (search rules))

pub returns : goal.returns
returns c =
    let rs = c.args.bank.now in
    let n = c.args.count.now.terms in
    let half = c.rewrite_places.new.self in
    let end = c.rewrite_conditions.new.self in
    let conditions = c.rewrite_conditions.new.conditions in
    let h = subst (λ k. PlacesChanged rs n c.args.change.now (take k c.args.row.vector) c.rewrite_places.new.places half.bank.now half.count.now.terms) c.readings_of-readings.ensures c.in_ok-rewrite_places.ensures.changed in
    rw c.readings_of-readings.ensures
    (row_changed_back _ _ _ _ _ _ _ _ _ _ (row_changed rs n c.args.change.now c.requires.suits half.bank.now half.count.now.terms h.gained.extends (sheet_of c.args.sheet.now) c.args.row c.requires.sound.row c.rewrite_places.new.places (rw c.readings_of-readings.ensures at c.rewrite_places.auto.places) h
    conditions c.rewrite_conditions.auto.conditions end.bank.now end.count.now.terms
    (subst (λ change. ConditionsChanged half.bank.now half.count.now.terms change (take c.args.row.used c.args.row.conditions) conditions end.bank.now end.count.now.terms) c.rewrite_places.ensures.change c.in_ok-rewrite_conditions.ensures.changed)) (search rules) (search rules))
