use Rattle.std.proofs.Common.{◌≡◌, map, take, Some, None, subst}
use Rattle.std.proofs.lemmas.Result.{err_from_is_err_and}
use Rattle.sheet.specs.View.{sheet_of}
use Rattle.terms.specs.Bank.{term_at}
use Rattle.forms.specs.Form.{first_higher}
use Rattle.folding.proofs.Cuts.{midway_more, midway_refused, cut_smaller, cuts_end}
use Rattle.folding.proofs.cutting.cut.Goals as goal

pub loop-place-smaller : goal.loop-place-smaller
loop-place-smaller c =
    let first = subst (λ k. first_higher c.args.bound (map (term_at c.loop-place.bank) (take k c.loop-place.made.vector)) ≡ Some (term_at c.loop-place.bank c.in-Some.place)) c.readings_of-readings.ensures c.in-Some.ensures.1 in
    cut_smaller (sheet_of c.args.sheet.now) c.args.bank.now c.args.count.now.terms c.args.row c.args.bound c.loop-place.bank c.loop-place.count.terms c.loop-place.made c.loop-place.invariant (term_at c.loop-place.bank c.in-Some.place) first c.cut_once.new.bank c.cut_once.new.count.terms c.in_ok-made.made c.in_ok-made.ensures

pub loop-place-preserved : goal.loop-place-preserved
loop-place-preserved c =
    let first = subst (λ k. first_higher c.args.bound (map (term_at c.loop-place.bank) (take k c.loop-place.made.vector)) ≡ Some (term_at c.loop-place.bank c.in-Some.place)) c.readings_of-readings.ensures c.in-Some.ensures.1 in
    midway_more (sheet_of c.args.sheet.now) c.args.bank.now c.args.count.now.terms c.args.row c.args.bound c.loop-place.bank c.loop-place.count.terms c.loop-place.made c.loop-place.invariant (term_at c.loop-place.bank c.in-Some.place) first c.cut_once.new.bank c.cut_once.new.count.terms c.in_ok-made.made c.in_ok-made.ensures

pub returns-in_err-made : goal.returns-in_err-made
returns-in_err-made c =
    let p = err_from_is_err_and c.from_residual.result c.from_residual.ensures.1 in
    let first = subst (λ k. first_higher c.args.bound (map (term_at c.loop-place.bank) (take k c.loop-place.made.vector)) ≡ Some (term_at c.loop-place.bank c.in-Some.place)) c.readings_of-readings.ensures c.in-Some.ensures.1 in
    rw (p.1, p.2)
    (midway_refused (sheet_of c.args.sheet.now) c.args.bank.now c.args.count.now.terms c.args.row c.args.bound c.loop-place.bank c.loop-place.count.terms c.loop-place.made c.loop-place.invariant (term_at c.loop-place.bank c.in-Some.place) first c.cut_once.new.bank c.cut_once.new.count.terms c.in_err-made.field-0.0 c.in_err-made.ensures)

pub returns-in_default : goal.returns-in_default
returns-in_default c =
    let none = subst (λ k. first_higher c.args.bound (map (term_at c.loop-place.bank) (take k c.loop-place.made.vector)) ≡ None) c.readings_of-readings.ensures c.in_default.ensures in
    cuts_end (sheet_of c.args.sheet.now) c.args.bank.now c.args.count.now.terms c.args.row c.args.bound c.loop-place.bank c.loop-place.count.terms c.loop-place.made c.loop-place.invariant none
