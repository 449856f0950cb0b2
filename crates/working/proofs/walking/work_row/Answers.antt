use Rattle.std.proofs.Common.{◌<◌, None, Some, sym, ◌∙◌, arith, refl}
use Rattle.rules.specs.Standing.{branches}
use Rattle.table.proofs.Running.{keeps_more}
use Rattle.working.proofs.Walks.{row_on, row_past, row_done, row_begun, waits_true, waits_false}
use Rattle.working.proofs.walking.work_row.Goals as goal

pub loop-number-init : goal.loop-number-init
loop-number-init c = (record { bank = refl; rows = refl; marks = refl; work = refl }, λ s limit at stands row. row_begun s limit at c.args.row c.args.table.now stands)

pub loop-number-preserved-then-not-waits : goal.loop-number-preserved-then-not-waits
loop-number-preserved-then-not-waits c = (
  c.loop-number.invariant.0,
  λ s limit at stands row.
      (let r = c.loop-number.invariant.1 s limit at stands row in
      let many = c.branches_per_row-number-end.ensures.branches s limit at stands (omega (arith, row)) in
      let few : c.loop-number.number < branches s = omega (arith, many, c.loop-number-test.true) in
      let there = c.waits.ensures.there s limit r.mid r.stands (let g = r.more in omega (arith, row, g)) few in
      let other = waits_false _ there (sym (c.waits.ensures.waits s limit r.mid r.stands) ∙ c.if-not-waits.true) in
      row_past s limit at c.args.row c.loop-number.number few c.loop-number.table r other.mark other.is other.other),
)

pub returns-in-Some-clause-worked : goal.returns-in-Some-clause-worked
returns-in-Some-clause-worked c = λ s limit at stands row.
    let r = c.loop-number.invariant.1 s limit at stands row in
    let many = c.branches_per_row-number-end.ensures.branches s limit at stands (omega (arith, row)) in
    let few : c.loop-number.number < branches s = omega (arith, many, c.loop-number-test.true) in
    let waits = waits_true _ (sym (c.waits.ensures.waits s limit r.mid r.stands) ∙ c.if-not-waits.false) in
    row_on s limit at c.args.row c.loop-number.number few c.loop-number.table c.work_branch.new.table (Some c.in-Some.outcome) r (c.in-Some.ensures.worked s limit r.mid r.stands waits)

pub loop-number-preserved : goal.loop-number-preserved
loop-number-preserved c = (
  keeps_more c.args.table.now c.loop-number.table c.work_branch.new.table c.loop-number.invariant.0 c.in_default.ensures.memory,
  λ s limit at stands row.
      (let r = c.loop-number.invariant.1 s limit at stands row in
      let many = c.branches_per_row-number-end.ensures.branches s limit at stands (omega (arith, row)) in
      let few : c.loop-number.number < branches s = omega (arith, many, c.loop-number-test.true) in
      let waits = waits_true _ (sym (c.waits.ensures.waits s limit r.mid r.stands) ∙ c.if-not-waits.false) in
      row_on s limit at c.args.row c.loop-number.number few c.loop-number.table c.work_branch.new.table None r (c.in_default.ensures.worked s limit r.mid r.stands waits)),
)

pub returns-clause-worked : goal.returns-clause-worked
returns-clause-worked c = λ s limit at stands row.
    let many = c.branches_per_row-number-end.ensures.branches s limit at stands (omega (arith, row)) in
    row_done s limit at c.args.row c.loop-number.number c.loop-number.table (omega (arith, many, c.loop-number-test.false)) (c.loop-number.invariant.1 s limit at stands row)

pub returns-in-Some-clause-memory : goal.returns-in-Some-clause-memory
returns-in-Some-clause-memory c = keeps_more c.args.table.now c.loop-number.table c.work_branch.new.table c.loop-number.invariant.0 c.in-Some.ensures.memory

pub returns-clause-memory : goal.returns-clause-memory
returns-clause-memory c = c.loop-number.invariant.0
