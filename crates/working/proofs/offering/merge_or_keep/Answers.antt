use Rattle.std.proofs.Common.{subst, ◌∙◌, arith, length, refl}
use Rattle.rules.specs.declared.Answer.TheVariants.{Done, Refused}
use Rattle.rules.specs.declared.Call.TheVariants.{Merge, Keep}
use Rattle.rules.specs.declared.Mark.TheVariants.{Out}
use Rattle.rules.specs.Promises.{Answered}
use Rattle.table.specs.declared.ticket.Ticket.{Ticket}
use Rattle.table.specs.Answers.{branch_of, answer_of_offer}
use Rattle.table.proofs.Running.{keeps_more}
use Rattle.working.proofs.Offers.{marked_row, onward_first, merge_accepted, merge_refused, keep_made}
use Rattle.working.proofs.offering.merge_or_keep.Goals as goal

pub returns-in-Ok-clause-made : goal.returns-in-Ok-clause-made
returns-in-Ok-clause-made c = λ s limit at stands out.
    let b = branch_of c.args.ticket in
    let rows = marked_row c.args.table.now s limit at stands b Out out in
    let many = c.rows-target-end.ensures.rows s limit at stands in
    let on = c.loop-target.invariant.onward s limit at stands out in
    let w = c.in-Ok.ensures.performs s limit at on.0 in
    let answered = subst (λ (k : Ticket). Answered s limit at (Merge (branch_of k) c.loop-target.target c.bound-height.result) Done w.0) c.loop-target.invariant.same w.1 in
    merge_accepted s limit at b (length at.rows) c.bound-height.result (c.bound-height.ensures.bound s limit at stands (omega (arith, rows))) c.loop-target.target w.0 c.merge.new.self (omega (arith, many, c.loop-target-test.true)) answered on.1 w.2

pub loop-target-preserved : goal.loop-target-preserved
loop-target-preserved c = record {
  same = c.in-Err.ensures.unspent ∙ c.loop-target.invariant.same;
  onward = λ s limit at stands out.
      (let b = branch_of c.args.ticket in
      let rows = marked_row c.args.table.now s limit at stands b Out out in
      let many = c.rows-target-end.ensures.rows s limit at stands in
      let on = c.loop-target.invariant.onward s limit at stands out in
      let w = c.in-Err.ensures.performs s limit at on.0 in
      let answered = subst (λ (k : Ticket). Answered s limit at (Merge (branch_of k) c.loop-target.target c.bound-height.result) (Refused c.in-Err.field-0.fault) w.0) c.loop-target.invariant.same w.1 in
      merge_refused s limit at b (length at.rows) c.bound-height.result (c.bound-height.ensures.bound s limit at stands (omega (arith, rows))) c.loop-target.target c.in-Err.field-0.fault w.0 c.merge.new.self (omega (arith, many, c.loop-target-test.true)) answered on.1 w.2);
  memory = keeps_more c.args.table.now c.loop-target.table c.merge.new.self c.loop-target.invariant.memory c.in-Err.ensures.memory;
}

pub returns-clause-made : goal.returns-clause-made
returns-clause-made c = λ s limit at stands out.
    let b = branch_of c.args.ticket in
    let rows = marked_row c.args.table.now s limit at stands b Out out in
    let many = c.rows-target-end.ensures.rows s limit at stands in
    let on = c.loop-target.invariant.onward s limit at stands out in
    let w = c.keep.ensures.performs s limit at on.0 in
    let answered = subst (λ (k : Ticket). Answered s limit at (Keep (branch_of k) c.bound-height.result) (answer_of_offer c.keep.result) w.0) c.loop-target.invariant.same w.1 in
    keep_made s limit at b (length at.rows) c.bound-height.result (c.bound-height.ensures.bound s limit at stands (omega (arith, rows))) c.loop-target.target c.keep.result w.0 c.keep.new.self (omega (arith, many, c.loop-target-test.false)) answered on.1 w.2

pub returns-in-Ok-clause-memory : goal.returns-in-Ok-clause-memory
returns-in-Ok-clause-memory c = keeps_more c.args.table.now c.loop-target.table c.merge.new.self c.loop-target.invariant.memory c.in-Ok.ensures.memory

pub returns-clause-memory : goal.returns-clause-memory
returns-clause-memory c = keeps_more c.args.table.now c.loop-target.table c.keep.new.self c.loop-target.invariant.memory c.keep.ensures.memory

pub loop-target-init : goal.loop-target-init
loop-target-init c = record {
  same = refl;
  onward = λ s limit at stands out. (stands, onward_first s limit at _);
  memory = record { bank = refl; rows = refl; marks = refl; work = refl };
}
