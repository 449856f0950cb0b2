use Rattle.std.proofs.Common.{◌≡◌, length, subst, refl, sym, Some}
use Rattle.rules.specs.declared.Mark.TheVariants.{Out}
use Rattle.rules.specs.Standing.{Standing, mark_of}
use Rattle.table.specs.declared.ticket.Ticket.{Ticket}
use Rattle.table.specs.Answers.{branch_of}
use Rattle.table.specs.Standing.{Stands}
use Rattle.working.specs.Work.{Made, merges_and_keep, fault_of}
use Rattle.table.proofs.Running.{keeps_more}
use Rattle.working.proofs.Offers.{strike_accepted, strike_refused}
use Rattle.working.proofs.offering.settle.Goals as goal

pub returns-in-Ok-clause-tried : goal.returns-in-Ok-clause-tried
returns-in-Ok-clause-tried c = λ s limit at stands out.
    let w = c.in-Ok.ensures.performs s limit at stands in
    strike_accepted s limit at (branch_of c.args.ticket) (length at.rows) c.in-Ok.field-0 w.0 c.strike.new.self w.1 w.2

pub returns-in-Err-clause-tried : goal.returns-in-Err-clause-tried
returns-in-Err-clause-tried c = λ s limit at stands out.
    let b = branch_of c.args.ticket in
    let w = c.in-Err.ensures.performs s limit at stands in
    let same : c.in-Err.field-0.ticket ≡ c.args.ticket = c.in-Err.ensures.unspent in
    let still = subst (λ (z : Standing). Stands s limit c.strike.new.self z) w.1.1 w.2 in
    let made = c.merge_or_keep.ensures.made s limit at still (subst (λ (k : Ticket). mark_of at (branch_of k) ≡ Some Out) (sym same) out) in
    strike_refused s limit at b (length at.rows) c.in-Err.field-0.fault (fault_of c.merge_or_keep.result) c.merge_or_keep.new.table (w.1.0, refl)
    (subst (λ (k : Ticket). Made s limit at (merges_and_keep s (branch_of k) 0 (length at.rows)) (fault_of c.merge_or_keep.result) c.merge_or_keep.new.table) same made)

pub returns-in-Err-clause-memory : goal.returns-in-Err-clause-memory
returns-in-Err-clause-memory c = keeps_more c.args.table.now c.strike.new.self c.merge_or_keep.new.table c.in-Err.ensures.memory c.merge_or_keep.ensures.memory
