use Rattle.std.proofs.Common.{◌≡◌, Some, None, subst, sym, refl, ap, length, ◌∙◌, arith}
use Rattle.rules.specs.declared.Answer.TheVariants.{Done}
use Rattle.rules.specs.declared.Branch.{Branch}
use Rattle.rules.specs.declared.Call.TheVariants.{GiveBack}
use Rattle.rules.specs.declared.Outcome.{Outcome}
use Rattle.rules.specs.declared.Mark.TheVariants.{Waiting}
use Rattle.rules.specs.Promises.{Answered}
use Rattle.rules.specs.Rules.{IsOut}
use Rattle.rules.specs.Standing.{Standing}
use Rattle.rules.specs.Working.{offers}
use Rattle.table.specs.declared.ticket.Ticket.{Ticket}
use Rattle.table.specs.Answers.{branch_of}
use Rattle.table.specs.Standing.{Stands}
use Rattle.table.proofs.Always.{always_stands}
use Rattle.working.specs.Work.{Ended, Made}
use Rattle.table.proofs.Running.{keeps_more}
use Rattle.working.proofs.Offers.{bound_there, marked_row, stays_refused}
use Rattle.working.proofs.Walks.{taken_never_refused, taken_out, branch_settled, branch_stopped, given_never_refused}
use Rattle.working.proofs.walking.work_branch.Goals as goal

pub returns-in_default-clause-worked : goal.returns-in_default-clause-worked
returns-in_default-clause-worked c = λ s limit at stands waits.
    let w = c.in_default.ensures.performs s limit at stands in
    taken_never_refused s limit at c.args.branch c.in_default.field-0 w.0 waits w.1

pub returns-in_default-settle-clause-worked : goal.returns-in_default-settle-clause-worked
returns-in_default-settle-clause-worked c = λ s limit at stands waits.
    let b = c.args.branch in
    let w = c.in-Ok.ensures.performs s limit at stands in
    let t = taken_out s limit at b (branch_of c.in-Ok.ticket) w.0 w.1 in
    let out = subst (λ (x : Branch). IsOut w.0 x) (sym t.named) t.is_out in
    let made = subst (λ (x : Branch). Made s limit w.0 (offers s x (length w.0.rows)) None c.settle.new.table) t.named (c.in_default-settle.ensures.tried s limit w.0 w.2 out) in
    branch_settled s limit at b (branch_of c.in-Ok.ticket) w.0 c.settle.new.table w.1 made

pub unreachable-requires : goal.unreachable-requires
unreachable-requires c =
    let there = always_stands c.args.table.now in
    let s = there.0 in
    let limit = there.1 in
    let at = there.2 in
    let w = c.in-Ok.ensures.performs s limit at there.3 in
    let t = taken_out s limit at c.args.branch (branch_of c.in-Ok.ticket) w.0 w.1 in
    let out = subst (λ (x : Branch). IsOut w.0 x) (sym t.named) t.is_out in
    let made = c.in-Err.ensures.tried s limit w.0 w.2 out in
    let still = subst (λ (z : Standing). Stands s limit c.settle.new.table z) (stays_refused made.offered c.in-Err.field-0.fault refl) made.stands in
    let back = c.in-Err-give_back.ensures.performs s limit w.0 still in
    given_never_refused s limit w.0 (branch_of c.in-Err.field-0.ticket) c.in-Err-give_back._refusal.fault back.0 (subst (λ (k : Ticket). IsOut w.0 (branch_of k)) (sym c.in-Err.ensures.unspent) out) back.1

pub returns-clause-worked : goal.returns-clause-worked
returns-clause-worked c = λ s limit at stands waits.
    let b = c.args.branch in
    let w = c.in-Ok.ensures.performs s limit at stands in
    let t = taken_out s limit at b (branch_of c.in-Ok.ticket) w.0 w.1 in
    let out = subst (λ (x : Branch). IsOut w.0 x) (sym t.named) t.is_out in
    let tried = c.in-Err.ensures.tried s limit w.0 w.2 out in
    let made = subst (λ (x : Branch). Made s limit w.0 (offers s x (length w.0.rows)) (Some c.in-Err.field-0.fault) c.settle.new.table) t.named tried in
    let still = subst (λ (z : Standing). Stands s limit c.settle.new.table z) (stays_refused tried.offered c.in-Err.field-0.fault refl) tried.stands in
    let back = c.in-Ok-give_back.ensures.performs s limit w.0 still in
    let same : branch_of c.in-Err.field-0.ticket ≡ b = ap (λ (k : Ticket). branch_of k) c.in-Err.ensures.unspent ∙ t.named in
    let gave = subst (λ (x : Branch). Answered s limit w.0 (GiveBack x) Done back.0) same back.1 in
    let row = marked_row c.args.table.now s limit at stands b Waiting waits in
    let bound = bound_there c.args.table.now s limit at stands (omega (arith, row)) in
    subst (λ (o : Outcome). Ended s limit at b o c.give_back.new.self) (sym c.ending.ensures)
    (branch_stopped s limit at b bound.0 bound.1 (branch_of c.in-Ok.ticket) w.0 back.0 c.in-Err.field-0.fault c.settle.new.table c.give_back.new.self w.1 made gave back.2)

pub returns-in_default-settle-clause-memory : goal.returns-in_default-settle-clause-memory
returns-in_default-settle-clause-memory c = keeps_more c.args.table.now c.take.new.self c.settle.new.table c.in-Ok.ensures.memory c.in_default-settle.ensures.memory

pub returns-clause-memory : goal.returns-clause-memory
returns-clause-memory c =
    keeps_more c.args.table.now c.settle.new.table c.give_back.new.self
    (keeps_more c.args.table.now c.take.new.self c.settle.new.table c.in-Ok.ensures.memory c.in-Err.ensures.memory) c.in-Ok-give_back.ensures.memory
