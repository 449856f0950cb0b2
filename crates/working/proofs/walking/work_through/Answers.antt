use Rattle.std.proofs.Common.{◌≡◌, ◌+◌, ◌-◌, ℕ, None, Some, sym, refl, subst, ◌∙◌, arith}
use Rattle.std.specs.List.{range_with_len}
use Rattle.queue.specs.Entries.{entries}
use Rattle.rules.specs.declared.Answer.TheVariants.{Holds, Open}
use Rattle.rules.specs.declared.Call.TheVariants.{Verdict}
use Rattle.rules.specs.declared.Outcome.{Outcome}
use Rattle.rules.specs.Promises.{Answered}
use Rattle.rules.specs.Standing.{Standing}
use Rattle.table.specs.Standing.{rows_of}
use Rattle.working.proofs.Due.{due_taken, due_next, due_many, due_none}
use Rattle.table.proofs.Running.{keeps_more}
use Rattle.working.proofs.Walks.{row_grows, rows_on, rows_end}
use Rattle.working.proofs.walking.work_through.Goals as goal

pub returns-in-Some-work_row-clause-worked : goal.returns-in-Some-work_row-clause-worked
returns-in-Some-work_row-clause-worked c = λ s limit at stands.
    let i = c.loop-row.invariant in
    let t = due_taken i.0 (rows_of c.loop-row.table) c.in-Some.row (entries c.loop-row.due) (entries c.pop.new.self) i.2 c.in-Some.ensures.result in
    rows_on s limit at i.0 c.in-Some.row t.is c.loop-row.table c.work_row.new.table t.within (i.5 s limit at stands) (Some c.in-Some-work_row.outcome) c.in-Some-work_row.ensures.worked

pub enqueue-requires-in-Some : goal.enqueue-requires-in-Some
enqueue-requires-in-Some c =
    let i = c.loop-row.invariant in
    let t = due_taken i.0 (rows_of c.loop-row.table) c.in-Some.row (entries c.loop-row.due) (entries c.pop.new.self) i.2 c.in-Some.ensures.result in
    let g = row_grows c.loop-row.table c.work_row.new.table c.in-Some.row (omega (arith, t.is, t.within)) c.in_default-work_row.ensures.worked in
    omega (arith, t.many, t.within, g, i.3, c.in-Some.ensures.roomy, c.rows-known.ensures.number, c.rows-in-Some.ensures.number, c.rows-in-Some.ensures.few)

pub loop-row-smaller : goal.loop-row-smaller
loop-row-smaller c =
    let i = c.loop-row.invariant in
    let t = due_taken i.0 (rows_of c.loop-row.table) c.in-Some.row (entries c.loop-row.due) (entries c.pop.new.self) i.2 c.in-Some.ensures.result in
    let g = row_grows c.loop-row.table c.work_row.new.table c.in-Some.row (omega (arith, t.is, t.within)) c.in_default-work_row.ensures.worked in
    let m = due_many (entries c.pop.new.self) (entries c.enqueue-in-Some.new.due) c.rows-known.result (c.rows-in-Some.result - c.rows-known.result) c.enqueue-in-Some.ensures.rows in
    omega (arith, t.many, t.before, t.within, g, m, c.rows-known.ensures.number, c.rows-in-Some.ensures.number, c.rows-in-Some.ensures.few)

pub loop-row-preserved : goal.loop-row-preserved
loop-row-preserved c =
    let i = c.loop-row.invariant in
    let t = due_taken i.0 (rows_of c.loop-row.table) c.in-Some.row (entries c.loop-row.due) (entries c.pop.new.self) i.2 c.in-Some.ensures.result in
    let g = row_grows c.loop-row.table c.work_row.new.table c.in-Some.row (omega (arith, t.is, t.within)) c.in_default-work_row.ensures.worked in
    let left = subst (λ (k : ℕ). entries c.enqueue-in-Some.new.due ≡ range_with_len (i.0 + 1) (k - (i.0 + 1))) c.rows-in-Some.ensures.number
    (due_next i.0 (rows_of c.loop-row.table) c.rows-in-Some.result c.rows-known.result (entries c.pop.new.self) (entries c.enqueue-in-Some.new.due) t.within (omega (arith, g, c.rows-in-Some.ensures.number)) c.rows-known.ensures.number t.left c.enqueue-in-Some.ensures.rows) in (
      i.0 + 1,
      omega (arith, t.within, g),
      left,
      c.enqueue-in-Some.ensures.roomy ∙ (c.in-Some.ensures.roomy ∙ i.3),
      keeps_more c.args.table.now c.loop-row.table c.work_row.new.table i.4 c.in_default-work_row.ensures.memory,
      λ s limit at stands. rows_on s limit at i.0 c.in-Some.row t.is c.loop-row.table c.work_row.new.table t.within (i.5 s limit at stands) None c.in_default-work_row.ensures.worked,
    )

pub returns-in-Holds-clause-worked : goal.returns-in-Holds-clause-worked
returns-in-Holds-clause-worked c = λ s limit at stands.
    let i = c.loop-row.invariant in
    let none = due_none i.0 (rows_of c.loop-row.table - i.0) (sym i.2 ∙ c.in_default.ensures.result.0) in
    let r = i.5 s limit at stands in
    let w = c.in-Holds.ensures s limit r.mid r.stands in
    rows_end s limit at i.0 c.loop-row.table Holds Outcome.Holds (omega (arith, none)) r refl (subst (λ (z : Standing). Answered s limit r.mid Verdict Holds z) w.1.2 w.1)

pub returns-in-Open-clause-worked : goal.returns-in-Open-clause-worked
returns-in-Open-clause-worked c = λ s limit at stands.
    let i = c.loop-row.invariant in
    let none = due_none i.0 (rows_of c.loop-row.table - i.0) (sym i.2 ∙ c.in_default.ensures.result.0) in
    let r = i.5 s limit at stands in
    let w = c.in-Open.ensures s limit r.mid r.stands in
    rows_end s limit at i.0 c.loop-row.table (Open c.in-Open.waiting c.in-Open.out) (Outcome.Open c.in-Open.waiting c.in-Open.out) (omega (arith, none)) r refl (subst (λ (z : Standing). Answered s limit r.mid Verdict (Open c.in-Open.waiting c.in-Open.out) z) w.1.2 w.1)

pub returns-in-Some-work_row-clause-memory : goal.returns-in-Some-work_row-clause-memory
returns-in-Some-work_row-clause-memory c = keeps_more c.args.table.now c.loop-row.table c.work_row.new.table c.loop-row.invariant.4 c.in-Some-work_row.ensures.memory

pub returns-in-Holds-clause-memory : goal.returns-in-Holds-clause-memory
returns-in-Holds-clause-memory c = c.loop-row.invariant.4

pub returns-in-Open-clause-memory : goal.returns-in-Open-clause-memory
returns-in-Open-clause-memory c = c.loop-row.invariant.4
