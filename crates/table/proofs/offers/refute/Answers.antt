use Rattle.std.proofs.Common.{rules, take}
use Rattle.sheet.specs.View.{sheet_of}
use Rattle.rows.specs.Records.{row_in}
use Rattle.table.proofs.Refuting.{refuted}
use Rattle.table.proofs.Staying.{holding_lent}
use Rattle.table.proofs.offers.refute.Goals as goal

pub returns-clause-answer : goal.returns-clause-answer
returns-clause-answer c = λ seen held.
    let s = sheet_of c.args.sheet.now in
    let list = c.in_ok-conditions.conditions in
    let counted = c.in_ok-conditions.ensures.counted seen (holding_lent c.args.bank.now c.new-guard.result.count.now c.args.count.now c.new-guard.ensures.count seen held) in
    let verdict = c.in_ok-verdict.verdict in
    refuted s (row_in s c.args.bank.now c.args.row.now) c.args.number seen c.branch_conditions.new.bank c.branch_conditions.new.count.terms (take list.used list.list) c.args.labels.now c.decide.new.labels verdict.impossible verdict.joins counted.0 counted.1 c.in_ok-verdict.ensures.0 c.in_ok-verdict.ensures.1 (search rules)
