use Rattle.sheet.specs.View.{sheet_of}
use Rattle.table.proofs.Beginning.{row_unrefused, row_judged, begun}
use Rattle.table.proofs.opening.begin.Goals as goal

pub returns-in_err-row : goal.returns-in_err-row
returns-in_err-row c =
    absurd (row_unrefused (sheet_of c.args.sheet.now) c.args.sheet.now.lawful c.args.bank.now c.first_row.new.bank c.args.count.now.terms c.first_row.new.count.terms c.requires.empty c.requires.bank c.in_err-row.field-0.0 c.in_err-row.ensures.made c.in_err-row.ensures.counted)

pub returns-in_err-is_safe : goal.returns-in_err-is_safe
returns-in_err-is_safe c =
    absurd (row_judged (sheet_of c.args.sheet.now) c.args.sheet.now.lawful c.args.bank.now c.first_row.new.bank c.args.count.now.terms c.first_row.new.count.terms c.requires.empty c.requires.bank c.in_ok-row.row c.args.labels.now c.in_ok-row.ensures.made c.in_ok-row.ensures.counted c.first_row.auto.bank c.requires.labels c.in_err-is_safe.field-0.0 c.in_err-is_safe.ensures.judged)

pub returns : goal.returns
returns c =
    begun (sheet_of c.args.sheet.now) c.args.sheet.now.lawful c.args.bank.now c.first_row.new.bank c.args.count.now.terms c.first_row.new.count.terms c.requires.empty c.requires.bank c.in_ok-row.row c.args.labels.now c.in_ok-row.ensures.made c.in_ok-row.ensures.counted c.in_ok-is_safe.field-0 c.in_ok-is_safe.ensures.judged c.if-not-branch.false c.is_safe.new.bank c.is_safe.new.count.terms c.in_ok-is_safe.ensures.kept
