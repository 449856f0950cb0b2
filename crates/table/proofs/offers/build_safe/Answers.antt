use Rattle.sheet.specs.View.{sheet_of}
use Rattle.rows.specs.Records.{row_in}
use Rattle.table.proofs.Proposing.{no_row_free, proposed}
use Rattle.table.proofs.offers.build_safe.Goals as goal

pub returns-then-is_full-clause-proposed : goal.returns-then-is_full-clause-proposed
returns-then-is_full-clause-proposed c = λ seen held.
    let s = sheet_of c.args.sheet.now in
    let row = row_in s c.args.bank.now c.args.row.now in
    no_row_free s row c.args.number c.args.height c.args.is_full seen c.build.new.bank c.build.new.count.terms c.in_ok-form.form (c.in_ok-form.ensures.built seen held) c.args.labels.now c.in_ok-is_safe.field-0 c.in_ok-is_safe.ensures.judged c.if-not-branch.false c.is_safe.new.bank c.is_safe.new.count.terms c.if-is_full.true

pub returns-clause-proposed : goal.returns-clause-proposed
returns-clause-proposed c = λ seen held.
    let s = sheet_of c.args.sheet.now in
    let row = row_in s c.args.bank.now c.args.row.now in
    proposed s row c.args.number c.args.height c.args.is_full seen c.build.new.bank c.build.new.count.terms c.in_ok-form.form (c.in_ok-form.ensures.built seen held) c.args.labels.now c.in_ok-is_safe.field-0 c.in_ok-is_safe.ensures.judged c.if-not-branch.false c.is_safe.new.bank c.is_safe.new.count.terms c.if-is_full.false c.in_ok-is_safe.ensures.kept
