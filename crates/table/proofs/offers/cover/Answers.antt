use Rattle.std.proofs.lemmas.Result.{err_from_is_err_and}
use Rattle.sheet.specs.View.{sheet_of}
use Rattle.table.proofs.Covering.{taken, untaken, unmatched}
use Rattle.table.proofs.Staying.{holding_lent, extends_lent}
use Rattle.table.proofs.offers.cover.Goals as goal

pub returns-in_err-takes-clause-answer : goal.returns-in_err-takes-clause-answer
returns-in_err-takes-clause-answer c = λ seen held.
    let same = c.new-guard.ensures.count in
    let grown = extends_lent c.args.bank.now c.new-guard.result.count.now c.args.count.now same c.build.new.bank c.build.new.count.terms c.in_ok-form.ensures.grown in
    let built = c.in_ok-form.ensures.built seen (holding_lent c.args.bank.now c.new-guard.result.count.now c.args.count.now same seen held) in
    let p = err_from_is_err_and c.from_residual-in_err-takes.result c.from_residual-in_err-takes.ensures.1 in
    rw (p.1, p.2) (unmatched (sheet_of c.args.sheet.now) c.args.bank.now c.build.new.bank c.args.count.now.terms c.build.new.count.terms c.args.row.now c.args.older.now c.in_ok-form.form c.args.number c.args.height c.args.labels.now seen c.requires.workable c.requires.older grown c.build.auto.bank built c.in_err-takes.field-0.0 c.in_err-takes.ensures.answer)

pub returns-in-Some-clause-answer : goal.returns-in-Some-clause-answer
returns-in-Some-clause-answer c = λ seen held.
    let same = c.new-guard.ensures.count in
    let grown = extends_lent c.args.bank.now c.new-guard.result.count.now c.args.count.now same c.build.new.bank c.build.new.count.terms c.in_ok-form.ensures.grown in
    let built = c.in_ok-form.ensures.built seen (holding_lent c.args.bank.now c.new-guard.result.count.now c.args.count.now same seen held) in
    taken (sheet_of c.args.sheet.now) c.args.bank.now c.build.new.bank c.args.count.now.terms c.build.new.count.terms c.args.row.now c.args.older.now c.in_ok-form.form c.args.number c.args.height c.args.labels.now seen c.requires.workable c.requires.older grown c.build.auto.bank built c.in_ok-takes.field-0 c.in_ok-takes.ensures.answer c.in-Some.field-0 c.in-Some.is

pub returns-clause-answer : goal.returns-clause-answer
returns-clause-answer c = λ seen held.
    let same = c.new-guard.ensures.count in
    let grown = extends_lent c.args.bank.now c.new-guard.result.count.now c.args.count.now same c.build.new.bank c.build.new.count.terms c.in_ok-form.ensures.grown in
    let built = c.in_ok-form.ensures.built seen (holding_lent c.args.bank.now c.new-guard.result.count.now c.args.count.now same seen held) in
    untaken (sheet_of c.args.sheet.now) c.args.bank.now c.build.new.bank c.args.count.now.terms c.build.new.count.terms c.args.row.now c.args.older.now c.in_ok-form.form c.args.number c.args.height c.args.labels.now seen c.requires.workable c.requires.older grown c.build.auto.bank built c.in_ok-takes.field-0 c.in_ok-takes.ensures.answer c.in-None.is
