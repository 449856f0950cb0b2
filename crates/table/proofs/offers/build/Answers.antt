use Rattle.sheet.specs.View.{sheet_of}
use Rattle.table.proofs.Building.{form_built}
use Rattle.table.proofs.offers.build.Goals as goal

pub returns-clause-built : goal.returns-clause-built
returns-clause-built c = λ seen held.
    form_built (sheet_of c.args.sheet.now) c.args.bank.now c.args.count.now.terms c.args.row.now c.args.number c.args.labels.now c.requires c.candidate.new.bank c.candidate.new.count.terms c.in_ok-next.next c.in_ok-next.ensures.made c.candidate.auto.bank c.args.height c.form.new.bank c.form.new.count.terms seen (c.in_ok-next.ensures.counted seen held) c.form.result c.form.ensures.built
