use Rattle.sheet.specs.View.{sheet_of}
use Rattle.folding.proofs.Taking.{comparable}
use Rattle.folding.proofs.matching.are_comparable.Goals as goal

pub returns : goal.returns
returns c =
    comparable (sheet_of c.args.sheet.now) c.args.bank.now c.args.count.terms c.args.older.now c.args.form.now c.args.labels.now c.readings_of.result c.names_in-names.result c.are_named.result c.readings_of.ensures
    (c.is_sound.ensures.0 c.if-not-is_sound.false) (c.is_inside.ensures.0 c.if-not-is_inside.false) c.if-labels-lt-MOST_TERMS.false c.names_in-names.ensures c.are_named.ensures
