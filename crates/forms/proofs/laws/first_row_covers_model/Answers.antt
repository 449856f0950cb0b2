use Rattle.sheet.proofs.Fewness.{lawful_sheet}
use Rattle.sheet.specs.View.{sheet_of}
use Rattle.forms.proofs.Shaping.{first_row_covers}
use Rattle.forms.proofs.laws.first_row_covers_model.Goals as goal

pub returns : goal.returns
returns g c =
    let s = sheet_of c.args._sheet.now in
    (first_row_covers s).covers (lawful_sheet s c.args._sheet.now.lawful) (g.M.Model.meaning c.args._model.now) (g.met.M.Model.plant c.args._model.now)
