use Rattle.forms.proofs.Cutting.{form_covers}
use Rattle.forms.proofs.laws.form_covers.Goals as goal

pub returns : goal.returns
returns c = form_covers
