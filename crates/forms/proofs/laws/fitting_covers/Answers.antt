use Rattle.forms.proofs.Renaming.{fitting_covers}
use Rattle.forms.proofs.laws.fitting_covers.Goals as goal

pub returns : goal.returns
returns c = fitting_covers
