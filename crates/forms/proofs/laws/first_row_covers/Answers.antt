use Rattle.forms.proofs.Shaping.{first_row_covers}
use Rattle.forms.proofs.laws.first_row_covers.Goals as goal

pub returns : goal.returns
returns c = first_row_covers
