use Rattle.forms.proofs.Passing.{branch_covers}
use Rattle.forms.proofs.laws.branch_covers.Goals as goal

pub returns : goal.returns
returns c = branch_covers
