use Rattle.forms.proofs.Passing.{impossible_branch}
use Rattle.forms.proofs.laws.impossible_branch.Goals as goal

pub returns : goal.returns
returns c = impossible_branch
