use Rattle.rules.proofs.Whole.{keeping}
use Rattle.rules.proofs.keeping.Goals as goal

pub returns : goal.returns
returns c = keeping
