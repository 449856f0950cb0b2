use Rattle.rules.proofs.Bearing.{bears}
use Rattle.rules.proofs.bears.Goals as goal

pub returns : goal.returns
returns c = bears
