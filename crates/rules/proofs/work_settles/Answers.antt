use Rattle.rules.proofs.Clearing.{work_settles as law}
use Rattle.rules.proofs.work_settles.Goals as goal

pub returns : goal.returns
returns c = law
