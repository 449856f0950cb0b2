use Rattle.rules.proofs.Plants.{settles}
use Rattle.rules.proofs.Running.{covered}
use Rattle.rules.proofs.safety_law.Goals as goal

pub returns-clause-covered : goal.returns-clause-covered
returns-clause-covered c = covered

pub returns-clause-settles : goal.returns-clause-settles
returns-clause-settles c = settles
