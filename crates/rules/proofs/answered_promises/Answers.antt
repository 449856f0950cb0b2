use Rattle.rules.proofs.Promised.{answered_promises}
use Rattle.rules.proofs.answered_promises.Goals as goal

pub returns : goal.returns
returns c = answered_promises
