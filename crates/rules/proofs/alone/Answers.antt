use Rattle.rules.proofs.Outcomes.{alone}
use Rattle.rules.proofs.alone.Goals as goal

pub returns : goal.returns
returns c = alone
