use Rattle.rules.proofs.Outcomes.{one_outcome}
use Rattle.rules.proofs.one_outcome.Goals as goal

pub returns : goal.returns
returns c = one_outcome
