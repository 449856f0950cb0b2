use Rattle.rules.proofs.Tallying.{counting as law}
use Rattle.rules.proofs.counting.Goals as goal

pub returns : goal.returns
returns c = law
