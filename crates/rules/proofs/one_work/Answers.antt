use Rattle.rules.proofs.Worked.{one_work as law}
use Rattle.rules.proofs.one_work.Goals as goal

pub returns : goal.returns
returns c = law
