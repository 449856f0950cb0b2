use Rattle.rules.proofs.Worked.{work_played as law}
use Rattle.rules.proofs.work_played.Goals as goal

pub returns : goal.returns
returns c = law
