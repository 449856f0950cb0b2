use Rattle.forms.proofs.Passing.{candidate_covers}
use Rattle.forms.proofs.laws.candidate_covers.Goals as goal

pub returns : goal.returns
returns c = candidate_covers
