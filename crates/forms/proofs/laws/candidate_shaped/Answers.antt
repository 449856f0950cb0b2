use Rattle.forms.proofs.Shaping.{candidate_shaped}
use Rattle.forms.proofs.laws.candidate_shaped.Goals as goal

pub returns : goal.returns
returns c = candidate_shaped
