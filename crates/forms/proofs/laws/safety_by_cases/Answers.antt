use Rattle.forms.proofs.Deciding.{safety_by_cases}
use Rattle.forms.proofs.laws.safety_by_cases.Goals as goal

pub returns : goal.returns
returns c = safety_by_cases
