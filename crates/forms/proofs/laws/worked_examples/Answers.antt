use Rattle.forms.proofs.Worked.{examples}
use Rattle.forms.proofs.laws.worked_examples.Goals as goal

pub returns : goal.returns
returns c = examples
