use Rattle.forms.proofs.Shrinking.{cutting_rules}
use Rattle.forms.proofs.laws.cutting_rules.Goals as goal

pub returns : goal.returns
returns c = cutting_rules
