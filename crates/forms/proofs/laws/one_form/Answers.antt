use Rattle.forms.proofs.Shaping.{one_form}
use Rattle.forms.proofs.laws.one_form.Goals as goal

pub returns : goal.returns
returns c = one_form
