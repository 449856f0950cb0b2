use Rattle.forms.proofs.Counting.{counted_form}
use Rattle.forms.proofs.laws.counted_form.Goals as goal

pub returns : goal.returns
returns c = counted_form
