use Rattle.rules.proofs.Accounts.{accounting}
use Rattle.rules.proofs.accounting.Goals as goal

pub returns : goal.returns
returns c = accounting
