use Rattle.rules.proofs.Accounts.{played_turns}
use Rattle.rules.proofs.played_turns.Goals as goal

pub returns : goal.returns
returns c = played_turns
