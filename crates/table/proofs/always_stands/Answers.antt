use Rattle.table.proofs.Always.{always_stands}
use Rattle.table.proofs.always_stands.Goals as goal

pub returns : goal.returns
returns c = always_stands
