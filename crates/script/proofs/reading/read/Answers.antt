use Rattle.script.proofs.Laws.{names_line}
use Rattle.script.proofs.reading.read.Goals as goal

pub returns-clause-line : goal.returns-clause-line
returns-clause-line c = names_line c.args.text.now
