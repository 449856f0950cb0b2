use Rattle.run_file.proofs.Laws.{laws}
use Rattle.run_file.proofs.reading.read.Goals as goal

pub returns : goal.returns
returns c = record { said = c.read_lines.ensures; grammar = laws _ }
