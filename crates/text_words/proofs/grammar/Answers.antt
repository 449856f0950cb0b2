use Rattle.text_words.proofs.Laws.{laws}
use Rattle.text_words.proofs.grammar.Goals as goal

pub returns : goal.returns
returns c = laws
