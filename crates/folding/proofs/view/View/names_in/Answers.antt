use Rattle.folding.proofs.Dropping.{names_in_bits}
use Rattle.folding.proofs.view.View.names_in.Goals as goal

pub returns : goal.returns
returns c x = names_in_bits _ _ (c.names_of_terms.ensures c.args.self.now.count.terms c.args.self.now.is_bank c.requires x)
