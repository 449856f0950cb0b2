use Rattle.folding.proofs.rewriting.Rewriting.+rewrite.Given as goal

abbrev pub decreases-rewrite : goal.decreases-rewrite
decreases-rewrite l = l.place
