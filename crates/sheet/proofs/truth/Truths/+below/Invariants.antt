use Rattle.sheet.proofs.truth.Truths.+below.Given as goal

abbrev pub decreases-below : goal.decreases-below
decreases-below l = l.below
