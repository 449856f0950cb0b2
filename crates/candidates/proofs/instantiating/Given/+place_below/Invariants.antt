use Rattle.candidates.proofs.instantiating.Given.+place_below.Given as goal

abbrev pub decreases-place_below : goal.decreases-place_below
decreases-place_below l = l.below
