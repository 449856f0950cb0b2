use Rattle.notation.proofs.reading.Reader.+term.Given as goal

abbrev pub decreases-term : goal.decreases-term
decreases-term l = l.room
