use Rattle.std.proofs.Common.{length}
use Rattle.branches.proofs.writing.+write_term.Given as goal

abbrev pub decreases-write_term : goal.decreases-write_term
decreases-write_term g l = length l.bank.now
