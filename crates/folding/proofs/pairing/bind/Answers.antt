use Rattle.std.proofs.Common.{None, get_or, refl}
use Rattle.folding.proofs.Narrowing.{narrowed_held, stronger_held}
use Rattle.folding.proofs.pairing.bind.Goals as goal

pub returns-clause-narrowed : goal.returns-clause-narrowed
returns-clause-narrowed c = rw c.get_or_insert.ensures.value (narrowed_held c.args.to.now c.args.x c.args.y c.requires.inside (get_or c.args.to.now c.args.x None) refl)

pub returns-clause-stronger : goal.returns-clause-stronger
returns-clause-stronger c = rw c.get_or_insert.ensures.value (stronger_held c.args.to.now c.args.x c.args.y c.requires.inside (get_or c.args.to.now c.args.x None) refl)
