use Rattle.std.proofs.Common.{◌+◌, ◌*◌, true, length}
use Rattle.folding.specs.Pairing.{Narrowed, RenamesEach, Pictured}
use Rattle.folding.proofs.view.View.+pair_all_pair_nodes_pair_places.Given as goal

abbrev pub decreases-pair_all : goal.decreases-pair_all
decreases-pair_all l = 3 * l.below

abbrev pub decreases-pair_nodes : goal.decreases-pair_nodes
decreases-pair_nodes l = 3 * l.older + 1

abbrev pub decreases-pair_places : goal.decreases-pair_places
decreases-pair_places l = 3 * l.older + 2

abbrev pub invariant-pair_all-loop-old : goal.invariant-pair_all-loop-old
invariant-pair_all-loop-old l =
    Narrowed l.initial.to l.to (RenamesEach l.self.records.now l.older l.newer (length l.yielded)) true × Pictured l.self.records.now l.self.count.terms l.image l.to
