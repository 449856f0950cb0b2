use Rattle.std.proofs.Common.{◌≡◌}
use Rattle.folding.proofs.Passes.{PlacesChangedTo}
use Rattle.folding.proofs.rewriting.Rewriting.rewrite_places.Given as goal

abbrev pub invariant-loop-place : goal.invariant-loop-place
invariant-loop-place l =
    PlacesChangedTo l.initial.self.bank.now l.initial.self.count.now.terms l.initial.self.change.now l.place-index l.initial.places l.places l.self.bank.now l.self.count.now.terms
    × (l.self.change.now ≡ l.initial.self.change.now)
    × (l.self.bank.ghost_name ≡ l.initial.self.bank.ghost_name)
    × (l.self.count.ghost_name ≡ l.initial.self.count.ghost_name)
