use Rattle.std.proofs.Common.{◌≡◌, ◌<◌}
use Rattle.terms.specs.Terms.{height}
use Rattle.terms.specs.Bank.{term_at}
use Rattle.forms.specs.Form.{lowest}
use Rattle.folding.proofs.view.View.way_down.Given as goal

abbrev pub invariant-loop-at : goal.invariant-loop-at
invariant-loop-at l =
    (l.at < l.self.count.terms) × (0 < height (term_at l.self.records.now l.at)) × (lowest (term_at l.self.records.now l.initial.at) ≡ lowest (term_at l.self.records.now l.at))

abbrev pub decreases-loop-at : goal.decreases-loop-at
decreases-loop-at l = l.at
