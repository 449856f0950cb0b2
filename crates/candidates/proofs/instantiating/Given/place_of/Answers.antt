use Rattle.std.proofs.Common.{map, subst}
use Rattle.sheet.specs.Stored.{term_in}
use Rattle.forms.specs.Candidate.{terms_over}
use Rattle.candidates.specs.Working.{Placed}
use Rattle.candidates.proofs.Walking.{over_all}
use Rattle.candidates.proofs.instantiating.Given.place_of.Goals as goal

pub returns-clause-place : goal.returns-clause-place
returns-clause-place c v over started =
    let values = terms_over v c.args.self.inputs.now (map term_in c.args.self.terms.now) in
    subst (λ x. Placed values c.args.memory.now.bank.now c.args.memory.now.count.now.terms x c.place_below.new.memory.bank.now c.place_below.new.memory.count.now.terms c.place_below.new.memory.known c.place_below.result) (over_all v c.args.self.inputs.now c.args.self.terms.now c.args.n) (c.place_below.ensures.place v over started)
