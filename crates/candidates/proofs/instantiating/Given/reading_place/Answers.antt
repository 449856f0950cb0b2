use Rattle.std.proofs.Common.{map, get_or, sym, arith}
use Rattle.terms.specs.declared.Node.TheVariants.{Name}
use Rattle.sheet.specs.Stored.{term_in}
use Rattle.forms.specs.Candidate.{no_term, terms_over}
use Rattle.candidates.proofs.Walking.{placed_interned, reading_past}
use Rattle.candidates.proofs.instantiating.Given.reading_place.Goals as goal

pub returns-in-None-clause-place : goal.returns-in-None-clause-place
returns-in-None-clause-place c v over started =
    let values = terms_over v c.args.self.inputs.now (map term_in c.args.self.terms.now) in
    placed_interned values c.args.memory.now.bank.now c.intern.new.bank c.args.memory.now.count.now.terms c.intern.new.count.terms c.args.memory.now.known (Name 0) (get_or v c.args.r no_term) started
    (sym (reading_past v c.args.memory.now.bank.now c.args.memory.now.count.now.terms c.args.self.vector.now c.args.self.inputs.now over c.args.r c.in-None.ensures.lookup.3)) c.intern.result (c.intern.ensures.terms started.bank (omega arith)) c.intern.ensures.nodes
