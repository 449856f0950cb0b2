use Rattle.std.proofs.Common.{[], sym, ap, subst}
use Rattle.terms.specs.declared.Node.TheVariants.{Name, Constant}
use Rattle.forms.specs.Rows.{start_term}
use Rattle.candidates.specs.Working.{Named}
use Rattle.candidates.proofs.Walking.{placed_interned}
use Rattle.candidates.proofs.starting.start_place.Goals as goal

pub returns-in-Name : goal.returns-in-Name
returns-in-Name c started small =
    placed_interned [] c.args.bank.now c.intern.new.bank c.args.count.now.terms c.intern.new.count.terms [] (Name c.in-Name.name) (start_term c.args.start) started (sym (ap start_term c.in-Name.is)) c.intern.result (c.intern.ensures.terms started.bank (subst Named c.in-Name.is small)) c.intern.ensures.nodes

pub returns-in-Constant : goal.returns-in-Constant
returns-in-Constant c started small =
    placed_interned [] c.args.bank.now c.intern-in-Constant.new.bank c.args.count.now.terms c.intern-in-Constant.new.count.terms [] (Constant c.in-Constant.symbol) (start_term c.args.start) started (sym (ap start_term c.in-Constant.is)) c.intern-in-Constant.result (c.intern-in-Constant.ensures.terms started.bank tt) c.intern-in-Constant.ensures.nodes
