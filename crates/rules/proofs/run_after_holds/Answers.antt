use Rattle.sheet.specs.View.{sheet_of}
use Rattle.rules.proofs.Benching.{runs_none}
use Rattle.rules.proofs.run_after_holds.Goals as goal

pub returns-clause-promised : goal.returns-clause-promised
returns-clause-promised g c = λ limit calls answers k promises holds.
    runs_none (g.M.Model.meaning c.args.model.now) (g.met.M.Model.plant c.args.model.now) (sheet_of c.args.sheet.now) (promises.safe k holds) c.args.starts.now c.args.inputs.now c.type_inv.starts c.type_inv.inputs c.args.n _ c.run.result c.run.ensures.answer
