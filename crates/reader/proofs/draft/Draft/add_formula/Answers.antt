use Rattle.sheet.specs.Stored.{formula_in, formula_info_in}
use Rattle.sheet.specs.Rules.{formula_info}
use Rattle.sheet.proofs.Growing.{informed_tried}
use Rattle.reader.proofs.draft.Draft.add_formula.Goals as goal

pub invariant_of-self : goal.invariant_of-self
invariant_of-self c =
    record { terms = c.args.self.now.terms; formulas = informed_tried formula_in formula_info_in formula_info _ _ _ _ c.args.self.now.formulas c.info_of_formula-info.ensures c.push.ensures.items }
