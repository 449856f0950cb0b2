use Rattle.sheet.specs.Stored.{term_in, term_info_in}
use Rattle.sheet.specs.Rules.{term_info}
use Rattle.sheet.proofs.Growing.{informed_tried}
use Rattle.reader.proofs.draft.Draft.add_term.Goals as goal

pub invariant_of-self : goal.invariant_of-self
invariant_of-self c =
    record { terms = informed_tried term_in term_info_in term_info _ _ _ _ c.args.self.now.terms c.info_of_term-info.ensures c.push.ensures.items; formulas = c.args.self.now.formulas }
