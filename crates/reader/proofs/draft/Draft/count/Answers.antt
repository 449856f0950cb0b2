use Rattle.std.proofs.Common.{◌∙◌}
use Rattle.sheet.specs.Stored.{term_in, formula_in}
use Rattle.sheet.proofs.Stored.{map-count}
use Rattle.reader.proofs.draft.Draft.count.Goals as goal

pub returns-in-Term : goal.returns-in-Term
returns-in-Term c =
    rw c.in-Term.is (map-count term_in _ _ (c.len-in-Term.ensures ∙ c.args.self.now.parts.terms.ok.0))

pub returns-in-Formula : goal.returns-in-Formula
returns-in-Formula c =
    rw c.in-Formula.is (map-count formula_in _ _ (c.len-in-Formula.ensures ∙ c.args.self.now.parts.formulas.ok.0))
