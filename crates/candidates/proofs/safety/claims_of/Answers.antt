use Rattle.std.proofs.Common.{rules}
use Rattle.sheet.specs.View.{sheet_of}
use Rattle.sheet.proofs.Fewness.{few_claims}
use Rattle.candidates.proofs.safety.claims_of.Goals as goal

pub returns-clause-few : goal.returns-clause-few
returns-clause-few c = let few = few_claims (sheet_of c.args.sheet.now) c.args.sheet.now.lawful in search rules
