use Rattle.std.proofs.Common.{rules}
use Rattle.sheet.specs.View.{sheet_of}
use Rattle.sheet.proofs.Fewness.{few_questions}
use Rattle.candidates.proofs.building.questions_of.Goals as goal

pub returns-clause-few : goal.returns-clause-few
returns-clause-few c = let few = few_questions (sheet_of c.args.sheet.now) c.args.sheet.now.lawful in search rules
