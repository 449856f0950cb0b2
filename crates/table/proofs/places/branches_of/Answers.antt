use Rattle.std.proofs.Common.{◌≤◌, ◌^◌, rules, pow_mono}
use Rattle.sheet.specs.View.{sheet_of}
use Rattle.sheet.proofs.Fewness.{few_questions}
use Rattle.table.proofs.places.branches_of.Goals as goal

pub returns-clause-few : goal.returns-clause-few
returns-clause-few c =
    let few = few_questions (sheet_of c.args.sheet.now) c.args.sheet.now.lawful in
    let asked : c.len.result ≤ 6 = search rules in
    let most : 2 ^ c.len.result ≤ 2 ^ 6 = pow_mono asked in
    search rules
