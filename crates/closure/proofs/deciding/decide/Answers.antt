use Rattle.closure.proofs.Entailing.{answered}
use Rattle.closure.proofs.deciding.decide.Goals as goal

pub returns : goal.returns
returns c =
    let is = c.in_ok-question.ensures in
    let settled = rw (is.1, is.2, is.3) at c.close-joins.ensures.settled in
    let counted = rw is.2 at c.close-joins.ensures.counted in
    let spare = rw is.2 at c.close-joins.ensures.spare in
    let broken = rw is.3 at c.is_broken-impossible.ensures in
    (is.0, answered c.args.bank.now c.args.count.terms c.args.conditions.now c.args.labels.now c.close-joins.new.labels c.is_broken-impossible.result c.close-joins.result is.0 settled broken counted spare)
