use Rattle.std.proofs.Common.{refl, arith}
use Rattle.std.proofs.lemmas.Result.{err_from_is_err_and}
use Rattle.closure.proofs.Entailing.{ready_more, ready_less, concluded}
use Rattle.closure.proofs.deciding.entails.Goals as goal

pub returns-in_err-question : goal.returns-in_err-question
returns-in_err-question c =
    let p = err_from_is_err_and c.from_residual.result c.from_residual.ensures.1 in
    rw (p.1, p.2) (c.in_err-question.ensures.0, refl, λ ready. c.in_err-question.ensures.1 (ready_less c.args.bank.now c.args.count.terms c.args.goal c.args.conditions.now c.args.labels.now ready).2)

pub returns : goal.returns
returns c =
    let is = c.in_ok-question.ensures in
    let ready = ready_more c.args.bank.now c.args.count.terms c.args.goal c.args.conditions.now c.args.labels.now (omega arith) (omega arith) is.0 in
    let settled = rw (is.1, is.2, is.3) at c.is_forced.ensures.settled in
    let broken = rw is.3 at c.is_forced.ensures.broken in
    let spare = rw is.2 at c.is_forced.ensures.spare in
    (ready, concluded c.args.bank.now c.args.count.terms c.args.goal c.args.conditions.now c.args.labels.now c.is_forced.new.labels c.is_forced.result ready settled broken, spare)
