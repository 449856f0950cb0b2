use Rattle.std.proofs.Common.{false, List, length, ap, subst, lit<, arith}
use Rattle.sheet.specs.declared.syntax.Equation.{Equation}
use Rattle.sheet.specs.Truth.{answers}
use Rattle.sheet.specs.View.{sheet_of}
use Rattle.sheet.proofs.Fewness.{lawful_sheet, few_claims}
use Rattle.bench.specs.Outcome.{Same}
use Rattle.bench.proofs.Configuring.{judged}
use Rattle.bench.proofs.current.Current.judge.Goals as goal

pub answer-claims-requires : goal.answer-claims-requires
answer-claims-requires g c =
    (lit< tt, omega (arith, few_claims (sheet_of c.args.sheet.now) c.args.sheet.now.lawful, ap length c.as_slice.ensures.value))

pub returns-clause-answer : goal.returns-clause-answer
returns-clause-answer g c =
    let s = sheet_of c.args.sheet.now in
    let values = c.evaluate.new.values in
    let same = subst (λ (l : List Equation). Same false c.answer-claims.result (answers values l)) c.as_slice.ensures.value c.answer-claims.ensures in
    λ state holds. judged (g.M.Model.meaning c.args.model.now) s c.args.self.now.place state c.answer-claims.result values c.args.sheet.now.invariant c.truth.result (lawful_sheet s c.args.sheet.now.lawful) holds (omega arith) c.evaluate.ensures.known same c.truth.ensures
