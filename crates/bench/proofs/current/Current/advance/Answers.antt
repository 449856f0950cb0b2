use Rattle.std.proofs.Common.{false, List, length, sym, ap, subst, lit<, arith}
use Rattle.sheet.specs.declared.syntax.Equation.{Equation}
use Rattle.sheet.specs.Truth.{Meaning, answers}
use Rattle.sheet.specs.View.{sheet_of}
use Rattle.sheet.proofs.Fewness.{lawful_sheet, few_questions}
use Rattle.sheet.proofs.Numbering.{numbered-length}
use Rattle.bench.specs.Outcome.{Same}
use Rattle.bench.proofs.Configuring.{known_with, stepped}
use Rattle.bench.proofs.Filling.{begins_same}
use Rattle.bench.proofs.current.Current.advance.Goals as goal

pub evaluate-requires : goal.evaluate-requires
evaluate-requires g c =
    record { early = λ _. known_with (g.M.Model.meaning c.args.model.now) (sheet_of c.args.sheet.now) c.args.self.now.place.readings c.args.inputs.now c.args.self.now.values c.requires }

pub answer-questions-requires : goal.answer-questions-requires
answer-questions-requires g c =
    (lit< tt, omega (arith, few_questions (sheet_of c.args.sheet.now) c.args.sheet.now.lawful, ap length c.as_slice.ensures.value))

pub returns-clause-place : goal.returns-clause-place
returns-clause-place g c =
    let m : Meaning = g.M.Model.meaning c.args.model.now in
    let s = sheet_of c.args.sheet.now in
    let values = c.evaluate.new.values in
    let fq = subst (λ (l : List Equation). Same false c.answer-questions.result (answers values l)) c.as_slice.ensures.value c.answer-questions.ensures in
    let fb = begins_same false c.next_bits-bits.result _ _ (sym (numbered-length _ 0 s.bits)) (c.next_bits-bits.ensures.value, c.next_bits-bits.ensures.rest) in
    λ state holds. stepped m s c.args.self.now.place state c.args.inputs.now (lawful_sheet s c.args.sheet.now.lawful) holds values (omega arith) c.evaluate.ensures.known c.answer-questions.result c.resolve-branch.result.truths c.resolve-branch.result.chosen fq c.resolve-branch.ensures.truths c.resolve-branch.ensures.chosen _ fb c.next_readings-readings.ensures
