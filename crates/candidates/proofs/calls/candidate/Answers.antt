use Rattle.std.proofs.Common.{◌≤◌, take, rules}
use Rattle.sheet.specs.View.{sheet_of}
use Rattle.sheet.proofs.Fewness.{few_inputs}
use Rattle.candidates.proofs.Answering.{candidate_break, candidate_counted, candidate_answered, small_part}
use Rattle.candidates.proofs.Purposes.{candidate_covering}
use Rattle.candidates.proofs.calls.candidate.Goals as goal

pub returns-in_err-names : goal.returns-in_err-names
returns-in_err-names c =
    let s = sheet_of c.args.sheet.now in
    let rs = c.args.bank.now in
    let n = c.args.count.now.terms in
    let done = candidate_break s rs n c.args.row.now c.args.branch c.in_err-names.field-0.0 c.from_residual.result c.in_err-names.ensures c.from_residual.ensures.1 in
    record { made = done; covers = candidate_covering s c.args.sheet.now.lawful rs n c.args.row.now c.args.branch rs n c.from_residual.result done; counted = λ seen holding. candidate_counted s rs n c.args.row.now c.args.branch seen holding rs n c.from_residual.result done }

pub slice_bounds-names-end : goal.slice_bounds-names-end
slice_bounds-names-end c =
    let few : c.args.sheet.now.parts.inputs ≤ 4 = few_inputs (sheet_of c.args.sheet.now) c.args.sheet.now.lawful in
    search rules

pub build-made-requires : goal.build-made-requires
build-made-requires c =
    let prepared = c.in_ok-names.ensures in
    record { sound = prepared.0.sound; names = small_part c.args.sheet.now.parts.inputs c.in_ok-names.names prepared.2 }

pub returns : goal.returns
returns c =
    let s = sheet_of c.args.sheet.now in
    let rs = c.args.bank.now in
    let n = c.args.count.now.terms in
    let row = c.args.row.now in
    let b = c.args.branch in
    let rs' = c.build-made.new.bank in
    let n' = c.or_restored.new.self.terms in
    let r = c.or_restored.result in
    let prepared = c.in_ok-names.ensures in
    let names = take s.inputs c.in_ok-names.names in
    let done = candidate_answered s rs n row b names prepared.1 prepared.0 rs' c.build-made.new.count.terms n' c.build-made.result r c.build-made.ensures c.or_restored.ensures.made c.or_restored.ensures.count in
    record { made = done; covers = candidate_covering s c.args.sheet.now.lawful rs n row b rs' n' r done; counted = λ seen holding. candidate_counted s rs n row b seen holding rs' n' r done }
