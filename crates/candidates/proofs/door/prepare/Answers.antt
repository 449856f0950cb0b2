use Rattle.std.proofs.Common.{sym}
use Rattle.std.proofs.Math.Path.{fun_ext}
use Rattle.sheet.specs.View.{sheet_of}
use Rattle.sheet.proofs.Fewness.{few_inputs}
use Rattle.candidates.proofs.Answering.{prepared}
use Rattle.candidates.proofs.door.prepare.Goals as goal

pub input_names-requires : goal.input_names-requires
input_names-requires c = few_inputs (sheet_of c.args.sheet.now) c.args.sheet.now.lawful

pub returns : goal.returns
returns c =
    let sound = c.is_sound.ensures.0 c.if-not-is_sound.false in
    prepared (sheet_of c.args.sheet.now) c.args.bank.now c.args.count.terms c.args.row.now c.args.branch c.names_of_row-taken.result c.input_names.result c.ok_or.result (record { sound = sound; branch = c.is_branch.ensures.0 c.if-not-is_branch.false }) (sym (fun_ext (c.names_of_row-taken.ensures c.args.count.terms 16 sound.bank sound.row))) c.input_names.ensures c.ok_or.ensures.value
