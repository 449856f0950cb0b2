use Rattle.std.proofs.Common.{string_bytes, sym, ap, ◌∙◌, subst, inl}
use Rattle.std.proofs.lemmas.Result.{IfOk-weaker}
use Rattle.plant.specs.Affine.{affine}
use Rattle.run_file.specs.declared.Plant.{Plant}
use Rattle.run_file.specs.Reading.{plant_of, run_of}
use Rattle.sheet.specs.Truth.{Meaning}
use Rattle.sheet.specs.View.{sheet_of}
use Rattle.bench_text.specs.Report.{RunText, PlantText}
use Rattle.bench_text.proofs.plant_text.Goals as goal

pub returns-in-Ok : goal.returns-in-Ok
returns-in-Ok c =
    let run = run_of c.args.run.now in
    let s = sheet_of c.args.sheet.now in
    let made = c.in-Ok.ensures.meaning in
    IfOk-weaker c.run_text-in-Ok.result _ _ (λ t is. subst (λ (p : Plant). PlantText s (plant_of p) run.starts run.inputs run.steps (string_bytes t)) (sym c.in-Affine.is) (inl (made.0, subst (λ (f : Meaning). RunText f s run.starts run.inputs run.steps (string_bytes t)) (made.1 ∙ ap (affine c.in-Affine.modulus) c.as_slice-in-Affine.ensures.value) is))) c.run_text-in-Ok.ensures
