use Rattle.std.proofs.Common.{ℕ, ◌++◌, codes, decimal, sym, ap, ◌∙◌}
use Rattle.std.proofs.lemmas.Result.{IfOk-weaker}
use Rattle.run_file.specs.declared.Plant.{Plant}
use Rattle.run_file.specs.Reading.{plant_of}
use Rattle.bench_text.specs.Lines.{plant_line}
use Rattle.bench_text.proofs.plant_line.Goals as goal

pub returns-in-Listed : goal.returns-in-Listed
returns-in-Listed c = IfOk-weaker c.format.result _ _ (λ t e. e ∙ (ap (λ (k : ℕ). codes "plant listed default " ++ (decimal c.in-Listed.default ++ (codes " entries " ++ (decimal k ++ codes "\n")))) (c.len-count.ensures ∙ c.in-Listed.entries.ok.0) ∙ sym (ap (λ (p : Plant). plant_line (plant_of p)) c.in-Listed.is))) c.format.ensures.ok
