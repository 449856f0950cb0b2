use Rattle.std.proofs.Common.{◌≡◌, ℕ, Bool, false, [], get_or, ap, ◌∙◌, arith}
use Rattle.std.proofs.Math.Path.{fun_ext}
use Rattle.sheet.specs.Truth.{truth_of, truths, term_of_choice, chosen}
use Rattle.sheet.specs.View.{sheet_of}
use Rattle.sheet.proofs.Arrays.{filled_all}
use Rattle.sheet.proofs.Fewness.{few_formulas, few_choices}
use Rattle.sheet.proofs.Growing.{grow-length}
use Rattle.sheet.proofs.sheet.Sheet.resolve.Goals as goal

pub returns : goal.returns
returns c =
    let s = sheet_of c.args.self.now in
    let law = c.args.self.now.lawful in
    let right = truths c.args.bits.now c.args.answers.now [] s.formulas in
    let all : (f : ℕ) → get_or c.truths.new.out f false ≡ get_or right f false =
    filled_all false c.truths.new.out right (λ k lt. c.truths.ensures k (omega arith)) (omega (arith, few_formulas s law, grow-length (truth_of c.args.bits.now c.args.answers.now []) [] s.formulas)) in
    let to : ◌≡◌ {A = ℕ → Bool} (λ f. get_or c.truths.new.out f false) (λ f. get_or right f false) = fun_ext all in
    let some = chosen (λ f. get_or c.truths.new.out f false) s.choices in
    let picked = filled_all 0 c.terms_of_choices.new.out some (λ k lt. c.terms_of_choices.ensures k (omega arith)) (omega (arith, few_choices s law, grow-length (term_of_choice (λ f. get_or c.truths.new.out f false)) [] s.choices)) in
    record {
      truths = all;
      chosen = λ k. picked k ∙ ap (λ (t : ℕ → Bool). get_or (chosen t s.choices) k 0) to;
    }
