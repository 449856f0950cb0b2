use Rattle.std.proofs.Common.{sym, ◌∙◌, arith, below_more}
use Rattle.std.proofs.lemmas.Bool.{true≢false}
use Rattle.sheet.specs.View.{sheet_of}
use Rattle.candidates.specs.Cases.{Breaks}
use Rattle.candidates.proofs.safety.Cases.is_unbroken.Goals as goal

pub loop-case-preserved : goal.loop-case-preserved
loop-case-preserved c form laid bits labelled =
    let s = sheet_of c.args.self.now.sheet.now in
    let no' : Breaks s form c.loop-case.case → ⊥ = λ breaks. true≢false (sym ((c.in_ok-is_breaking.ensures form laid bits (omega (arith, c.loop-case.auto.labels))).1 breaks) ∙ c.if-branch.false) in
    below_more (λ b. Breaks s form b → ⊥) c.loop-case.case (c.loop-case.invariant form laid bits labelled) no'
