use Rattle.std.proofs.Common.{◌+◌, ◌∙◌, ap, arith}
use Rattle.std.proofs.lemmas.Bool.{both_ways, false≢true}
use Rattle.banks.proofs.Entering.{bank_more, bank_measured, bank_lacks}
use Rattle.banks.proofs.testing.is_bank.Goals.{then-not-is_measured-via-then-not-is_measured, then-not-is_measured-via-else-not-is_measured+then-not-enter}
use Rattle.banks.proofs.testing.is_bank.Goals as goal

pub returns-then-not-is_measured : goal.returns-then-not-is_measured
returns-then-not-is_measured c = (
  λ e. absurd (false≢true e),
  λ b. absurd (elim c.then-not-is_measured.branch [
    | then-not-is_measured-via-then-not-is_measured w ↦ both_ways c.is_measured.result w.if-not-is_measured.true (c.is_measured.ensures.1 (bank_measured c.args.bank.now c.loop-i.i c.args.terms b c.loop-i-test.true))
    | then-not-is_measured-via-else-not-is_measured+then-not-enter w ↦ both_ways w.enter.result w.if-not-enter.true (w.enter.ensures.new.1 (rw (c.loop-i.invariant.1, c.loop-i.invariant.2) (bank_lacks c.args.bank.now c.loop-i.i c.args.terms b c.loop-i-test.true)))
  ]),
)

pub loop-i-preserved : goal.loop-i-preserved
loop-i-preserved c =
    let lacks = rw (c.loop-i.invariant.1, c.loop-i.invariant.2) at (c.enter.ensures.new.0 c.if-not-enter.false) in (
      bank_more c.args.bank.now c.loop-i.i (omega arith) c.loop-i.invariant.0 (c.is_measured.ensures.0 c.if-not-is_measured.false) lacks,
      c.enter.ensures.one c.if-not-enter.false ∙ ap (λ k. k + 1) c.loop-i.invariant.1,
      c.enter.ensures.bank ∙ c.loop-i.invariant.2,
    )
