use Rattle.std.proofs.Common.{◌+◌, Err, cond, drop, sym, ap, ◌∙◌}
use Rattle.std.proofs.lemmas.List.{at_drop_all}
use Rattle.std.proofs.lemmas.Result.{err_from_is_err_and}
use Rattle.text_words.specs.declared.NotNumber.TheVariants.{NotDecimal}
use Rattle.text_words.specs.Words.{value_after, within}
use Rattle.text_words.proofs.Numbers.{digit_at, value_more, within-fits, within_is, within-le, too_large}
use Rattle.text_words.proofs.number.Goals as goal

pub overflow_sub-b : goal.overflow_sub-b
overflow_sub-b c = digit_at _ _ (sym c.if-not-is_decimal.ensures) c.loop-b-test.true

pub loop-b-preserved : goal.loop-b-preserved
loop-b-preserved c =
    let is = within_is _ _ _ (sym c.in_ok-value.ensures) in (
      within-le _ _ _ (sym c.in_ok-value.ensures),
      ap (λ v. within c.args.most (value_after v (drop (c.loop-b.b-index + 1) c.args.word.now))) is
          ∙ ap (within c.args.most) (sym (value_more c.loop-b.value _ _ c.loop-b-test.true))
          ∙ c.loop-b.invariant.1,
    )

pub returns-in_err-value : goal.returns-in_err-value
returns-in_err-value c =
    let p = err_from_is_err_and c.from_residual.result c.from_residual.ensures.1 in
    rw (p.1, p.2) (sym (
    ap (λ b. cond b (within c.args.most (value_after 0 c.args.word.now)) (Err NotDecimal)) (sym c.if-not-is_decimal.ensures)
    ∙ sym c.loop-b.invariant.1
    ∙ ap (within c.args.most) (value_more c.loop-b.value _ _ c.loop-b-test.true)
    ∙ too_large _ _ (drop (c.loop-b.b-index + 1) c.args.word.now) _ (sym c.in_err-value.ensures)))

pub returns : goal.returns
returns c = sym (
    ap (λ b. cond b (within c.args.most (value_after 0 c.args.word.now)) (Err NotDecimal)) (sym c.if-not-is_decimal.ensures)
    ∙ sym c.loop-b.invariant.1
    ∙ ap (within c.args.most) (at_drop_all (value_after c.loop-b.value) _ _ c.loop-b-test.false)
    ∙ within-fits _ _ c.loop-b.invariant.0)
