use Rattle.std.proofs.Common.{◌≡◌, length, ◌+◌, [], ◌∷◌, drop, length-append, sym, subst, ap, ◌∙◌, arith, rules, tests}
use Rattle.std.specs.Prelude.{◌==◌}
use Rattle.std.proofs.lemmas.Iterator.Consumers.{YieldsList-at}
use Rattle.std.proofs.lemmas.Iterator.Splits.{YieldsList-from_slice_split}
use Rattle.std.proofs.lemmas.Result.{err_from_is_err_and}
use Rattle.run_file.specs.Directive.{and_then}
use Rattle.run_file.specs.Reading.{Fails, so_far, following}
use Rattle.text_words.specs.Words.{lines_of}
use Rattle.run_file.proofs.Sequences.{lines_more, lines_all, lines_end, fails_on}
use Rattle.run_file.proofs.reading.take_lines.Goals as goal

pub loop-text-preserved : goal.loop-text-preserved
loop-text-preserved c = (
  omega (arith, c.loop-text.invariant.0, length-append c.loop-text.yielded (c.in-Some.text ∷ [])),
  c.loop-text.invariant.1
      ∙ lines_more c.args.bytes.now (YieldsList-at c.into_iter-text-iterator.ensures.into_iter_gives (YieldsList-from_slice_split _ (λ b. b == 10) c.args.bytes.now c.split-text-items.ensures.rest c.split-text-items.ensures.done c.split-text-items.ensures.closure (λ x r q k. search (rules, tests)))) c.loop-text.yielded c.loop-text.text-iterator c.loop-text.yielded_by c.next.result c.next.new.self c.next.ensures.steps _ c.loop-text.invariant.0 _ c.in-Some.text c.in-Some.is
      ∙ ap (λ r. and_then r (λ said. following (c.loop-text.line + 1 + 1) said (drop (c.loop-text.line + 1) (lines_of c.args.bytes.now)))) c.in_ok-take_line.ensures,
)

pub returns-in_err-take_line-clause-said : goal.returns-in_err-take_line-clause-said
returns-in_err-take_line-clause-said c =
    let p = err_from_is_err_and c.from_residual.result c.from_residual.ensures.1 in
    let more = c.loop-text.invariant.1 ∙ lines_more c.args.bytes.now (YieldsList-at c.into_iter-text-iterator.ensures.into_iter_gives (YieldsList-from_slice_split _ (λ b. b == 10) c.args.bytes.now c.split-text-items.ensures.rest c.split-text-items.ensures.done c.split-text-items.ensures.closure (λ x r q k. search (rules, tests)))) c.loop-text.yielded c.loop-text.text-iterator c.loop-text.yielded_by c.next.result c.next.new.self c.next.ensures.steps _ c.loop-text.invariant.0 (so_far c.loop-text.draft) c.in-Some.text c.in-Some.is in
    rw (p.1, p.2) (subst (λ said. Fails c.in_err-take_line.field-0.0 said) (sym more) (fails_on _ _ (λ said. following (c.loop-text.line + 1 + 1) said (drop (c.loop-text.line + 1) (lines_of c.args.bytes.now))) c.in_err-take_line.ensures))

pub returns-clause-said : goal.returns-clause-said
returns-clause-said c =
    c.loop-text.invariant.1
    ∙ lines_end c.args.bytes.now (YieldsList-at c.into_iter-text-iterator.ensures.into_iter_gives (YieldsList-from_slice_split _ (λ b. b == 10) c.args.bytes.now c.split-text-items.ensures.rest c.split-text-items.ensures.done c.split-text-items.ensures.closure (λ x r q k. search (rules, tests)))) c.loop-text.yielded c.loop-text.text-iterator c.loop-text.yielded_by c.next.result c.next.new.self c.next.ensures.steps _ c.loop-text.invariant.0 _ c.in-None.is

pub returns-clause-count : goal.returns-clause-count
returns-clause-count c =
    let all : c.loop-text.line ≡ length (lines_of c.args.bytes.now) = lines_all c.args.bytes.now (YieldsList-at c.into_iter-text-iterator.ensures.into_iter_gives (YieldsList-from_slice_split _ (λ b. b == 10) c.args.bytes.now c.split-text-items.ensures.rest c.split-text-items.ensures.done c.split-text-items.ensures.closure (λ x r q k. search (rules, tests)))) c.loop-text.yielded c.loop-text.text-iterator c.loop-text.yielded_by c.next.result c.next.new.self c.next.ensures.steps _ c.loop-text.invariant.0 (so_far c.loop-text.draft) c.in-None.is in
    omega (arith, all)
