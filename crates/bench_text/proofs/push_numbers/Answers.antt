use Rattle.std.proofs.Common.{◌≡◌, ◌+◌, ◌++◌, get_or, drop, string_bytes, codes, decimal, sym, ap, ◌∙◌, append_assoc, append-nil}
use Rattle.std.proofs.lemmas.List.{at_drop_more, at_drop_all}
use Rattle.bench_text.specs.Lines.{spaced}
use Rattle.bench_text.proofs.push_numbers.Goals as goal

pub loop-number-preserved : goal.loop-number-preserved
loop-number-preserved c =
    let n = get_or c.args.numbers.now c.loop-number.number-index 0 in
    let more = drop (c.loop-number.number-index + 1) c.args.numbers.now in
    let e : spaced (drop c.loop-number.number-index c.args.numbers.now) ≡ (codes " " ++ decimal n) ++ spaced more = at_drop_more spaced c.args.numbers.now c.loop-number.number-index 0 c.loop-number-test.true in
    let p = c.in_ok-write.ensures in
    let g = append_assoc (string_bytes c.loop-number.text) (codes " " ++ decimal n) (spaced more) in
    let i = c.loop-number.invariant in
    cc

pub returns : goal.returns
returns c =
    let e = at_drop_all spaced c.args.numbers.now c.loop-number.number-index c.loop-number-test.false in
    sym (append-nil (string_bytes c.loop-number.text)) ∙ (ap (λ l. string_bytes c.loop-number.text ++ l) (sym e) ∙ c.loop-number.invariant)
