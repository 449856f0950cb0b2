use Rattle.std.proofs.Common.{◌≡◌, ◌+◌, ◌++◌, get_or, drop, string_bytes, codes, decimal, sym, ap, ◌∙◌, append_assoc, append-nil}
use Rattle.std.proofs.lemmas.List.{at_drop_more, at_drop_all}
use Rattle.sheet_text.specs.Lines.{numbers_of}
use Rattle.sheet_text.proofs.push_numbers.Goals as goal

pub loop-b-preserved : goal.loop-b-preserved
loop-b-preserved c =
    let n = get_or c.args.body.now c.loop-b.b-index 0 in
    let more = drop (c.loop-b.b-index + 1) c.args.body.now in
    let e : numbers_of (drop c.loop-b.b-index c.args.body.now) ≡ (codes " " ++ decimal n) ++ numbers_of more = at_drop_more numbers_of c.args.body.now c.loop-b.b-index 0 c.loop-b-test.true in
    let w = c.in_ok-write.ensures.bytes in
    let g = append_assoc (string_bytes c.loop-b.text) (codes " " ++ decimal n) (numbers_of more) in
    let i = c.loop-b.invariant in
    cc

pub returns : goal.returns
returns c =
    let e = at_drop_all numbers_of c.args.body.now c.loop-b.b-index c.loop-b-test.false in
    sym (append-nil (string_bytes c.loop-b.text)) ∙ (ap (λ l. string_bytes c.loop-b.text ++ l) (sym e) ∙ c.loop-b.invariant)
