use Rattle.std.proofs.Common.{◌≡◌, ℕ, List, ◌++◌, length, take, vec_items, sym, ap, ◌∙◌, ap₂, rules, arith}
use Rattle.std.proofs.lemmas.List.{length-take-le}
use Rattle.sheet.specs.View.{sheet_of}
use Rattle.sheet.proofs.Fewness.{few_bits, few_readings}
use Rattle.bench.specs.Outcome.{last_of}
use Rattle.bench_text.specs.Lines.{last_line}
use Rattle.bench_text.proofs.Lasting.{numbers_of, last-unwrap_or, ran_text}
use Rattle.bench_text.proofs.ending.Goals as goal

pub slice_bounds-bits-end : goal.slice_bounds-bits-end
slice_bounds-bits-end c =
    omega (arith, c.len.ensures, c.args.sheet.now.parts.bits.ok.0, few_bits (sheet_of c.args.sheet.now) c.args.sheet.now.lawful, c.map-bits.ensures.items.long)

pub slice_bounds-bits-end-2 : goal.slice_bounds-bits-end-2
slice_bounds-bits-end-2 c =
    sym (length-take-le c.len.result c.map-bits.result (omega (arith, c.len.ensures, c.args.sheet.now.parts.bits.ok.0, few_bits (sheet_of c.args.sheet.now) c.args.sheet.now.lawful, c.map-bits.ensures.items.long)))

pub shared_ref_as_front-readings : goal.shared_ref_as_front-readings
shared_ref_as_front-readings c =
    omega (arith, c.len-2.ensures, c.args.sheet.now.parts.readings.ok.0, few_readings (sheet_of c.args.sheet.now) c.args.sheet.now.lawful)

pub returns : goal.returns
returns c =
    let parts = c.args.sheet.now.parts in
    let last = c.args.last.now in
    let few = few_bits (sheet_of c.args.sheet.now) c.args.sheet.now.lawful in
    let b : c.len.result ≡ length (vec_items parts.bits) = c.len.ensures ∙ parts.bits.ok.0 in
    let r : c.len-2.result ≡ length (vec_items parts.readings) = c.len-2.ensures ∙ parts.readings.ok.0 in
    let bits = numbers_of _ _ last.bits c.map-bits.result 16 (λ p q x k call. search rules) c.map-bits.ensures.items (omega arith) c.len.result (omega (arith, b, few)) in
    let i = c.unwrap_or.ensures ∙ last-unwrap_or c.args.n c.args.answer in
    let is = c.in_ok-push_last.ensures (take c.len.result last.bits) bits ∙ ap₂ (λ (x y : List ℕ). x ++ y) c.in_ok-text.ensures (ap₂ (λ (n m : ℕ). last_line n (take m last.bits) (take c.len-2.result last.readings)) i b ∙ ap (λ (m : ℕ). last_line (last_of c.args.n c.args.answer) (take (length (vec_items parts.bits)) last.bits) (take m last.readings)) r) in
    let few_r = few_readings (sheet_of c.args.sheet.now) c.args.sheet.now.lawful in
    λ m starts inputs accepted done. ran_text m (sheet_of c.args.sheet.now) starts inputs c.args.n c.args.answer last _ accepted done (omega (arith, few)) (omega (arith, few_r)) is
