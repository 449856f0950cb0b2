use Rattle.std.proofs.Common.{◌≡◌, ℕ, ◌*◌, take, length, refl, ap, ◌∙◌, arith}
use Rattle.std.specs.List.{count_by}
use Rattle.rules.specs.Standing.{waiting, out, is_waiting, is_out}
use Rattle.table.specs.Places.{branches_in}
use Rattle.table.proofs.Marking.{counts, rows_many, open_or_none}
use Rattle.table.proofs.table.Table.verdict.Goals as goal

pub returns-then-out-eq0 : goal.returns-then-out-eq0
returns-then-out-eq0 c = λ s limit at stands.
    let t = c.args.self.now in
    let front : c.front-marks.result.now ≡ take (t.used * branches_in t.sheet) t.marks.now =
    c.front-marks.ensures ∙ ap (λ (k : ℕ). take (t.used * k) t.marks.now) c.branches.ensures.number in
    let w : c.waiting_in-waiting.result ≡ waiting at = c.waiting_in-waiting.ensures ∙ (ap (count_by is_waiting) front ∙ counts t s limit at stands is_waiting) in
    let o : c.out_in-out.result ≡ out at = c.out_in-out.ensures ∙ (ap (count_by is_out) front ∙ counts t s limit at stands is_out) in
    let rows = rows_many t s limit at stands in
    (at, (tt, (omega (arith, rows, c.if-self-gt0.true), omega (arith, w, o, c.if-waiting-eq0.true, c.if-out-eq0.true)), refl), stands)

pub returns : goal.returns
returns c = λ s limit at stands.
    let t = c.args.self.now in
    let front : c.front-marks.result.now ≡ take (t.used * branches_in t.sheet) t.marks.now =
    c.front-marks.ensures ∙ ap (λ (k : ℕ). take (t.used * k) t.marks.now) c.branches.ensures.number in
    let w : c.waiting_in-waiting.result ≡ waiting at = c.waiting_in-waiting.ensures ∙ (ap (count_by is_waiting) front ∙ counts t s limit at stands is_waiting) in
    let o : c.out_in-out.result ≡ out at = c.out_in-out.ensures ∙ (ap (count_by is_out) front ∙ counts t s limit at stands is_out) in
    let rows = rows_many t s limit at stands in
    (at, (tt, (w, o, open_or_none (length at.rows) c.waiting_in-waiting.result c.out_in-out.result (λ some none_waits none_out. grind (arith, rows, c.else-self-gt0.either))), refl), stands)
