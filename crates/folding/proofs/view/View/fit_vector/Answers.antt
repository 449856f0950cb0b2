use Rattle.std.proofs.Common.{◌≡◌, Bool, true, false, not, List, take, Decides, sym, refl, ap, ◌∙◌}
use Rattle.std.proofs.lemmas.Slice.Eq.{slice_eq-Decides}
use Rattle.std.proofs.lemmas.Bool.{true≢false}
use Rattle.sheet.specs.View.{sheet_of}
use Rattle.folding.proofs.Forcing.{bits_apart, fit_found}
use Rattle.folding.proofs.view.View.fit_vector.Goals as goal
use Rattle.std.specs.Cmp.{booleans_Decides}

different : (xs ys : List Bool) (x r : Bool) → Decides x (xs ≡ ys) → r ≡ not x → r ≡ true → xs ≡ ys → ⊥
different xs ys x r decides is yes' same = true≢false (sym yes' ∙ (is ∙ ap not (decides.1 same)))

alike : (xs ys : List Bool) (x r : Bool) → Decides x (xs ≡ ys) → r ≡ not x → r ≡ false → xs ≡ ys
alike xs ys true r decides is no' = decides.0 refl
alike xs ys false r decides is no' = absurd (true≢false (sym is ∙ no'))

pub returns-then-ne : goal.returns-then-ne
returns-then-ne c =
    let older = c.args.older.now in
    let form = c.args.form.now in
    let bits = c.bits_of-bits.result in
    bits_apart (sheet_of c.args.sheet.now) c.args.self.now.records.now older form bits c.bits_of-bits.ensures
    (different (take bits older.bits) (take bits form.bits) _ c.ne.result (slice_eq-Decides booleans_Decides (take bits older.bits) (take bits form.bits) _ refl) c.ne.ensures c.if-ne.true)

pub returns : goal.returns
returns c =
    let older = c.args.older.now in
    let form = c.args.form.now in
    let bits = c.bits_of-bits.result in
    fit_found (sheet_of c.args.sheet.now) c.args.self.now.records.now c.args.self.now.count.terms c.readings_of-readings.result older form c.readings_of-readings.ensures c.requires.older c.requires.form bits c.bits_of-bits.ensures
    (alike (take bits older.bits) (take bits form.bits) _ c.ne.result (slice_eq-Decides booleans_Decides (take bits older.bits) (take bits form.bits) _ refl) c.ne.ensures c.if-ne.false)
    c.match_terms.result c.match_terms.ensures
