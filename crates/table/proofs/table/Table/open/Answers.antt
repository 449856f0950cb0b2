use Rattle.std.proofs.Common.{◌≡◌, ℕ, ◌<◌, ◌∷◌, [], List, take, map, length, replicate, refl, sym, ap, ◌∙◌, subst, arith, zero-add}
use Rattle.std.proofs.lemmas.List.{take_more_set}
use Rattle.sheet.specs.View.{sheet_of}
use Rattle.forms.specs.Rows.{Row}
use Rattle.rows.specs.Records.{row_in}
use Rattle.rules.specs.declared.Mark.{Mark}
use Rattle.rules.specs.declared.Mark.TheVariants.{Waiting}
use Rattle.rules.specs.Standing.{branches}
use Rattle.table.proofs.table.Table.open.Goals as goal

pub returns-in-Ok-clause-opened : goal.returns-in-Ok-clause-opened
returns-in-Ok-clause-opened c =
    let t = c.args.self.now in
    let s = sheet_of c.args.sheet in
    let begun = c.in-Ok.ensures in
    let room : 0 < length t.rows.now = omega arith in
    let waits : take (branches s) c.wait.new.marks ≡ replicate (branches s) Waiting =
    subst (λ (k : ℕ). take k c.wait.new.marks ≡ replicate k Waiting) c.branches_of.ensures.number
    (ap (λ (k : ℕ). take k c.wait.new.marks) (sym (zero-add c.branches_of.result)) ∙ c.wait.ensures) in (
      (omega arith, omega arith, record { bank = omega arith; rows = omega arith; marks = omega arith; work = omega arith }, begun.1),
      record {
        opened = (refl, refl);
        rows = ap (map (row_in s c.begin.new.bank)) (take_more_set t.rows.now 0 c.in-Ok.row room) ∙ ap (λ (r : Row). r ∷ []) begun.0;
        marks = ap (λ (ms : List Mark). ms ∷ []) waits;
        terms = begun.2;
      },
    )
