use Rattle.std.proofs.Common.{◌≡◌, ℕ, Bool, ◌*◌, take, sym, ap, ◌∙◌}
use Rattle.std.specs.List.{count_by}
use Rattle.rules.specs.declared.Mark.{Mark}
use Rattle.rules.specs.Standing.{is_waiting, is_out, is_struck, is_merged, is_kept}
use Rattle.table.specs.Places.{branches_in}
use Rattle.table.proofs.Counting.{same_counts}
use Rattle.table.proofs.Marking.{counts, rows_many}
use Rattle.table.proofs.table.Table.counts.Goals as goal

pub returns : goal.returns
returns c = λ s limit at stands.
    let t = c.args.self.now in
    let front : c.front-marks.result.now ≡ take (t.used * branches_in t.sheet) t.marks.now =
    c.front-marks.ensures ∙ ap (λ (k : ℕ). take (t.used * k) t.marks.now) c.branches.ensures.number in
    let counted : (p : Mark → Bool) → _ = λ p. ap (count_by p) front ∙ counts t s limit at stands p in
    same_counts (sym (rows_many t s limit at stands))
    (c.kept_in.ensures ∙ counted is_kept)
    (c.merged_in.ensures ∙ counted is_merged)
    (c.struck_in.ensures ∙ counted is_struck)
    (c.waiting_in.ensures ∙ counted is_waiting)
    (c.out_in.ensures ∙ counted is_out)
