use Rattle.std.proofs.Common.{◌≡◌, length, map, sym, ap, ◌∙◌}
use Rattle.std.proofs.lemmas.List.{take_at}
use Rattle.table.specs.Answers.{call_of}
use Rattle.session_text.proofs.Telling.{one_sheet, stretch_told}
use Rattle.session_text.proofs.working.push_stretch.Goals as goal

pub returns-clause-told : goal.returns-clause-told
returns-clause-told c = λ s read.
    let whole : length c.worked-refusal.new.entries ≡ c.in_ok-entries.entries.len =
    c.worked-refusal.auto.entries ∙ ap length c.deref_mut.ensures.value ∙ sym c.in_ok-entries.entries.ok.0 in
    stretch_told s c.args.limit _ _ _ _ _ _ _ c.worked-refusal.new.entries _ (one_sheet c.args.bytes.now s _ read c.in-Ok.ensures) (c.deref.ensures.value ∙ take_at _ _ _ whole)
    (c.worked-refusal.ensures.calls ∙ ap (map call_of) c.deref_mut.ensures.value ∙ c.in_ok-entries.ensures)
    c.worked-refusal.ensures.worked c.in_ok-push_open.ensures c.in_ok-push_entries.ensures
