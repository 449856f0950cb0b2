use Rattle.std.proofs.Common.{List, ℕ, string_bytes, subst}
use Rattle.session_text.specs.Session.{SessionTold}
use Rattle.session_text.proofs.whole.steps_text.Goals as goal

pub returns : goal.returns
returns c = λ s read.
    let told = subst (λ (old : List ℕ). SessionTold s c.args.limit c.args.steps.now old (string_bytes c.push_steps.new.text) c.in_ok-counts.counts) c.new-text.ensures.bytes (c.in_ok-counts.ensures s read) in
    (string_bytes c.push_steps.new.text, c.in_ok-counts.counts, told, c.in_ok-push_counts.ensures)
