use Rattle.std.proofs.Common.{ℕ, List, ◌++◌, string_bytes, ◌∙◌, ap₂}
use Rattle.bench_text.proofs.whole_text.Goals as goal

pub returns : goal.returns
returns c =
    (string_bytes c.in_ok-rest.rest, c.in_ok-push_str.ensures.bytes ∙ ap₂ (λ (x y : List ℕ). x ++ y) c.in_ok-text.ensures c.as_str.ensures.value, c.in_ok-rest.ensures)
