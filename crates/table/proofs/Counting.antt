-- Counts, each by each.
use Rattle.std.proofs.Common.{◌≡◌, ℕ}
use Rattle.rules.specs.declared.Counts.{Counts}

-- counts are the same where each of them is
pub same_counts : {r k m t w o r' k' m' t' w' o' : ℕ} → r ≡ r' → k ≡ k' → m ≡ m' → t ≡ t' → w ≡ w' → o ≡ o' → ◌≡◌ {A = Counts} (record { rows = r; kept = k; merged = m; struck = t; waiting = w; out = o }) (record { rows = r'; kept = k'; merged = m'; struck = t'; waiting = w'; out = o' })
same_counts a b c d e f = cc
