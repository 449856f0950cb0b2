-- The table by which a bank's test looks nodes up: words for the contracts of inner functions. Assumes nothing.
use Rattle.std.specs.Prelude.{ℕ, ◌<◌, List, None, Option, slice_index_or}
use Rattle.terms.specs.declared.TermRecord.{TermRecord}
use Rattle.terms.specs.Bank.{node_at}
use Rattle.closure.specs.Working.{bucket_of, Reaches}

-- each of the first i places stands on the chain of its node's bucket
abbrev pub Listed : List TermRecord → List (Option ℕ) → List (Option ℕ) → ℕ → Type 0
Listed rs heads next i = (j : ℕ) → j < i → Reaches next (slice_index_or heads (bucket_of (node_at rs j)) None) j
