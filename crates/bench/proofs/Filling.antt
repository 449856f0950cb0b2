-- Lists that are filled in place by place.
use Rattle.std.proofs.Common.{◌≡◌, ℕ, ◌+◌, ◌<◌, ◌≤◌, List, length, get_or, take, set, sym, ap, ◌∙◌, ⊎_elim, arith}
use Rattle.std.proofs.lemmas.Bool.{cases_lt}
use Rattle.std.proofs.lemmas.List.{get_or-take, get_or_past}
use Rattle.bench.specs.Outcome.{Same}
use Rattle.sheet.proofs.Arrays.{set_more}

-- one place more
pub filled_more : {V : Type 0} (d : V) (out values : List V) (k : ℕ) (v : V) → k < length out → v ≡ get_or values k d → ((j : ℕ) → j < k → get_or out j d ≡ get_or values j d) → (j : ℕ) → j < k + 1 → get_or (set out k v) j d ≡ get_or values j d
filled_more d out values k v inside is old j h = set_more (λ (j : ℕ) x. x ≡ get_or values j d) out k v d inside old is j h

-- values, and then the default
pub begins_same : {V : Type 0} (d : V) (out values : List V) (m : ℕ) → m ≡ length values → (take m out ≡ values) × ((k : ℕ) → m ≤ k → get_or out k d ≡ d) → Same d out values
begins_same d out values m is both k = ⊎_elim (λ lt. sym (get_or-take m out k d lt) ∙ ap (λ l. get_or l k d) both.0) (λ ge. both.1 k ge ∙ sym (get_or_past values k d (omega arith))) (cases_lt k m)
