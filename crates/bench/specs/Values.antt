-- Which values are known while the terms are worked out in two passes, first those without inputs, then the
-- others; and what no call changes in a model. Assumes nothing.
use Rattle.std.specs.Prelude.{◌≡◌, ℕ, ◌<◌, Bool, true, List, length, slice_index}
use Rattle.sheet.specs.declared.syntax.Term.{Term}
use Rattle.sheet.specs.Rules.{term_infos, input_at}

-- a term with inputs is due by the late pass, one without by the first
abbrev pub Due : Bool → Bool → Type 0
Due late flag = flag ≡ true → late ≡ true

-- every value that is due by now is right
abbrev pub Known : Bool → List Term → List ℕ → List ℕ → Type 0
Known late terms all values = (k : ℕ) → k < length values → Due late (input_at (term_infos terms) k) → slice_index values k ≡ slice_index all k

-- a model has the meaning and the lenders that it had
abbrev pub Kept : {M : Type 0} → (M → ℕ → List ℕ → ℕ) → (M → List ℕ) → M → M → Type 0
Kept meaning lenders old new = (meaning new ≡ meaning old) × (lenders new ≡ lenders old)
