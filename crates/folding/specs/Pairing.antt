-- Walking two terms side by side: what is known so far of a renaming that makes the one the other. Assumes nothing.
use Rattle.std.specs.Prelude.{◌≡◌, ℕ, ◌<◌, ◌≤◌, Bool, true, false, List, length, Some, None, Option, slice_index, slice_index_or}
use Rattle.terms.specs.declared.TermRecord.{TermRecord}
use Rattle.terms.specs.Terms.{renamed}
use Rattle.terms.specs.Bank.{term_at}

-- the renaming f sends each name that is bound so far to what it is bound to
abbrev pub Respects : (ℕ → ℕ) → List (Option ℕ) → Type 0
Respects f to = (x y : ℕ) → slice_index_or to x None ≡ Some y → f x ≡ y

-- what respects the later bindings respects the earlier ones
abbrev pub Stronger : List (Option ℕ) → List (Option ℕ) → Type 0
Stronger to to' = (f : ℕ → ℕ) → Respects f to' → Respects f to

-- the renaming f makes the term at place i the one at place j
abbrev pub Renames : List TermRecord → ℕ → ℕ → (ℕ → ℕ) → Type 0
Renames rs i j f = renamed f (term_at rs i) ≡ term_at rs j

-- the renaming f makes each of the first k terms, by their places, the one across from it
abbrev pub RenamesEach : List TermRecord → List ℕ → List ℕ → ℕ → (ℕ → ℕ) → Type 0
RenamesEach rs older newer k f = (m : ℕ) → m < k → Renames rs (slice_index older m) (slice_index newer m) f

-- After a test that succeeds, the renamings that respect the bindings are those that did before and pass it. Where the
-- test fails, none of them passes it.
abbrev pub Narrowed : List (Option ℕ) → List (Option ℕ) → ((ℕ → ℕ) → Type 0) → Bool → Type 0
Narrowed to to' Passes true = (f : ℕ → ℕ) → (Respects f to' → Respects f to × Passes f) × (Respects f to → Passes f → Respects f to')
Narrowed to to' Passes false = (f : ℕ → ℕ) → Respects f to → Passes f → ⊥

-- Which place each older place is paired with so far: every renaming that respects the bindings makes the one the
-- other. Names are bound to names.
pub record Pictured (rs : List TermRecord) (n : ℕ) (image to : List (Option ℕ)) : Type 0 where
  pub inside : (i j : ℕ) → slice_index_or image i None ≡ Some j → j < n
  pub renames : (i j : ℕ) → slice_index_or image i None ≡ Some j → (f : ℕ → ℕ) → Respects f to → Renames rs i j f
  pub named : (x y : ℕ) → slice_index_or to x None ≡ Some y → y < 32

-- room for pairs, and those so far
pub record Walkable (rs : List TermRecord) (n : ℕ) (image to : List (Option ℕ)) : Type 0 where
  pub pictures : 512 ≤ length image
  pub names : 32 ≤ length to
  pub pictured : Pictured rs n image to
