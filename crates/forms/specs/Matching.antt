-- When an older row takes a form: a renaming of its names. Assumes nothing.
use Rattle.std.specs.Prelude.{◌≡◌, ℕ, ◌<◌, map}
use Rattle.std.specs.List.{AllByRecursion}
use Rattle.terms.specs.Terms.{renamed, Literal, Entails}
use Rattle.forms.specs.Rows.{Row}

abbrev pub renamed_in : (ℕ → ℕ) → Literal → Literal
renamed_in to c = record { left = renamed to c.left; right = renamed to c.right; sign = c.sign }

-- The renaming, from the older row's names to names, makes its vector the form's, and each of its conditions
-- true wherever the form's are.
pub record Fits (to : ℕ → ℕ) (older form : Row) : Type 0 where
  pub names : (x : ℕ) → to x < 32
  pub bits : older.bits ≡ form.bits
  pub vector : map (renamed to) older.vector ≡ form.vector
  pub conditions : AllByRecursion (Entails form.conditions) (map (renamed_in to) older.conditions)

-- some renaming fits
abbrev pub Takes : Row → Row → Type 0
Takes older form = (to : ℕ → ℕ) × Fits to older form
