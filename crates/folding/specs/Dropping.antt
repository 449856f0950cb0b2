-- Which conditions a form keeps: words for the contracts of inner functions. Assumes nothing.
use Rattle.std.specs.Prelude.{◌≡◌, ℕ, ◌/◌, ◌%◌, ◌^◌, cond, List, [], take, filter}
use Rattle.terms.specs.Terms.{Term, Literal}
use Rattle.forms.specs.Rows.{occurs_in_terms}
use Rattle.forms.specs.Form.{is_low, is_named, without_repeats}

-- the conditions that stay in a row with this vector, at height h
abbrev pub kept_conditions : ℕ → List Term → List Literal → List Literal
kept_conditions h vector cs = take 16 (without_repeats [] (filter (is_named vector) (filter (is_low h) cs)))

-- bit x is set exactly where name x stands in one of the terms
abbrev pub NamesIn : ℕ → List Term → Type 0
NamesIn names ts = (x : ℕ) → names / 2 ^ x % 2 ≡ cond (occurs_in_terms x ts) 1 0
