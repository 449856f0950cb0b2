-- Candidates, forms, matching and safety with the terms counted: which of the two wants, names or terms, is met first. The
-- terms `seen` are the bank's and the working terms so far. Assumes nothing.
use Rattle.std.specs.Prelude.{◌≡◌, ℕ, ◌<◌, List, [], ◌∷◌, ◌++◌, map, Some, None}
use Rattle.sheet.specs.System.{System}
use Rattle.terms.specs.Terms.{Term, name, renamed, Literal}
use Rattle.banks.specs.Room.{Roomy, Crowded}
use Rattle.forms.specs.Rows.{Row, stands, lowest_free}
use Rattle.forms.specs.Candidate.{candidate}
use Rattle.forms.specs.Form.{first_higher, lowest, replaced_row, trimmed}
use Rattle.forms.specs.Matching.{renamed_in}
use Rattle.forms.specs.Safety.{claim_conditions}

-- the terms of conditions, and of a row
abbrev pub sides_of : List Literal → List Term
sides_of [] = []
sides_of (c ∷ cs) = c.left ∷ c.right ∷ sides_of cs

abbrev pub terms_in : Row → List Term
terms_in row = row.vector ++ sides_of row.conditions

-- what building comes to: a row, with the terms seen by then; or names are wanting; or terms are
pub data Built : Type 0 where
  made : Row → List Term → Built
  nameless : Built
  crowded : Built

-- The candidate: all input names come before any term.
abbrev pub CandidateIn : System → Row → ℕ → List Term → Built → Type 0
CandidateIn s row b seen (made next seen') = (candidate s row b ≡ Some next) × (seen' ≡ seen ++ terms_in next) × Roomy seen'
CandidateIn s row b seen nameless = candidate s row b ≡ None
CandidateIn s row b seen crowded = (next : Row) × (candidate s row b ≡ Some next) × Crowded (seen ++ terms_in next)

-- The candidate's conditions alone, which is all that a strike needs.
abbrev pub ConditionsIn : System → Row → ℕ → List Term → List Literal → Type 0
ConditionsIn s row b seen cs = (next : Row) × (candidate s row b ≡ Some next) × (cs ≡ next.conditions) × Roomy (seen ++ sides_of cs)

abbrev pub ConditionsCrowded : System → Row → ℕ → List Term → Type 0
ConditionsCrowded s row b seen = (next : Row) × (candidate s row b ≡ Some next) × Crowded (seen ++ sides_of next.conditions)

-- Cutting: each cut's name comes before its result, and every result counts.
pub data CutIn (h : ℕ) : List Term → Row → Built → Type 0 where
  low : (seen : List Term) (row : Row) → first_higher h row.vector ≡ None → CutIn h seen row (made row seen)
  wanting : (seen : List Term) (row : Row) (t : Term) → first_higher h row.vector ≡ Some t → lowest_free (stands row) ≡ None → CutIn h seen row nameless
  full : (seen : List Term) (row : Row) (t : Term) (x : ℕ) → first_higher h row.vector ≡ Some t → lowest_free (stands row) ≡ Some x → Crowded (seen ++ terms_in (replaced_row (lowest t) (name x) row)) → CutIn h seen row crowded
  cut : (seen : List Term) (row : Row) (t : Term) (x : ℕ) (end : Built) → first_higher h row.vector ≡ Some t → lowest_free (stands row) ≡ Some x → Roomy (seen ++ terms_in (replaced_row (lowest t) (name x) row)) → CutIn h (seen ++ terms_in (replaced_row (lowest t) (name x) row)) (replaced_row (lowest t) (name x) row) end → CutIn h seen row end

abbrev pub FormIn : ℕ → List Term → Row → Built → Type 0
FormIn h seen row (made form seen') = (end : Row) × CutIn h seen row (made end seen') × (form ≡ trimmed h end)
FormIn h seen row nameless = CutIn h seen row nameless
FormIn h seen row crowded = CutIn h seen row crowded

-- A renaming that makes the bits and the vector fit. Only then are the older row's conditions, renamed, looked at.
pub record FitsVector (to : ℕ → ℕ) (older form : Row) : Type 0 where
  pub names : (x : ℕ) → to x < 32
  pub bits : older.bits ≡ form.bits
  pub vector : map (renamed to) older.vector ≡ form.vector

abbrev pub renamed_sides : (ℕ → ℕ) → Row → List Term
renamed_sides to older = sides_of (map (renamed_in to) older.conditions)

-- the terms of all the sheet's claims over a form's vector
abbrev pub claim_terms : System → Row → List Term
claim_terms s form = sides_of (claim_conditions s form 0)
