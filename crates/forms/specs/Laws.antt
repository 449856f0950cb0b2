-- What rows, forms and matching are for. Assumes nothing.
use Rattle.std.specs.Prelude.{◌≡◌, ℕ, ◌^◌, ◌<◌, ◌≤◌, Bool, true, false, List, map, length, Some, None, Option}
use Rattle.std.specs.List.{AllByRecursion}
use Rattle.plant.specs.Plant.{IsValue, IsPlant}
use Rattle.sheet.specs.Lawful.{Lawful}
use Rattle.sheet.specs.Runs.{Configuration, start, step_values, step}
use Rattle.sheet.specs.System.{System}
use Rattle.sheet.specs.Truth.{Meaning, answers}
use Rattle.terms.specs.Terms.{Term, Interpretation, height, Sat}
use Rattle.forms.specs.Rows.{Row, RowOf, CoversBy, Covers, first_row, stands, lowest_free}
use Rattle.forms.specs.Candidate.{branch_answers, input_names, candidate}
use Rattle.forms.specs.Form.{lowest, is_low, is_named, Form}
use Rattle.forms.specs.Counted.{Built, FormIn}
use Rattle.forms.specs.Matching.{Fits}
use Rattle.forms.specs.Safety.{Safe, Unsafe, Breaking}

-- under every meaning, the second row covers all that the first covers
abbrev pub CoveredBy : Row → Row → Type 0
CoveredBy row wider = (m : Meaning) (c : Configuration) → Covers m row c → Covers m wider c

-- where a renaming fits, the older row covers all that the form covers
abbrev pub FittingCovers : Type 0
FittingCovers = (to : ℕ → ℕ) (older form : Row) → Fits to older form → CoveredBy form older

-- the form covers all that its candidate covers
abbrev pub FormCovers : Type 0
FormCovers = (h : ℕ) (candidate form : Row) → Form h candidate (Some form) → CoveredBy candidate form

-- with these inputs, the configuration goes through the branch: the questions have the branch's answers
abbrev pub Enters : Meaning → System → Configuration → List ℕ → ℕ → Type 0
Enters m s c inputs b = branch_answers (length s.questions) b ≡ answers (step_values m s c inputs) s.questions

-- Exactly one branch is entered. Its candidate covers the next configuration, where the names of the row keep
-- their values and each input's name has the input's value.
pub record Steps (s : System) (row : Row) (names : List ℕ) (i : Interpretation) (c : Configuration) (inputs : List ℕ) : Type 0 where
  pub branch : ℕ
  pub within : branch < 2 ^ length s.questions
  pub enters : Enters i.meaning s c inputs branch
  pub only : (b : ℕ) → b < 2 ^ length s.questions → Enters i.meaning s c inputs b → b ≡ branch
  pub next : Row
  pub made : candidate s row branch ≡ Some next
  pub by : Interpretation
  pub under : by.meaning ≡ i.meaning
  pub kept : (x : ℕ) → stands row x ≡ true → by.values x ≡ i.values x
  pub given : map by.values names ≡ inputs
  pub covers : CoversBy by next (step i.meaning s c inputs)

-- the inputs of one step of a sheet
pub record InputsOf (s : System) (inputs : List ℕ) : Type 0 where
  pub long : length inputs ≡ s.inputs
  pub small : AllByRecursion IsValue inputs

-- a configuration that a row covers goes, with any inputs, through exactly one branch, and that branch's
-- candidate covers the next configuration
abbrev pub BranchCovers : Type 0
BranchCovers = (s : System) → Lawful s → (row : Row) → RowOf s row → (names : List ℕ) → input_names s row ≡ Some names → (i : Interpretation) (c : Configuration) → CoversBy i row c → (inputs : List ℕ) → InputsOf s inputs → Steps s row names i c inputs

-- no configuration that the row covers goes through the branch
abbrev pub NotEntered : System → Row → ℕ → Type 0
NotEntered s row b = (m : Meaning) (c : Configuration) → Covers m row c → (inputs : List ℕ) → InputsOf s inputs → Enters m s c inputs b → ⊥

-- a branch whose candidate's conditions are impossible is entered by no configuration that the row covers
abbrev pub ImpossibleBranch : Type 0
ImpossibleBranch = (s : System) → Lawful s → (row : Row) → RowOf s row → (b : ℕ) → b < 2 ^ length s.questions → (next : Row) → candidate s row b ≡ Some next → (Sat next.conditions → ⊥) → (m : Meaning) (c : Configuration) → Covers m row c → (inputs : List ℕ) → InputsOf s inputs → Enters m s c inputs b → ⊥

-- a configuration that the row covers, and that goes through the branch, goes to one that `next` covers
abbrev pub CoversStep : System → Row → ℕ → Row → Type 0
CoversStep s row b next = (m : Meaning) (c : Configuration) → Covers m row c → (inputs : List ℕ) → InputsOf s inputs → Enters m s c inputs b → Covers m next (step m s c inputs)

-- the same, said of one branch and its candidate
abbrev pub CandidateCovers : Type 0
CandidateCovers = (s : System) → Lawful s → (row : Row) → RowOf s row → (b : ℕ) → b < 2 ^ length s.questions → (next : Row) → candidate s row b ≡ Some next → CoversStep s row b next

-- Safety by cases of the claims: where none breaks, the invariant is true in all that the form covers, under
-- every meaning; where one does, a meaning and a configuration show it; and none breaks where the form is safe.
pub record Decided (s : System) (form : Row) : Type 0 where
  pub safe : (Breaking s form → ⊥) → Safe s form
  pub unsafe : Breaking s form → Unsafe s form
  pub exact : Safe s form → Breaking s form → ⊥

abbrev pub SafetyByCases : Type 0
SafetyByCases = (s : System) → Lawful s → (form : Row) → RowOf s form → Decided s form

-- row 0 covers the start from any values
abbrev pub StartsCovered : System → Meaning → Type 0
StartsCovered s m = (values : List ℕ) → AllByRecursion IsValue values → Covers m (first_row s) (start m s values)

-- row 0 has a term for each reading, and covers every start of a lawful sheet on every plant
pub record Starts (s : System) : Type 0 where
  pub shaped : RowOf s (first_row s)
  pub covers : Lawful s → (m : Meaning) → IsPlant m → StartsCovered s m

abbrev pub FirstRowCovers : Type 0
FirstRowCovers = (s : System) → Starts s

-- what a form is like: nothing in it is higher than h, it has at most 16 conditions, and their names stand in
-- its vector
pub record Formed (h : ℕ) (form : Row) : Type 0 where
  pub low : AllByRecursion (λ t. height t ≤ h) form.vector
  pub conditions_low : AllByRecursion (λ c. is_low h c ≡ true) form.conditions
  pub named : AllByRecursion (λ c. is_named form.vector c ≡ true) form.conditions
  pub few : length form.conditions ≤ 16

-- a candidate has exactly one form, or wants names; the form is so, and has a term for each reading
pub record FormOf (h : ℕ) (row : Row) : Type 0 where
  pub outcome : Option Row
  pub is : Form h row outcome
  pub only : (a b : Option Row) → Form h row a → Form h row b → a ≡ b
  pub formed : (form : Row) → Form h row (Some form) → Formed h form
  pub shaped : (form : Row) → Form h row (Some form) → length form.vector ≡ length row.vector

abbrev pub OneForm : Type 0
OneForm = (h : ℕ) (row : Row) → FormOf h row

-- With the terms counted: what is made is the form, names are wanting only where the form wants them, and building
-- comes to one outcome.
pub record Counts (h : ℕ) (seen : List Term) (row : Row) : Type 0 where
  pub made : (form : Row) (seen' : List Term) → FormIn h seen row (Built.made form seen') → Form h row (Some form)
  pub nameless : FormIn h seen row Built.nameless → Form h row None
  pub once : (a b : Built) → FormIn h seen row a → FormIn h seen row b → a ≡ b

abbrev pub CountedForm : Type 0
CountedForm = (h : ℕ) (seen : List Term) (row : Row) → Counts h seen row

-- a candidate has a term for each reading
abbrev pub CandidateShaped : Type 0
CandidateShaped = (s : System) (row : Row) (b : ℕ) (next : Row) → candidate s row b ≡ Some next → RowOf s next

-- the lowest free name is the lowest of the 32 that is not taken, and there is none only where all are taken
abbrev pub IsLowest : (ℕ → Bool) → Option ℕ → Type 0
IsLowest taken None = (y : ℕ) → y < 32 → taken y ≡ true
IsLowest taken (Some x) = (x < 32) × (taken x ≡ false) × ((y : ℕ) → y < x → taken y ≡ true)

-- the way down from any term but a name or a constant ends at a term of height 1
pub record WayDown (t : Term) : Type 0 where
  pub one : 0 < height t → height (lowest t) ≡ 1

pub record Rules : Type 0 where
  pub names : (taken : ℕ → Bool) → IsLowest taken (lowest_free taken)
  pub down : (t : Term) → WayDown t
