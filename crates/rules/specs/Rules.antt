-- The rules of each call: which faults refuse it, and when nothing does. Assumes nothing.
use Rattle.std.specs.Prelude.{◌≡◌, ◌≢◌, ℕ, ◌<◌, ◌≤◌, ◌⊎◌, List, ◌++◌, length}
use Rattle.std.specs.Prelude.{slice_get, Some, None}
use Rattle.fault.specs.declared.TableFault.{TableFault}
use Rattle.fault.specs.declared.TableFault.TheVariants.{NoSuchBranch, NotWaiting, NotOut}
use Rattle.fault.specs.declared.TableFault.TheVariants.{HeightAboveBound, NamesExhausted}
use Rattle.fault.specs.declared.TableFault.TheVariants.{TermsExhausted, Satisfiable, NoRenaming}
use Rattle.fault.specs.declared.TableFault.TheVariants.{UnsafeForm, RowLimit}
use Rattle.sheet.specs.System.{System}
use Rattle.terms.specs.Terms.{Term, Literal, Sat}
use Rattle.banks.specs.Room.{Roomy, Crowded}
use Rattle.forms.specs.Rows.{Row}
use Rattle.forms.specs.Candidate.{candidate}
use Rattle.forms.specs.Counted.{Built, made, nameless, crowded, CandidateIn, ConditionsIn}
use Rattle.forms.specs.Counted.{ConditionsCrowded, FormIn, FitsVector, renamed_sides, claim_terms}
use Rattle.forms.specs.Matching.{Takes}
use Rattle.forms.specs.Safety.{Safe, Unsafe}
use Rattle.rules.specs.declared.Branch.{Branch}
use Rattle.rules.specs.declared.Mark.TheVariants.{Waiting, Out}
use Rattle.rules.specs.Standing.{Standing, mark_of}

-- the branch is out here
abbrev pub IsOut : Standing → Branch → Type 0
IsOut at b = mark_of at b ≡ Some Out

-- a height above the sheet's bound, and one that is not; a whole sheet has a bound
abbrev pub IsHigh : System → ℕ → Type 0
IsHigh s h = (bound : ℕ) × (s.bound ≡ Some bound) × (bound < h)

abbrev pub IsWithin : System → ℕ → Type 0
IsWithin s h = (bound : ℕ) × (s.bound ≡ Some bound) × (h ≤ bound)

-- a candidate that was made is cut to its form; what was wanting for the candidate is for the form
abbrev pub Continues : ℕ → Built → Built → Type 0
Continues h (made next seen) end = FormIn h seen next end
Continues h nameless end = end ≡ nameless
Continues h crowded end = end ≡ crowded

-- What building the form of a row's branch at a height comes to, where the bank has the terms
-- `seen`: a form, with the bank's and the working terms by then; or names or terms are wanting.
abbrev pub BuildsFrom : System → Row → ℕ → ℕ → List Term → Built → Type 0
BuildsFrom s row number h seen end =
    (begun : Built) × CandidateIn s row number seen begun × Continues h begun end

-- The older row's conditions, renamed so that bits and vector fit, have room beside the terms seen,
-- or have none. Where bits and vector can't fit, nothing is renamed, and there is room.
abbrev pub RenamedRoomy : Row → Row → List Term → Type 0
RenamedRoomy older form seen =
    (to : ℕ → ℕ) → FitsVector to older form → Roomy (seen ++ renamed_sides to older)

abbrev pub RenamedCrowded : Row → Row → List Term → Type 0
RenamedCrowded older form seen =
    (to : ℕ → ℕ) × FitsVector to older form × Crowded (seen ++ renamed_sides to older)

-- P is true of the branch's row
abbrev pub InRow : Standing → Branch → (Row → Type 0) → Type 0
InRow at b P = (row : Row) × (slice_get at.rows b.row ≡ Some row) × P row

module _ (s : System) (at : Standing) where
  -- what building the form of a branch of the table comes to
  abbrev pub Builds : Branch → ℕ → Built → Type 0
  Builds b h end = InRow at b (λ row. BuildsFrom s row b.number h at.terms end)

  -- the form is built, and P is true of it and of the terms seen by then
  abbrev pub BuildsWith : Branch → ℕ → (Row → List Term → Type 0) → Type 0
  BuildsWith b h P = (form : Row) × (seen : List Term) × Builds b h (made form seen) × P form seen

  -- the candidate's conditions are made, have room in the bank, and P is true of them
  abbrev pub ConditionsWith : Branch → (List Literal → Type 0) → Type 0
  ConditionsWith b P =
      InRow at b (λ row. (cs : List Literal) × ConditionsIn s row b.number at.terms cs × P cs)

  -- The ground of each offer, where names and terms suffice.
  -- strike: no model and no values meet the candidate's conditions
  abbrev pub Strikes : Branch → Type 0
  Strikes b = ConditionsWith b (λ cs. Sat cs → ⊥)

  -- merge: a renaming fits; the older row's conditions, renamed, have room
  pub record Merges (b : Branch) (target h : ℕ) : Type 0 where
    pub older : Row
    pub is_row : slice_get at.rows target ≡ Some older
    pub within : IsWithin s h
    pub form : Row
    pub seen : List Term
    pub built : Builds b h (made form seen)
    pub roomy : RenamedRoomy older form seen
    pub takes : Takes older form

  -- keep: the form is safe, and a row is free; the terms of all claims have room
  pub record Keeps (limit : ℕ) (b : Branch) (h : ℕ) (form : Row) (seen : List Term) : Type 0 where
    pub within : IsWithin s h
    pub built : Builds b h (made form seen)
    pub roomy : Roomy (seen ++ claim_terms s form)
    pub safe : Safe s form
    pub free : length at.rows < limit

  -- The refusals, each with what was passed before it.
  abbrev pub TakeRefused : Branch → TableFault → Type 0
  TakeRefused b NoSuchBranch = mark_of at b ≡ None
  TakeRefused b NotWaiting = (mark_of at b ≢ None) × (mark_of at b ≢ Some Waiting)
  TakeRefused b _ = ⊥

  abbrev pub GiveBackRefused : Branch → TableFault → Type 0
  GiveBackRefused b NotOut = IsOut at b → ⊥
  GiveBackRefused b _ = ⊥

  abbrev pub StrikeRefused : Branch → TableFault → Type 0
  StrikeRefused b NotOut = IsOut at b → ⊥
  StrikeRefused b NamesExhausted = IsOut at b × InRow at b (λ row. candidate s row b.number ≡ None)
  StrikeRefused b TermsExhausted =
      IsOut at b × InRow at b (λ row. ConditionsCrowded s row b.number at.terms)
  StrikeRefused b Satisfiable = IsOut at b × ConditionsWith b Sat
  StrikeRefused b _ = ⊥

  -- what a merge has passed before names and terms are looked at
  abbrev pub MergeBegun : Branch → ℕ → ℕ → Row → Type 0
  MergeBegun b target h older = IsOut at b × (slice_get at.rows target ≡ Some older) × IsWithin s h

  abbrev pub MergeRefused : Branch → ℕ → ℕ → TableFault → Type 0
  MergeRefused b target h NotOut = IsOut at b → ⊥
  MergeRefused b target h NoSuchBranch = IsOut at b × (slice_get at.rows target ≡ None)
  MergeRefused b target h HeightAboveBound =
      IsOut at b × (slice_get at.rows target ≢ None) × IsHigh s h
  MergeRefused b target h NamesExhausted =
      (older : Row) × MergeBegun b target h older × Builds b h nameless
  MergeRefused b target h TermsExhausted =
      (older : Row) × MergeBegun b target h older
      × (Builds b h crowded ⊎ BuildsWith b h (RenamedCrowded older))
  MergeRefused b target h NoRenaming =
      (older : Row) × MergeBegun b target h older
      × ((form : Row) × (seen : List Term) × Builds b h (made form seen)
      × RenamedRoomy older form seen × (Takes older form → ⊥))
  MergeRefused b target h _ = ⊥

  abbrev pub KeepRefused : ℕ → Branch → ℕ → TableFault → Type 0
  KeepRefused limit b h NotOut = IsOut at b → ⊥
  KeepRefused limit b h HeightAboveBound = IsOut at b × IsHigh s h
  KeepRefused limit b h NamesExhausted = IsOut at b × IsWithin s h × Builds b h nameless
  KeepRefused limit b h TermsExhausted =
      IsOut at b × IsWithin s h
      × (Builds b h crowded ⊎ BuildsWith b h (λ form seen. Crowded (seen ++ claim_terms s form)))
  KeepRefused limit b h UnsafeForm =
      IsOut at b × IsWithin s h
      × ((form : Row) × (seen : List Term) × Builds b h (made form seen)
      × Roomy (seen ++ claim_terms s form) × Unsafe s form)
  KeepRefused limit b h RowLimit =
      IsOut at b × IsWithin s h
      × ((form : Row) × (seen : List Term) × Builds b h (made form seen)
      × Roomy (seen ++ claim_terms s form) × Safe s form × (limit ≤ length at.rows))
  KeepRefused limit b h _ = ⊥
