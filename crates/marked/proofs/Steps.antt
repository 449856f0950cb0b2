-- How a call is shown to be borne or refused by the rules, from what it looks at.
use Rattle.std.proofs.Common.{◌≡◌, ℕ, suc, Bool, true, false, ◌&&◌, ◌||◌, List, [], ◌∷◌, ◌++◌, slice_get, Some, None, refl, ◌⊎◌, inl, inr, arith}
use Rattle.std.specs.List.{ContainsAt as Has}
use Rattle.fault.specs.declared.TableFault.TheVariants.{Satisfiable, NoRenaming}
use Rattle.sheet.specs.System.{System}
use Rattle.terms.specs.Terms.{Term, name, constant, unary, binary, ternary, same, Sat}
use Rattle.terms.proofs.Same.{same_true}
use Rattle.banks.specs.Room.{Throughout, HasAll, Roomy}
use Rattle.forms.specs.Rows.{Row, first_row}
use Rattle.forms.specs.Candidate.{candidate}
use Rattle.forms.specs.Form.{first_higher, trimmed}
use Rattle.forms.specs.Counted.{terms_in, sides_of, made, low}
use Rattle.forms.specs.Matching.{Takes}
use Rattle.forms.specs.Safety.{Safe}
use Rattle.rules.specs.declared.Branch.{Branch}
use Rattle.rules.specs.declared.Entry.{Entry}
use Rattle.rules.specs.declared.Outcome.{Outcome}
use Rattle.rules.specs.Standing.{Standing, opening}
use Rattle.rules.specs.Working.{WorkedThrough}
use Rattle.rules.proofs.Worked.{work_played, one_work}
use Rattle.marked.specs.Works.{calls_of, answers_of, Works}
use Rattle.marked.proofs.Reading.{both_of}
use Rattle.rules.specs.Rules.{IsOut, IsWithin, Builds, Merges, StrikeRefused, MergeRefused}

-- Five terms are all that occur.
abbrev pub everything : List Term
everything = name 0 ∷ name 1 ∷ name 2 ∷ constant 0 ∷ unary 1 (name 0) ∷ []

abbrev pub is_one_of : List Term → Term → Bool
is_one_of [] t = false
is_one_of (u ∷ us) t = same u t || is_one_of us t

abbrev pub holds_throughout : List Term → Term → Bool
holds_throughout us (name x) = is_one_of us (name x)
holds_throughout us (constant f) = is_one_of us (constant f)
holds_throughout us (unary f a) = is_one_of us (unary f a) && holds_throughout us a
holds_throughout us (binary f a b) = false
holds_throughout us (ternary f a b c) = false

abbrev pub holds_all : List Term → List Term → Bool
holds_all us [] = true
holds_all us (t ∷ ts) = holds_throughout us t && holds_all us ts

either_of : (a b : Bool) → (a || b) ≡ true → (a ≡ true) ⊎ (b ≡ true)
either_of true b h = inl refl
either_of false b h = inr h

has : (us : List Term) (t : Term) → is_one_of us t ≡ true → Has us t
has [] t h = cc
has (u ∷ us) t h = by (either_of (same u t) (is_one_of us t) h) (λ r. has us t r)
  where
    by : (same u t ≡ true) ⊎ (is_one_of us t ≡ true) → (is_one_of us t ≡ true → Has us t) → Has (u ∷ us) t
    by (inl e) later = (0, omega arith, λ d. same_true u t e)
    by (inr r) later = let k = later r in let lt = k.1 in (suc k.0, omega arith, λ d. k.2 d)

throughout : (us : List Term) (t : Term) → holds_throughout us t ≡ true → Throughout (Has us) t
throughout us (name x) h = has us (name x) h
throughout us (constant f) h = has us (constant f) h
throughout us (unary f a) h = let p = both_of _ _ h in (has us (unary f a) p.0, throughout us a p.1)
throughout us (binary f a b) h = cc
throughout us (ternary f a b c) h = cc

has_all : (us ts : List Term) → holds_all us ts ≡ true → HasAll us ts
has_all us [] h = tt
has_all us (t ∷ ts) h = let p = both_of _ _ h in (throughout us t p.0, has_all us ts p.1)

pub roomy : (ts : List Term) → holds_all everything ts ≡ true → Roomy ts
roomy ts h = (everything, has_all everything ts h, omega arith)

-- A strike is refused where the candidate's conditions are possible.
pub possible : (s : System) (at : Standing) (b : Branch) (row next : Row) → IsOut at b → slice_get at.rows b.row ≡ Some row → candidate s row b.number ≡ Some next → holds_all everything (at.terms ++ sides_of next.conditions) ≡ true → Sat next.conditions → StrikeRefused s at b Satisfiable
possible s at b row next out is_row is fits sat = (out, (row, is_row, (next.conditions, (next, is, refl, roomy _ fits), sat)))

-- A candidate that is not higher than h has no cuts.
pub uncut : (s : System) (at : Standing) (b : Branch) (h : ℕ) (row next : Row) → slice_get at.rows b.row ≡ Some row → candidate s row b.number ≡ Some next → holds_all everything (at.terms ++ terms_in next) ≡ true → first_higher h next.vector ≡ None → Builds s at b h (made (trimmed h next) (at.terms ++ terms_in next))
uncut s at b h row next is_row is fits whole = (row, is_row, (made next (at.terms ++ terms_in next), (is, refl, roomy _ fits), (next, low _ next whole, refl)))

-- what merges and keeps look at
pub record Looks (s : System) (at : Standing) (b : Branch) (h : ℕ) (form : Row) (seen : List Term) : Type 0 where
  pub out : IsOut at b
  pub within : IsWithin s h
  pub built : Builds s at b h (made form seen)

-- an older row that has no conditions takes the form, or doesn't
pub merges : (s : System) (at : Standing) (b : Branch) (target h : ℕ) (form : Row) (seen : List Term) (older : Row) → Looks s at b h form seen → slice_get at.rows target ≡ Some older → older.conditions ≡ [] → holds_all everything (seen ++ []) ≡ true → Takes older form → Merges s at b target h
merges s at b target h form seen older l is_row bare fits t = record { older = older; is_row = is_row; within = l.within; form = form; seen = seen; built = l.built; roomy = λ to f. rw bare (roomy _ fits); takes = t }

pub apart : (s : System) (at : Standing) (b : Branch) (target h : ℕ) (form : Row) (seen : List Term) (older : Row) → Looks s at b h form seen → slice_get at.rows target ≡ Some older → older.conditions ≡ [] → holds_all everything (seen ++ []) ≡ true → (Takes older form → ⊥) → MergeRefused s at b target h NoRenaming
apart s at b target h form seen older l is_row bare fits not = (older, (l.out, is_row, l.within), (form, seen, l.built, λ to f. rw bare (roomy _ fits), not))

-- Work comes to one thing.
pub works : (s : System) (work : List Entry) (outcome : Outcome) (at : Standing) → Safe s (first_row s) → WorkedThrough s 64 (opening s) (calls_of work) (answers_of work) outcome at → Works s work outcome at
works s work outcome at opens worked =
    record {
      opens = opens;
      worked = worked;
      played = work_played s 64 (opening s) at _ _ outcome worked;
      only = λ calls answers end after other. one_work s 64 calls (calls_of work) answers (answers_of work) end outcome after at other worked;
    }
