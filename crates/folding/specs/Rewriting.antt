-- Terms of the bank changed throughout: one replaced by a name, or every name renamed. Assumes nothing.
use Rattle.std.specs.Prelude.{◌≡◌, ℕ, ◌<◌, Bool, true, false, cond, nat_lt, List, [], ◌∷◌, map, length, get_or, Some, None, Ok, Err, Option, Result, ◌==◌, slice_index, slice_index_or}
use Rattle.std.proofs.Props.{props}
use Rattle.fault.specs.declared.TableFault.{TableFault}
use Rattle.fault.specs.declared.TableFault.TheVariants.{TermsExhausted}
use Rattle.terms.specs.declared.Condition.{Condition}
use Rattle.terms.specs.declared.Node.{Node}
use Rattle.terms.specs.declared.Node.TheVariants.{Name, Constant, Unary, Binary, Ternary}
use Rattle.terms.specs.declared.TermRecord.{TermRecord}
use Rattle.terms.specs.Terms.{Term, name, replaced, renamed, same}
use Rattle.terms.specs.Bank.{Extends, term_at}
use Rattle.closure.specs.Labels.{no_condition}
use Rattle.banks.specs.Gains.{Gained, Overfull}
use Rattle.folding.specs.declared.change.Change.{Change}
use Rattle.folding.specs.declared.change.Change.TheVariants.{Replace, Rename}

-- what a change makes of a term
abbrev pub changed : List TermRecord → Change → Term → Term
changed rs (Replace old x) t = replaced (term_at rs old) (name x) t
changed rs (Rename to) t = renamed (λ y. slice_index to y) t

-- what becomes of the term at a place
abbrev pub arg : List TermRecord → Change → ℕ → Term
arg rs change a = changed rs change (term_at rs a)

-- a change between the bank's first n terms and the 32 names
abbrev pub Suits : ℕ → Change → Type 0
Suits n (Replace old x) = (old < n) × (x < 32)
Suits n (Rename to) = (y : ℕ) → slice_index to y < 32

pub Suits-prop : (n : ℕ) (change : Change) → IsProp (Suits n change)
Suits-prop n (Replace old x) = Prim.hlevel props
Suits-prop n (Rename to) = Prim.hlevel props

-- the node that a change puts in the place of a term, where it looks no further down
abbrev pub renamed_name : List ℕ → Node → Option Node
renamed_name to (Name y) = Some (Name (slice_index to y))
renamed_name to (Constant f) = None
renamed_name to (Unary f a) = None
renamed_name to (Binary f a b) = None
renamed_name to (Ternary f a b c) = None

abbrev pub stopped : Change → ℕ → Node → Option Node
stopped (Replace old x) place node = cond (place == old) (Some (Name x)) None
stopped (Rename to) place node = renamed_name to node

-- a place below the one whose term is replaced: that term does not stand in the term there
abbrev pub is_spared : Change → ℕ → Bool
is_spared (Replace old x) place = nat_lt place old
is_spared (Rename to) place = false

-- what is remembered of the change: place i became place p
abbrev pub Known : List TermRecord → ℕ → Change → List (Option ℕ) → Type 0
Known rs n change known = (i p : ℕ) → slice_index_or known i None ≡ Some p → (i < n) × (p < n) × (same (term_at rs p) (arg rs change i) ≡ true)

pub Known-prop : (rs : List TermRecord) (n : ℕ) (change : Change) (known : List (Option ℕ)) → IsProp (Known rs n change known)
Known-prop rs n change known = Prim.hlevel props

-- the bank with a term added, at place p; or no room for it
pub record AddedAt (rs : List TermRecord) (n : ℕ) (t : Term) (rs' : List TermRecord) (n' p : ℕ) : Type 0 where
  pub gained : Gained rs n (t ∷ []) rs' n'
  pub inside : p < n'
  pub is : term_at rs' p ≡ t

-- no room for the terms ts: those that were there stay
pub record Refused (rs : List TermRecord) (n : ℕ) (ts : List Term) (rs' : List TermRecord) (n' : ℕ) (e : TableFault) : Type 0 where
  pub fault : e ≡ TermsExhausted
  pub over : Overfull rs n ts
  pub extends : Extends rs n rs' n'

abbrev pub Adding : List TermRecord → ℕ → Term → List TermRecord → ℕ → Result ℕ TableFault → Type 0
Adding rs n t rs' n' (Ok p) = AddedAt rs n t rs' n' p
Adding rs n t rs' n' (Err e) = Refused rs n (t ∷ []) rs' n' e

-- place `new` stands for what the change makes of the term at place `old`
abbrev pub Became : List TermRecord → Change → ℕ → List TermRecord → ℕ → ℕ → Type 0
Became rs change old rs' n' new = (new < n') × (term_at rs' new ≡ arg rs change old)

-- no room for what the change makes of the terms at some places
abbrev pub NoRoom : List TermRecord → ℕ → Change → List ℕ → List TermRecord → ℕ → TableFault → Type 0
NoRoom rs n change places rs' n' e = Refused rs n (map (arg rs change) places) rs' n' e

-- the terms at some places changed
pub record PlacesChanged (rs : List TermRecord) (n : ℕ) (change : Change) (old new : List ℕ) (rs' : List TermRecord) (n' : ℕ) : Type 0 where
  pub gained : Gained rs n (map (arg rs change) old) rs' n'
  pub became : (k : ℕ) → k < length old → Became rs change (slice_index old k) rs' n' (slice_index new k)

-- both sides of each condition
abbrev pub side_places : List Condition → List ℕ
side_places [] = []
side_places (c ∷ cs) = c.left ∷ c.right ∷ side_places cs

pub record ConditionsChanged (rs : List TermRecord) (n : ℕ) (change : Change) (old new : List Condition) (rs' : List TermRecord) (n' : ℕ) : Type 0 where
  pub gained : Gained rs n (map (arg rs change) (side_places old)) rs' n'
  pub lefts : (k : ℕ) → k < length old → Became rs change (get_or old k no_condition).left rs' n' (get_or new k no_condition).left
  pub rights : (k : ℕ) → k < length old → Became rs change (get_or old k no_condition).right rs' n' (get_or new k no_condition).right
  pub signs : (k : ℕ) → k < length old → (get_or new k no_condition).sign ≡ (get_or old k no_condition).sign
