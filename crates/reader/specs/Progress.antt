-- How far the reader has come. Assumes nothing.
use Rattle.std.specs.Prelude.{◌≡◌, ℕ, ◌+◌, ◌<◌, ◌≤◌, true, ◌⊎◌, List, [], ◌∷◌, ◌++◌, length, drop, ◌≢◌, slice_index}
use Rattle.fault.specs.declared.Place.{Place}
use Rattle.fault.specs.declared.SheetFault.{SheetFault}
use Rattle.fault.specs.declared.SheetFault.TheVariants.{Truncated, UnknownLetter, BadBody, TooMany, Repeated, Incomplete, TrailingBytes}
use Rattle.sheet.specs.declared.kind.Kind.{Kind}
use Rattle.reader.specs.declared.draft.Draft.{Draft}
use Rattle.sheet.specs.declared.syntax.Record.{Record}
use Rattle.sheet.specs.Format.{letter, body_length, written_all}
use Rattle.reader.specs.Outcome.{AllAllowed, complete}
use Rattle.sheet.specs.System.{nothing, describe}
use Rattle.reader.specs.Drafts.{draft_of}

-- a record of this kind stands at the place, and is whole
pub record KindAt (bytes : List ℕ) (at : ℕ) (k : Kind) : Type 0 where
  pub inside : at < length bytes
  pub is : letter k ≡ slice_index bytes at
  pub whole : at + 1 + body_length k ≤ length bytes

pub record CutAt (bytes : List ℕ) (at : ℕ) : Type 0 where
  pub kind : Kind
  pub inside : at < length bytes
  pub is : letter kind ≡ slice_index bytes at
  pub short : length bytes < at + 1 + body_length kind

pub record UnknownAt (bytes : List ℕ) (at : ℕ) : Type 0 where
  pub inside : at < length bytes
  pub none : (k : Kind) → letter k ≢ slice_index bytes at

abbrev pub NoKindAt : List ℕ → ℕ → SheetFault → Type 0
NoKindAt bytes at Truncated = (length bytes ≤ at) ⊎ CutAt bytes at
NoKindAt bytes at UnknownLetter = UnknownAt bytes at
NoKindAt bytes at BadBody = ⊥
NoKindAt bytes at TooMany = ⊥
NoKindAt bytes at Repeated = ⊥
NoKindAt bytes at Incomplete = ⊥
NoKindAt bytes at TrailingBytes = ⊥

-- the records xs are read, and the draft has what they describe
pub record ReadTo (bytes : List ℕ) (p : Place) (d : Draft) (xs : List Record) : Type 0 where
  pub front : bytes ≡ written_all xs ++ drop p.byte bytes
  pub byte : p.byte ≡ length (written_all xs)
  pub number : p.record ≡ length xs
  pub few : p.record ≤ p.byte
  pub allowed : AllAllowed nothing xs
  pub system : draft_of d ≡ describe xs

-- the end record is read, and is the last
pub record Ended (bytes : List ℕ) (d : Draft) (xs : List Record) : Type 0 where
  pub is : bytes ≡ written_all xs ++ letter Kind.End ∷ []
  pub allowed : AllAllowed nothing xs
  pub system : draft_of d ≡ describe xs
  pub whole : complete (draft_of d) ≡ true
