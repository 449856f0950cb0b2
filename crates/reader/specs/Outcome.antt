-- What a list of bytes comes to: the records before the first fault, and the fault; or the records of a
-- whole sheet. Assumes nothing.
use Rattle.std.specs.Prelude.{◌≡◌, ℕ, ◌<◌, Bool, true, false, ◌&&◌, ◌⊎◌, List, [], ◌∷◌, ◌++◌, length, is_some, ◌≢◌}
use Rattle.fault.specs.declared.Failure.{Failure}
use Rattle.fault.specs.declared.Fault.{Fault}
use Rattle.fault.specs.declared.Place.{Place}
use Rattle.fault.specs.declared.SheetFault.{SheetFault}
use Rattle.fault.specs.declared.SheetFault.TheVariants.{Truncated, UnknownLetter, BadBody, TooMany, Repeated, Incomplete, TrailingBytes}
use Rattle.sheet.specs.declared.kind.Kind.{Kind}
use Rattle.sheet.specs.declared.syntax.Record.{Record}
use Rattle.sheet.specs.Format.{letter, body_length, kind_of, written, written_all}
use Rattle.sheet.specs.Rules.{room, obeys, fresh}
use Rattle.sheet.specs.System.{System, nothing, add, describe}

-- no rule is against the record after those that s describes
pub record Allowed (s : System) (x : Record) : Type 0 where
  pub room : room s (kind_of x) ≡ true
  pub obeys : obeys s x ≡ true
  pub fresh : fresh s x ≡ true

-- no rule is against any of the records, each after those before it
abbrev pub AllAllowed : System → List Record → Type 0
AllAllowed s [] = Unit {0}
AllAllowed s (x ∷ xs) = Allowed s x × AllAllowed (add s x) xs

abbrev pub complete : System → Bool
complete s = is_some s.invariant && is_some s.bound

-- The first rule against what stands at the front of the bytes, after the records that s describes.
-- The order of the rules shows in what the later ones say beside their own fault.
pub record Cut (rest : List ℕ) : Type 0 where
  pub kind : Kind
  pub body : List ℕ
  pub is : rest ≡ letter kind ∷ body
  pub short : length body < body_length kind

pub record Unknown (rest : List ℕ) : Type 0 where
  pub byte : ℕ
  pub more : List ℕ
  pub is : rest ≡ byte ∷ more
  pub none : (k : Kind) → letter k ≢ byte

pub record Full (s : System) (rest : List ℕ) : Type 0 where
  pub kind : Kind
  pub body : List ℕ
  pub more : List ℕ
  pub is : rest ≡ letter kind ∷ (body ++ more)
  pub whole : length body ≡ body_length kind
  pub room : room s kind ≡ false

pub record Unlawful (s : System) (rest : List ℕ) : Type 0 where
  pub kind : Kind
  pub body : List ℕ
  pub more : List ℕ
  pub is : rest ≡ letter kind ∷ (body ++ more)
  pub whole : length body ≡ body_length kind
  pub inside : kind ≡ Kind.End → ⊥
  pub room : room s kind ≡ true
  pub none : (x : Record) → written x ≡ letter kind ∷ body → obeys s x ≢ true

pub record Again (s : System) (rest : List ℕ) : Type 0 where
  pub what : Record
  pub more : List ℕ
  pub is : rest ≡ written what ++ more
  pub room : room s (kind_of what) ≡ true
  pub obeys : obeys s what ≡ true
  pub stale : fresh s what ≡ false

pub record Unfinished (s : System) (rest : List ℕ) : Type 0 where
  pub more : List ℕ
  pub is : rest ≡ letter Kind.End ∷ more
  pub lacks : complete s ≡ false

pub record Overlong (s : System) (rest : List ℕ) : Type 0 where
  pub byte : ℕ
  pub more : List ℕ
  pub is : rest ≡ letter Kind.End ∷ byte ∷ more
  pub has : complete s ≡ true

abbrev pub Stops : System → List ℕ → SheetFault → Type 0
Stops s rest Truncated = (rest ≡ []) ⊎ Cut rest
Stops s rest UnknownLetter = Unknown rest
Stops s rest BadBody = Unlawful s rest
Stops s rest TooMany = Full s rest
Stops s rest Repeated = Again s rest
Stops s rest Incomplete = Unfinished s rest
Stops s rest TrailingBytes = Overlong s rest

-- after the records xs comes the fault f, at the place of the record after them
pub record FaultyAt (bytes : List ℕ) (xs : List Record) (f : SheetFault) (p : Place) : Type 0 where
  pub rest : List ℕ
  pub is : bytes ≡ written_all xs ++ rest
  pub allowed : AllAllowed nothing xs
  pub «record» : p.record ≡ length xs
  pub byte : p.byte ≡ length (written_all xs)
  pub stops : Stops (describe xs) rest f

abbrev pub Faulty : List ℕ → List Record → Fault → Type 0
Faulty bytes xs (Fault.Sheet f p) = FaultyAt bytes xs f p
Faulty bytes xs (Fault.Table f) = ⊥
Faulty bytes xs (Fault.Bench f) = ⊥
Faulty bytes xs (Fault.Model f) = ⊥

-- nothing is said of what is read when memory runs out
abbrev pub Failed : List ℕ → List Record → Failure → Type 0
Failed bytes xs (Failure.Fault f) = Faulty bytes xs f
Failed bytes xs Failure.Memory = Unit {0}

-- the bytes are the records xs and the end record, and they describe the whole sheet s
pub record Accepted (bytes : List ℕ) (xs : List Record) (s : System) : Type 0 where
  pub is : bytes ≡ written_all xs ++ letter Kind.End ∷ []
  pub allowed : AllAllowed nothing xs
  pub system : describe xs ≡ s
  pub whole : complete s ≡ true
