-- What the judgement of one record says of the rules.
use Rattle.std.proofs.Common.{◌≡◌, ℕ, Bool, true, false, cond, List, ◌∷◌, length, Some, None, Ok, Err, Option, Result, refl, ap, ◌∙◌, arith}
use Rattle.fault.specs.declared.SheetFault.{SheetFault}
use Rattle.fault.specs.declared.SheetFault.TheVariants.{Truncated, UnknownLetter, BadBody, TooMany, Repeated, Incomplete, TrailingBytes}
use Rattle.sheet.specs.declared.kind.Kind.{Kind}
use Rattle.sheet.specs.declared.syntax.Record.{Record}
use Rattle.reader.specs.Decode.{decoded, judged, judge}
use Rattle.sheet.specs.Format.{letter, body_length, kind_of, written}
use Rattle.reader.specs.Outcome.{Allowed}
use Rattle.sheet.specs.Rules.{room, obeys, fresh, keeps}
use Rattle.sheet.specs.System.{System}
use Rattle.reader.proofs.Decoding.{decode_writes, decode_finds, letter-same}

-- the body is that of a record that is allowed
pub record Good (s : System) (k : Kind) (b : List ℕ) (x : Record) : Type 0 where
  pub is : written x ≡ letter k ∷ b
  pub allowed : Allowed s x

pub record Stale (s : System) (k : Kind) (b : List ℕ) (x : Record) : Type 0 where
  pub is : written x ≡ letter k ∷ b
  pub obeys : obeys s x ≡ true
  pub stale : fresh s x ≡ false

abbrev pub Refused : System → Kind → List ℕ → SheetFault → Type 0
Refused s k b Truncated = ⊥
Refused s k b UnknownLetter = ⊥
Refused s k b BadBody = (room s k ≡ true) × ((x : Record) → written x ≡ letter k ∷ b → obeys s x ≡ true → ⊥)
Refused s k b TooMany = room s k ≡ false
Refused s k b Repeated = (room s k ≡ true) × ((x : Record) × Stale s k b x)
Refused s k b Incomplete = ⊥
Refused s k b TrailingBytes = ⊥

abbrev pub Says : System → Kind → List ℕ → Result Record SheetFault → Type 0
Says s k b (Ok x) = Good s k b x
Says s k b (Err f) = Refused s k b f

pub obeys-keeps : (s : System) (x : Record) → obeys s x ≡ true → keeps s x ≡ true
obeys-keeps s x h = grind arith

pub kind_is : (k : Kind) (b : List ℕ) (x : Record) → written x ≡ letter k ∷ b → kind_of x ≡ k
kind_is k b x e = letter-same (kind_of x) k cc

module _ (s : System) (k : Kind) (b : List ℕ) (n : length b ≡ body_length k) (r : room s k ≡ true) where
  by_fresh : (x : Record) (v : Bool) → decoded s k b ≡ Some x → obeys s x ≡ true → fresh s x ≡ v → Says s k b (cond v (Ok x) (Err Repeated))
  by_fresh x true d o f =
      let w = decode_writes s k b x n d in
      record { is = w; allowed = record { room = ap (room s) (kind_is k b x w) ∙ r; obeys = o; fresh = f } }
  by_fresh x false d o f = (r, (x, record { is = decode_writes s k b x n d; obeys = o; stale = f }))

  by_obeys : (x : Record) (v : Bool) → decoded s k b ≡ Some x → obeys s x ≡ v → Says s k b (cond v (cond (fresh s x) (Ok x) (Err Repeated)) (Err BadBody))
  by_obeys x true d o = by_fresh x (fresh s x) d o refl
  by_obeys x false d o = (
    r,
    λ y w p.
        let y_decoded = decode_finds s k b y w (obeys-keeps s y p) in
        grind arith,
  )

  by_decoded : (o : Option Record) → decoded s k b ≡ o → Says s k b (judged s o)
  by_decoded None d = (
    r,
    λ y w p.
        let y_decoded = decode_finds s k b y w (obeys-keeps s y p) in
        grind arith,
  )
  by_decoded (Some x) d = by_obeys x (obeys s x) d refl

by_room : (s : System) (k : Kind) (b : List ℕ) (v : Bool) → length b ≡ body_length k → room s k ≡ v → Says s k b (cond v (judged s (decoded s k b)) (Err TooMany))
by_room s k b true n r = by_decoded s k b n r (decoded s k b) refl
by_room s k b false n r = r

pub judge_says : (s : System) (k : Kind) (b : List ℕ) → length b ≡ body_length k → Says s k b (judge s k b)
judge_says s k b n = by_room s k b (room s k) n refl
