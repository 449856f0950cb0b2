-- The bytes of the three sheets are their records.
use Rattle.std.proofs.Common.{◌≡◌, Bool, true, false, ◌&&◌, List, [], ◌∷◌, ◌++◌, refl}
use Rattle.sheet.specs.declared.syntax.Args.{Args}
use Rattle.sheet.specs.declared.syntax.Choice.{Choice}
use Rattle.sheet.specs.declared.syntax.Formula.{Formula}
use Rattle.sheet.specs.declared.syntax.Record.{Record}
use Rattle.sheet.specs.declared.syntax.Start.{Start}
use Rattle.sheet.specs.declared.syntax.Term.{Term}
use Rattle.sheet.specs.Format.{kind_of}
use Rattle.sheet.specs.Rules.{room, obeys, fresh}
use Rattle.sheet.specs.System.{System, nothing, add}
use Rattle.reader.specs.Law.{ReadAs}
use Rattle.reader.specs.Outcome.{AllAllowed}
use Rattle.reader.proofs.Exact.{accepted_read}
use Rattle.marked.specs.Sheets.{hopper_bytes, bound_0_bytes, without_m_bytes, hopper, hopper_bound_0, hopper_without_m}

-- whether records are allowed, as a test
abbrev passes : System → List Record → Bool
passes s [] = true
passes s (x ∷ xs) = (room s (kind_of x) && (obeys s x && fresh s x)) && passes (add s x) xs

pub both_of : (a b : Bool) → (a && b) ≡ true → (a ≡ true) × (b ≡ true)
both_of true b h = (refl, h)
both_of false b h = cc

allowed : (s : System) (xs : List Record) → passes s xs ≡ true → AllAllowed s xs
allowed s [] h = tt
allowed s (x ∷ xs) h =
    let (now, later) = both_of _ _ h in
    let (r, rest) = both_of _ _ now in
    let (o, f) = both_of _ _ rest in
    (record { room = r; obeys = o; fresh = f }, allowed (add s x) xs later)

-- the records before the last few
abbrev front : List Record
front =
    Record.Symbol 0 ∷ Record.Symbol 1 ∷ Record.Bit false ∷ Record.Reading (Start.Name 0) ∷ Record.Reading (Start.Name 1) ∷ Record.Input
    ∷ Record.Term (Term.Reading 0) ∷ Record.Term (Term.Reading 1) ∷ Record.Term (Term.Input 0) ∷ Record.Term (Term.Apply 0 Args.Zero)
    ∷ Record.Term (Term.Apply 1 (Args.One 0)) ∷ Record.Question (record { left = 2; right = 3 }) ∷ Record.Claim (record { left = 1; right = 4 })
    ∷ Record.Formula (Formula.Bit 0) ∷ Record.Formula (Formula.Question 0) ∷ Record.Formula (Formula.Or 0 1)
    ∷ Record.Formula (Formula.Not 0) ∷ Record.Formula (Formula.Claim 0) ∷ Record.Formula (Formula.Or 3 4)
    ∷ Record.Choice (Choice.Term 4) ∷ Record.Choice (Choice.Term 1) ∷ Record.Choice (Choice.If 1 0 1) ∷ Record.NextBit 0 2 ∷ []

abbrev hopper_records : List Record
hopper_records = front ++ (Record.NextReading 1 2 ∷ Record.Invariant 5 ∷ Record.Bound 1 ∷ [])

abbrev bound_0_records : List Record
bound_0_records = front ++ (Record.NextReading 1 2 ∷ Record.Invariant 5 ∷ Record.Bound 0 ∷ [])

abbrev without_m_records : List Record
without_m_records = front ++ (Record.Invariant 5 ∷ Record.Bound 1 ∷ [])

pub hopper_read : ReadAs hopper_bytes hopper
hopper_read = accepted_read hopper_bytes hopper_records hopper (record { is = refl; allowed = allowed nothing hopper_records refl; system = refl; whole = refl })

pub bound_0_read : ReadAs bound_0_bytes hopper_bound_0
bound_0_read = accepted_read bound_0_bytes bound_0_records hopper_bound_0 (record { is = refl; allowed = allowed nothing bound_0_records refl; system = refl; whole = refl })

pub without_m_read : ReadAs without_m_bytes hopper_without_m
without_m_read = accepted_read without_m_bytes without_m_records hopper_without_m (record { is = refl; allowed = allowed nothing without_m_records refl; system = refl; whole = refl })
