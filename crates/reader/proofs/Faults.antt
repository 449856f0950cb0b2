-- The same bytes have one first fault.
use Rattle.std.proofs.Common.{◌≡◌, ℕ, List, Some, arith}
use Rattle.fault.specs.declared.Failure.{Failure}
use Rattle.fault.specs.declared.Fault.{Fault}
use Rattle.fault.specs.declared.Place.{Place}
use Rattle.fault.specs.declared.SheetFault.{SheetFault}
use Rattle.sheet.specs.declared.syntax.Record.{Record}
use Rattle.sheet.specs.System.{nothing}
use Rattle.reader.specs.Outcome.{FaultyAt, Faulty, Failed}
use Rattle.reader.specs.Law.{Refused, RefusedBy}
use Rattle.reader.proofs.Exact.{faulty_refused}
use Rattle.reader.proofs.Verdict.{one_reading, faulty_reading}

one_fault : (bytes : List ℕ) (xs ys : List Record) (f g : SheetFault) (p q : Place) → FaultyAt bytes xs f p → FaultyAt bytes ys g q → Fault.Sheet g q ≡ Fault.Sheet f p
one_fault bytes xs ys f g p q a b =
    let r = one_reading nothing bytes xs ys (Some f) (Some g) (faulty_reading bytes xs f p a) (faulty_reading bytes ys g q b) in
    let same_records = r.0 in
    let same_fault = r.1 in
    let n = a.record in
    let m = b.record in
    let at = a.byte in
    let at' = b.byte in
    grind arith

only_fault : (bytes : List ℕ) (xs ys : List Record) (f : SheetFault) (p : Place) (g : Fault) → FaultyAt bytes xs f p → Faulty bytes ys g → g ≡ Fault.Sheet f p
only_fault bytes xs ys f p (Fault.Sheet g q) a b = one_fault bytes xs ys f g p q a b
only_fault bytes xs ys f p (Fault.Table g) a b = absurd b
only_fault bytes xs ys f p (Fault.Bench g) a b = absurd b
only_fault bytes xs ys f p (Fault.Model g) a b = absurd b

refused_by : (bytes : List ℕ) (xs : List Record) (f : Fault) → Faulty bytes xs f → RefusedBy bytes f
refused_by bytes xs (Fault.Sheet f p) a = record { none = faulty_refused bytes xs f p a; only = λ ys g b. only_fault bytes xs ys f p g a b }
refused_by bytes xs (Fault.Table f) a = absurd a
refused_by bytes xs (Fault.Bench f) a = absurd a
refused_by bytes xs (Fault.Model f) a = absurd a

pub failed_refused : (bytes : List ℕ) (xs : List Record) (e : Failure) → Failed bytes xs e → Refused bytes e
failed_refused bytes xs (Failure.Fault f) a = refused_by bytes xs f a
failed_refused bytes xs Failure.Memory a = tt
