-- The same bytes are not the records of two sheets, nor of a sheet where a fault is met.
use Rattle.std.proofs.Common.{◌≡◌, ℕ, true, List, Some, None, sym, ap, ◌∙◌, subst, arith}
use Rattle.fault.specs.declared.Place.{Place}
use Rattle.fault.specs.declared.SheetFault.{SheetFault}
use Rattle.sheet.specs.declared.syntax.Record.{Record}
use Rattle.sheet.specs.Lawful.{Lawful}
use Rattle.sheet.specs.System.{System, nothing, gather}
use Rattle.reader.specs.Law.{WrittenAs, Describe, ReadAs}
use Rattle.reader.specs.Canonical.{written_out}
use Rattle.reader.specs.Drafts.{draft_of}
use Rattle.reader.specs.Progress.{Ended}
use Rattle.reader.specs.declared.draft.Draft.{Draft}
use Rattle.reader.specs.Outcome.{AllAllowed, complete, FaultyAt, Accepted}
use Rattle.reader.proofs.Canon.{written_out_describes}
use Rattle.reader.proofs.Verdict.{Reading, one_reading, faulty_reading, whole_reading}
use Rattle.reader.proofs.Orders.{lawful_nothing, all_lawful, in_order, all_allowed}

-- the records of a sheet that the bytes describe are allowed
describe_allowed : (bytes : List ℕ) (s : System) → Describe bytes s → (w : WrittenAs bytes s) → AllAllowed nothing w.records
describe_allowed bytes s d w = all_allowed nothing w.records w.order (subst Lawful (sym w.describes) d.lawful)

described : (bytes : List ℕ) (s : System) (d : Describe bytes s) → Reading nothing bytes d.written.records None
described bytes s d = whole_reading bytes d.written.records d.written.is (describe_allowed bytes s d d.written) (subst (λ t. complete t ≡ true) (sym d.written.describes) d.whole)

pub accepted_read : (bytes : List ℕ) (xs : List Record) (s : System) → Accepted bytes xs s → ReadAs bytes s
accepted_read bytes xs s a =
    let here = whole_reading bytes xs a.is a.allowed (subst (λ t. complete t ≡ true) (sym a.system) a.whole) in
    record { describe = record { lawful = subst Lawful a.system (all_lawful nothing xs lawful_nothing a.allowed); whole = a.whole; written = record { records = xs; is = a.is; order = in_order nothing xs a.allowed; describes = a.system } }; only = λ t d. sym d.written.describes ∙ (ap (gather nothing) (one_reading nothing bytes d.written.records xs None None (described bytes t d) here).0 ∙ a.system) }

pub faulty_refused : (bytes : List ℕ) (xs : List Record) (f : SheetFault) (p : Place) → FaultyAt bytes xs f p → (s : System) → Describe bytes s → ⊥
faulty_refused bytes xs f p b s d =
    let q = (one_reading nothing bytes xs d.written.records (Some f) None (faulty_reading bytes xs f p b) (described bytes s d)).1 in
    grind arith

pub written_out_back : (s : System) → Lawful s → complete s ≡ true → Describe (written_out s) s
written_out_back s l w = record { lawful = l; whole = w; written = written_out_describes s l }

-- the draft at the end record is that of a lawful sheet
pub ended_lawful : (bytes : List ℕ) (d : Draft) (xs : List Record) → Ended bytes d xs → Lawful (draft_of d)
ended_lawful bytes d xs e = subst Lawful (sym e.system) (all_lawful nothing xs lawful_nothing e.allowed)
