use Rattle.std.proofs.Common.{◌≡◌, ℕ, ◌<◌, ◌≤◌, length}
use Rattle.sheet.specs.View.{sheet_of}
use Rattle.forms.specs.Rows.{Row}
use Rattle.candidates.specs.Cases.{Laid, Breaks}
use Rattle.candidates.proofs.safety.Cases.is_unbroken.Given as goal

abbrev pub invariant-loop-case : goal.invariant-loop-case
invariant-loop-case l =
    (form : Row) → Laid (sheet_of l.self.sheet.now) form l.bank l.count.terms l.self.conditions.list l.self.conditions.used → form.bits ≡ l.self.bits.now → 512 ≤ length l.initial.labels
    → (b : ℕ) → b < l.case → Breaks (sheet_of l.self.sheet.now) form b → ⊥
