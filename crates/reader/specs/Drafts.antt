-- The transition system that a draft stands for. Assumes nothing.
use Rattle.std.specs.Prelude.{◌≡◌}
use Rattle.reader.specs.declared.draft.Draft.{Draft}
use Rattle.sheet.specs.declared.syntax.Record.{Record}
use Rattle.sheet.specs.System.{System, add}
use Rattle.sheet.specs.Stored.{system_of}

abbrev pub draft_of : Draft → System
draft_of d = system_of d.parts d.invariant d.bound

-- e is d with what the record adds
abbrev pub Added : Draft → Record → Draft → Type 0
Added d x e = draft_of e ≡ add (draft_of d) x
