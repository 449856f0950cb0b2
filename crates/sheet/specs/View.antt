-- The transition system that a sheet stands for. Assumes nothing.
use Rattle.std.specs.Prelude.{Some}
use Rattle.sheet.specs.declared.sheet.Sheet.{Sheet}
use Rattle.sheet.specs.Stored.{system_of}
use Rattle.sheet.specs.System.{System}

abbrev pub sheet_of : Sheet → System
sheet_of s = system_of s.parts (Some s.invariant) (Some s.bound)
