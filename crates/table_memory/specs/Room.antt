-- Memory of the lengths that an open table needs. Assumes nothing.
use Rattle.std.specs.Prelude.{vec_len}
use Rattle.table.specs.Memory.{HasLengths}
use Rattle.table_memory.specs.declared.Memory.{Memory}

-- each of the four vectors is as long as opening asks for
abbrev pub IsRoom : Memory → Type 0
IsRoom m = HasLengths (vec_len m.bank) (vec_len m.rows) (vec_len m.marks) (vec_len m.work)
