use Rattle.std.proofs.Common.{sym}
use Rattle.std.proofs.lemmas.List.{set_past}
use Rattle.sheet.proofs.memo.remember.Goals as goal

pub returns-else-n-known : goal.returns-else-n-known
returns-else-n-known g c = sym (set_past c.args.known.now c.args.n _ c.if-n-known.false)
