use Rattle.std.proofs.Common.{get_or, rules}
use Rattle.sheet.specs.Runs.{or_kept}
use Rattle.sheet.proofs.Numbering.{numbered_item}
use Rattle.bench.proofs.readings.next_at.Goals as goal

pub returns : goal.returns
returns c = numbered_item (λ n r. or_kept (λ k. get_or c.args.values.now (get_or c.args.chosen.now k 0) 0) (get_or c.args.old.now n 0) r.next) c.args.readings.now c.args.n 0 _ _ c.get.result c.get.ensures.lookup (λ x said. search rules) c.map_or.ensures
