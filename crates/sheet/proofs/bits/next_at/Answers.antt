use Rattle.std.proofs.Common.{false, get_or, rules}
use Rattle.sheet.specs.Runs.{or_kept}
use Rattle.sheet.proofs.Numbering.{numbered_item}
use Rattle.sheet.proofs.bits.next_at.Goals as goal

pub returns : goal.returns
returns c = numbered_item (λ n b. or_kept (λ f. get_or c.args.truths.now f false) (get_or c.args.old.now n false) b.next) c.args.bits.now c.args.n false _ _ c.get.result c.get.ensures.lookup (λ x said. search rules) c.is_some_and.ensures
