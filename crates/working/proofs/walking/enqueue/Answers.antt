use Rattle.std.proofs.Common.{ap, ◌∙◌, ◌++◌, arith}
use Rattle.std.specs.List.{range_with_len}
use Rattle.queue.specs.Entries.{entries, room}
use Rattle.working.proofs.Due.{pushed}
use Rattle.working.proofs.walking.enqueue.Goals as goal

pub loop-row-preserved : goal.loop-row-preserved
loop-row-preserved c = record {
  rows = pushed c.args.from c.loop-row.row c.args.to (entries c.args.due.now) (entries c.loop-row.due) (entries c.push-full.new.self) (room c.args.due.now) (room c.loop-row.due) c.push-full.result c.loop-row.auto.row c.loop-row-test.true c.requires c.loop-row.invariant.roomy c.loop-row.invariant.rows c.push-full.ensures.result;
  roomy = c.push-full.ensures.roomy ∙ c.loop-row.invariant.roomy;
  within = omega (arith, c.loop-row-test.true);
}

pub returns-clause-rows : goal.returns-clause-rows
returns-clause-rows c = c.loop-row.invariant.rows ∙ ap (λ n. entries c.args.due.now ++ range_with_len c.args.from n) (omega (arith, c.loop-row.invariant.within, c.loop-row-test.false))
