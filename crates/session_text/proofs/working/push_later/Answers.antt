use Rattle.std.proofs.Common.{◌+◌}
use Rattle.script.specs.declared.step.Step.{Step}
use Rattle.session_text.proofs.Telling.{to_end, later_opened, later_called, later_done}
use Rattle.session_text.proofs.working.push_later.Goals as goal
use Rattle.session_text.proofs.working.push_later.Goals.{in-Open+in_ok-counts, in_default}

pub loop-i-init : goal.loop-i-init
loop-i-init c = (c.requires, λ s read new counts told. told)

pub loop-i-preserved : goal.loop-i-preserved
loop-i-preserved c = elim c.match-step.branch [
  | in-Open+in_ok-counts w ↦ rw (w.memory-is, w.text-is, w.counts-is) (w.in_ok-counts.ensures.room, λ s read new counts rest. c.loop-i.invariant.1 s read new counts (later_opened s c.args.steps.now c.loop-i.i (Step.Open 0) c.loop-i-test.true c.loop-i.counts w.in_ok-counts.counts counts _ _ new w.in-Open.limit _ (to_end c.args.steps.now (c.loop-i.i + 1)) w.in-Open.is (w.in_ok-counts.ensures.told s read) rest))
  | in_default w ↦ rw (w.memory-is, w.text-is, w.counts-is) (c.loop-i.invariant.0, λ s read new counts rest. c.loop-i.invariant.1 s read new counts (later_called s c.args.steps.now c.loop-i.i (Step.Open 0) c.loop-i-test.true c.loop-i.counts counts _ new w.in_default.field-0 w.in_default.is rest))
]

pub returns : goal.returns
returns c = λ s read. c.loop-i.invariant.1 s read _ _ (later_done s _ _ _ _ c.loop-i-test.false)
