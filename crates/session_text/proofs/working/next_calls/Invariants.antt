use Rattle.std.proofs.Common.{◌≡◌, ◌++◌, map, drop, vec_items}
use Rattle.table.specs.Answers.{call_of}
use Rattle.session_text.specs.Session.{calls_before}
use Rattle.session_text.proofs.working.next_calls.Given as goal

abbrev pub invariant-loop-step : goal.invariant-loop-step
invariant-loop-step l = map call_of (vec_items l.entries) ++ calls_before (drop l.step-index l.steps) ≡ calls_before l.steps
