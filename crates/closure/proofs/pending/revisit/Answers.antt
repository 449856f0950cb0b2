use Rattle.std.proofs.Common.{arith, sym, ◌∙◌}
use Rattle.queue.specs.Entries.{entries}
use Rattle.closure.proofs.Postponing.{added_push}
use Rattle.closure.proofs.pending.revisit.Goals as goal

pub returns-then-labels-user : goal.returns-then-labels-user
returns-then-labels-user c =
    let found = c.in-Some.ensures in
    record {
      added = added_push c.args.places.now.bank.now c.args.places.now.terms c.args.labels.now c.args.places.now.ordered (record { left = c.args.user; right = c.in-Some.j }) (omega arith) (omega (arith, found.0)) (sym c.signature-sought.ensures ∙ sym found.1) _ (entries c.args.pending.now) (entries c.push.new.self) c.push.result c.push.ensures.result;
      roomy = c.push.ensures.roomy;
    }
