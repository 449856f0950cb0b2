use Rattle.std.proofs.Common.{refl, arith, length-set}
use Rattle.queue.proofs.Rings.{length-ring, push_before_end, push_at_start}
use Rattle.queue.proofs.Queue.push.Goals as goal
use Rattle.queue.proofs.Queue.push.Goals.{then-self-before_end, else-self-before_end}

pub returns-then-self-room : goal.returns-then-self-room
returns-then-self-room g c =
    let q = c.args.self.now in
    record {
      result = (refl, refl, omega (arith, length-ring q.slots.now q.head q.len q.fits));
      roomy = refl;
    }

pub returns : goal.returns
returns g c =
    let q = c.args.self.now in
    record {
      result = elim c.if-self-before_end.branch [
        | then-self-before_end w ↦ push_before_end q.slots.now q.head q.len c.if-self-before_end.at c.args.entry w.if-self-before_end.true w.at-is
        | else-self-before_end w ↦ push_at_start q.slots.now q.head q.len c.if-self-before_end.at c.args.entry (omega arith) w.if-self-before_end.false (omega arith) w.at-is
      ];
      roomy = length-set q.slots.now c.if-self-before_end.at c.args.entry;
    }
