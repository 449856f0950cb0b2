use Rattle.std.proofs.Common.{refl, arith}
use Rattle.queue.proofs.Rings.{pop_before_end, pop_at_end}
use Rattle.queue.proofs.Queue.pop.Goals as goal
use Rattle.queue.proofs.Queue.pop.Goals.{then-next-self, else-next-self}

pub returns : goal.returns
returns g c =
    let q = c.args.self.now in
    record {
      result = elim c.if-next-self.branch [
        | then-next-self w ↦ pop_before_end q.slots.now q.head q.len c.if-next-self.self c.index-self-self.result (omega arith) (omega arith) w.self-is
        | else-next-self w ↦ pop_at_end q.slots.now q.head q.len c.if-next-self.self c.index-self-self.result (omega arith) (omega arith) q.fits w.if-next-self.false w.self-is
      ];
      roomy = refl;
    }
