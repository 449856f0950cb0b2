use Rattle.std.proofs.Common.{◌≡◌, sym, ◌∙◌, subst}
use Rattle.queue.specs.Entries.{entries, room}
use Rattle.closure.specs.Pending.{Added}
use Rattle.closure.proofs.Postponing.{added_more}
use Rattle.closure.proofs.pending.revisit_users.Goals as goal
use Rattle.closure.proofs.pending.revisit_users.Goals.{then-user-table, else-user-table}

pub loop-preserved : goal.loop-preserved
loop-preserved c =
    let rs = c.args.places.now.bank.now in
    let n = c.args.places.now.terms in
    let l = c.args.labels.now in
    let before = c.args.pending.now in
    elim c.if-user-table.branch [
      | then-user-table w ↦ subst (λ q. Added rs n l (entries before) (entries q) × (room q ≡ room before)) (sym w.pending-is)
          (added_more rs n l (entries before) (entries c.loop.pending) (entries w.revisit.new.pending) c.loop.invariant.0 w.revisit.ensures.added, w.revisit.ensures.roomy ∙ c.loop.invariant.1)
      | else-user-table w ↦ subst (λ q. Added rs n l (entries before) (entries q) × (room q ≡ room before)) (sym w.pending-is) c.loop.invariant
    ]
