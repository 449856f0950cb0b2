use Rattle.std.proofs.Common.{Err}
use Rattle.candidates.proofs.Walking.{placed_interned, placed_remembered}
use Rattle.candidates.proofs.Listing.{added_break}
use Rattle.candidates.proofs.instantiating.Memory.add.Goals as goal

pub returns-in_err-place-clause-placed : goal.returns-in_err-place-clause-placed
returns-in_err-place-clause-placed c values started fit t is at =
    let i = c.in_err-place.ensures in
    let x = placed_interned values c.args.self.now.bank.now c.intern_above.new.bank c.args.self.now.count.now.terms c.intern_above.new.count.terms c.args.self.now.known c.args.node t started is (Err c.in_err-place.field-0.0) (i.terms started.bank fit) (i.bank started.bank) in
    added_break c.args.self.now.bank.now c.args.self.now.count.now.terms _ c.intern_above.new.bank c.intern_above.new.count.terms _ c.in_err-place.field-0.0 c.from_residual.result x.0 (x.1, x.2) c.from_residual.ensures.1

pub returns-clause-placed : goal.returns-clause-placed
returns-clause-placed c values started fit t is at =
    let i = c.in_ok-place.ensures in
    placed_remembered values c.args.self.now.bank.now c.intern_above.new.bank c.args.self.now.count.now.terms c.intern_above.new.count.terms c.args.self.now.known c.args.node t started is c.args.n c.in_ok-place.place c.remember.new.known (i.terms started.bank fit) (i.bank started.bank) at c.remember.ensures
