use Rattle.std.proofs.Common.{◌<◌, [], length, arith}
use Rattle.std.proofs.Math.Logic.{∥∥₁_map}
use Rattle.closure.proofs.Chaining.{chains_more}
use Rattle.banks.proofs.Entering.{listed_more}
use Rattle.banks.proofs.nodes.Nodes.enter.Goals as goal

pub invariant_of-self : goal.invariant_of-self
invariant_of-self c =
    let nodes = c.args.self.now in
    let rs = nodes.bank.now in
    let i = nodes.used in
    let b = c.bucket.result in
    let i_in : i < length nodes.next = omega arith in
    let b_in : b < length nodes.heads = omega arith in
    record {
      inside = omega arith;
      few = omega arith;
      chains = chains_more rs [] nodes.heads nodes.next i b nodes.chains i_in b_in;
      listed = ∥∥₁_map nodes.listed (listed_more rs nodes.heads nodes.next i b nodes.chains i_in b_in c.bucket.ensures.value);
    }
