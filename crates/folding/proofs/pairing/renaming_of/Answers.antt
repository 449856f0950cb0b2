use Rattle.std.proofs.Common.{◌≡◌, ℕ, ◌<◌, get_or, None, unwrap_or, rules}
use Rattle.folding.proofs.Narrowing.{respects_listed, small-listed}
use Rattle.folding.proofs.pairing.renaming_of.Goals as goal

pub returns : goal.returns
returns c =
    let to = c.map.result in
    let bound = c.args.bound.now in
    let all : (k : ℕ) → k < 32 → get_or to k 0 ≡ unwrap_or (get_or bound k None) 0 = λ k lt. (let called = (c.map.ensures.items.at k None 0 lt).2 in search rules) in
    record { respects = respects_listed to bound c.map.ensures.items.long c.told-bound all; names = small-listed to bound c.map.ensures.items.long c.told-bound all c.requires }
