use Rattle.std.proofs.Common.{false}
use Rattle.sheet.proofs.Memos.{remembers_none}
use Rattle.sheet.proofs.truth.Truths.new.Goals as goal

pub invariant_of-result : goal.invariant_of-result
invariant_of-result c = record { right = λ k v e. remembers_none false _ 64 k v e }
