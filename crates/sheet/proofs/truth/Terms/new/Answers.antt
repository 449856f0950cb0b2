use Rattle.sheet.proofs.Memos.{remembers_none}
use Rattle.sheet.proofs.truth.Terms.new.Goals as goal

pub invariant_of-result : goal.invariant_of-result
invariant_of-result c = record { right = λ k v e. remembers_none 0 _ 64 k v e }
