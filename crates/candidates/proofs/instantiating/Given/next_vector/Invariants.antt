use Rattle.std.proofs.Common.{◌≡◌, List, map, length, take}
use Rattle.sheet.specs.Runs.{numbered}
use Rattle.sheet.specs.Stored.{term_in}
use Rattle.terms.specs.Terms.{Term}
use Rattle.forms.specs.Candidate.{terms_over}
use Rattle.candidates.specs.Working.{Lent, Over, Started, Walked, Vectored, next_over}
use Rattle.candidates.proofs.instantiating.Given.next_vector.Given as goal

abbrev pub invariant-loop-k : goal.invariant-loop-k
invariant-loop-k l =
    (length l.out ≡ 6)
    × Lent l.initial.memory l.memory
    × ((v : List Term) → Over v l.initial.memory.bank.now l.initial.memory.count.now.terms l.self.vector.now l.self.inputs.now
    → Started (terms_over v l.self.inputs.now (map term_in l.self.terms.now)) l.initial.memory.bank.now l.initial.memory.count.now.terms l.initial.memory.known
    → Walked (terms_over v l.self.inputs.now (map term_in l.self.terms.now)) v l.self.vector.now l.self.inputs.now l.initial.memory.bank.now l.initial.memory.count.now.terms (take l.k (numbered (λ n x. next_over l.chosen v (terms_over v l.self.inputs.now (map term_in l.self.terms.now)) n x.next) 0 l.readings)) l.memory.bank.now l.memory.count.now.terms l.memory.known
    × Vectored l.memory.bank.now l.memory.count.now.terms (numbered (λ n x. next_over l.chosen v (terms_over v l.self.inputs.now (map term_in l.self.terms.now)) n x.next) 0 l.readings) l.k l.out)
