use Rattle.std.proofs.Common.{◌≡◌, List, map, length, take}
use Rattle.sheet.specs.Runs.{numbered}
use Rattle.sheet.specs.Stored.{term_in}
use Rattle.terms.specs.Terms.{Term}
use Rattle.forms.specs.Candidate.{terms_over, condition_of}
use Rattle.forms.specs.Counted.{sides_of}
use Rattle.candidates.specs.Working.{Lent, Over, Started, Walked, Listed}
use Rattle.candidates.proofs.instantiating.Given.ask.Given as goal

abbrev pub invariant-loop-i : goal.invariant-loop-i
invariant-loop-i l =
    (length l.list ≡ 22)
    × Lent l.initial.memory l.memory
    × ((v : List Term) → Over v l.initial.memory.bank.now l.initial.memory.count.now.terms l.self.vector.now l.self.inputs.now
    → Started (terms_over v l.self.inputs.now (map term_in l.self.terms.now)) l.initial.memory.bank.now l.initial.memory.count.now.terms l.initial.memory.known
    → Walked (terms_over v l.self.inputs.now (map term_in l.self.terms.now)) v l.self.vector.now l.self.inputs.now l.initial.memory.bank.now l.initial.memory.count.now.terms (sides_of (take l.i (numbered (condition_of (terms_over v l.self.inputs.now (map term_in l.self.terms.now)) l.answers) 0 l.questions))) l.memory.bank.now l.memory.count.now.terms l.memory.known
    × Listed l.memory.bank.now l.memory.count.now.terms (numbered (condition_of (terms_over v l.self.inputs.now (map term_in l.self.terms.now)) l.answers) 0 l.questions) l.i l.list)
