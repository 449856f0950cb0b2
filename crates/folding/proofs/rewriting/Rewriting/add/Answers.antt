use Rattle.std.proofs.Common.{◌≡◌, rules, arith}
use Rattle.terms.specs.Bank.{node_at, term_of, term_at}
use Rattle.folding.proofs.Changes.{added_own, added_interned, adding_extends, suits_later, known_later}
use Rattle.folding.proofs.rewriting.Rewriting.add.Goals as goal

pub returns-then-eq-clause-adding : goal.returns-then-eq-clause-adding
returns-then-eq-clause-adding c =
    let s = c.args.self.now in
    let same : node_at s.bank.now c.args.place ≡ c.args.node = search rules in
    added_own s.bank.now s.count.now.terms c.args.place c.args.node s.is_bank c.requires.inside same

pub returns-clause-adding : goal.returns-clause-adding
returns-clause-adding c =
    let s = c.args.self.now in
    added_interned s.bank.now c.intern_above.new.bank s.count.now.terms c.intern_above.new.count.terms _ c.args.node c.intern_above.result s.is_bank s.long (c.intern_above.ensures.terms s.is_bank c.requires.fit) (c.intern_above.ensures.bank s.is_bank)

pub invariant_of-self : goal.invariant_of-self
invariant_of-self c =
    let s = c.args.self.now in
    let rs = s.bank.now in
    let n = s.count.now.terms in
    let rs' = c.intern_above.new.bank in
    let n' = c.intern_above.new.count.terms in
    let t = term_of (term_at rs) c.args.node in
    let e = adding_extends rs rs' n n' t c.intern_above.result (added_interned rs rs' n n' t c.args.node c.intern_above.result s.is_bank s.long (c.intern_above.ensures.terms s.is_bank c.requires.fit) (c.intern_above.ensures.bank s.is_bank)) in
    record {
      is_bank = e.bank;
      long = omega (arith, s.long, c.intern_above.auto.bank);
      suits = suits_later rs rs' n n' e s.change.now s.suits;
      is_known = known_later rs rs' n n' e s.change.now s.suits s.known s.is_known;
    }
