use Rattle.std.proofs.Common.{ℕ, List, map, length, subst, rules}
use Rattle.sheet.specs.declared.syntax.Equation.{Equation}
use Rattle.sheet.specs.Runs.{numbered}
use Rattle.sheet.specs.Stored.{term_in}
use Rattle.terms.specs.Terms.{Literal}
use Rattle.banks.specs.Gains.{Gained}
use Rattle.forms.specs.Candidate.{terms_over, condition_of}
use Rattle.forms.specs.Counted.{sides_of}
use Rattle.candidates.specs.Working.{Made, Joined}
use Rattle.sheet.proofs.Numbering.{numbered-length}
use Rattle.candidates.proofs.Listing.{joined}
use Rattle.candidates.proofs.building.conditions_of.Goals as goal

pub returns-clause-conditions : goal.returns-clause-conditions
returns-clause-conditions c v over started =
    let values = terms_over v c.args.given.inputs.now (map term_in c.args.given.terms.now) in
    let f : ℕ → Equation → Literal = condition_of values c.args.answers.now in
    let x = c.in_ok-list.ensures.conditions v over started in
    let qs = c.deref-questions.result.now in
    subst (λ (es : List Equation). Gained c.args.memory.now.bank.now c.args.memory.now.count.now.terms (sides_of (numbered f 0 es)) c.ask.new.memory.bank.now c.ask.new.memory.count.now.terms × Made values c.ask.new.memory.bank.now c.ask.new.memory.count.now.terms c.ask.new.memory.known (Joined c.ask.new.memory.bank.now c.ask.new.memory.count.now.terms (numbered f 0 es) c.args.own.now) c.append.result) c.deref-questions.ensures.value (
      x.0,
      record {
        made = joined c.ask.new.memory.bank.now c.ask.new.memory.count.now.terms (numbered f 0 qs) c.args.own.now c.in_ok-list.list c.append.result (length qs) (numbered-length f 0 qs) x.1.made c.append.ensures.used c.append.ensures.front c.append.ensures.back (search rules);
        recalled = x.1.recalled;
      },
    )
