use Rattle.std.proofs.Common.{[], ◌∷◌, map, get_or, ◌∙◌, arith}
use Rattle.sheet.specs.Stored.{term_in}
use Rattle.forms.specs.Candidate.{no_term, terms_over}
use Rattle.candidates.proofs.Walking.{walked_start, walked_more, walked_refused}
use Rattle.candidates.proofs.Listing.{added_break, literal_same}
use Rattle.candidates.proofs.instantiating.Given.condition_of.Goals as goal

pub returns-in_err-right-clause-condition : goal.returns-in_err-right-clause-condition
returns-in_err-right-clause-condition c v over started =
    let values = terms_over v c.args.self.inputs.now (map term_in c.args.self.terms.now) in
    let left = get_or values c.args.equation.left no_term in
    let right = get_or values c.args.equation.right no_term in
    let w₀ = walked_start over started in
    let h = c.in_ok-left.ensures.place v over started in
    let w₁ = walked_more w₀ c.place_of.ensures.lent.2 h.0 h.1 in
    let x = c.in_err-right.ensures.place v w₁.over w₁.started in
    added_break c.args.memory.now.bank.now c.args.memory.now.count.now.terms (left ∷ right ∷ []) c.place_of-2.new.memory.bank.now c.place_of-2.new.memory.count.now.terms _ c.in_err-right.field-0.0 c.from_residual-in_err-right.result x.0
    (walked_refused w₁ (right ∷ []) (left ∷ right ∷ []) (λ all u. u) x.1 x.2) c.from_residual-in_err-right.ensures.1

pub returns-clause-condition : goal.returns-clause-condition
returns-clause-condition c v over started =
    let values = terms_over v c.args.self.inputs.now (map term_in c.args.self.terms.now) in
    let left = get_or values c.args.equation.left no_term in
    let right = get_or values c.args.equation.right no_term in
    let w₀ = walked_start over started in
    let h = c.in_ok-left.ensures.place v over started in
    let w₁ = walked_more w₀ c.place_of.ensures.lent.2 h.0 h.1 in
    let k = c.in_ok-right.ensures.place v w₁.over w₁.started in
    let w₂ = walked_more w₁ c.place_of-2.ensures.lent.2 k.0 k.1 in
    let x = k.0.extends in (
      w₂.gained,
      record {
        made = record {
          lefts = omega (arith, h.1.made.0, x.more);
          rights = k.1.made.0;
          literal = literal_same ((x.stays c.in_ok-left.left h.1.made.0).1 ∙ h.1.made.1) k.1.made.1 c.sign_of-sign.ensures;
        };
        recalled = k.1.recalled;
      },
    )
