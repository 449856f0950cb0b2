use Rattle.std.proofs.Common.{◌++◌, sym, ap, ◌∙◌}
use Rattle.std.proofs.lemmas.Result.{MatchResult-weaker}
use Rattle.terms.specs.Terms.{binary, ternary}
use Rattle.terms.specs.Bank.{term_at}
use Rattle.notation.specs.Written.{written}
use Rattle.terms.proofs.Filing.{extends_more}
use Rattle.notation.proofs.Shapes.{unary_read, binary_read, ternary_read}
use Rattle.notation.proofs.reading.Reader.+term.Goals as goal

pub returns-in-Some-after-2 : goal.returns-in-Some-after-2
returns-in-Some-after-2 t c =
    let f = c.in_ok-f.f in
    let done = c.finish-in-Some-after-2 in
    let a = c.in_ok-a.a in
    let read_a = c.in_ok-a.ensures.term in
    record {
      extends = extends_more c.args.self.now.bank c.term.new.self.bank done.new.self.bank c.args.self.now.count.terms c.term.new.self.count.terms done.new.self.count.terms c.term.ensures.extends done.ensures.extends;
      term = MatchResult-weaker done.result done.ensures.term
          (λ p h. (
            h.0,
            unary_read f (term_at c.term.new.self.bank a) (term_at done.new.self.bank p.0) _ _ _ _ _ _ (rw c.in_ok-rest.ensures.ok_part at c.after-2.ensures) (rw c.in_ok-f.ensures.ok_part at c.number.ensures) c.in-Some-after.ensures read_a.1 c.in-Some-after-2.ensures h.1
                ∙ ap (λ u. written (term_at done.new.self.bank p.0) ++ u) (sym h.2),
          )) (λ e u. u);
    }

pub returns-in-Some-after-3 : goal.returns-in-Some-after-3
returns-in-Some-after-3 t c =
    let f = c.in_ok-f.f in
    let done = c.finish-in-Some-after-3 in
    let rs = c.args.self.now.bank in
    let n = c.args.self.now.count.terms in
    let rs₁ = c.term.new.self.bank in
    let n₁ = c.term.new.self.count.terms in
    let rs₂ = c.term-2.new.self.bank in
    let n₂ = c.term-2.new.self.count.terms in
    let a = c.in_ok-a.a in
    let b = c.in_ok-b.b in
    let read_a = c.in_ok-a.ensures.term in
    let read_b = c.in_ok-b.ensures.term in
    let a_stays = (c.term-2.ensures.extends.stays a read_a.0).1 in
    record {
      extends = extends_more rs rs₂ done.new.self.bank n n₂ done.new.self.count.terms (extends_more rs rs₁ rs₂ n n₁ n₂ c.term.ensures.extends c.term-2.ensures.extends) done.ensures.extends;
      term = MatchResult-weaker done.result done.ensures.term
          (λ p h. (
            h.0,
            binary_read f (term_at rs₁ a) (term_at rs₂ b) (term_at done.new.self.bank p.0) _ _ _ _ _ _ _ _ (rw c.in_ok-rest.ensures.ok_part at c.after-2.ensures) (rw c.in_ok-f.ensures.ok_part at c.number.ensures) c.in-Some-after.ensures read_a.1 (rw c.in_ok-rest-2.ensures.ok_part at c.after-5.ensures) read_b.1 c.in-Some-after-3.ensures (h.1 ∙ ap (λ u. binary f u (term_at rs₂ b)) a_stays)
                ∙ ap (λ u. written (term_at done.new.self.bank p.0) ++ u) (sym h.2),
          )) (λ e u. u);
    }

pub returns : goal.returns
returns t c =
    let f = c.in_ok-f.f in
    let done = c.finish-2 in
    let rs = c.args.self.now.bank in
    let n = c.args.self.now.count.terms in
    let rs₁ = c.term.new.self.bank in
    let n₁ = c.term.new.self.count.terms in
    let rs₂ = c.term-2.new.self.bank in
    let n₂ = c.term-2.new.self.count.terms in
    let rs₃ = c.term-3.new.self.bank in
    let n₃ = c.term-3.new.self.count.terms in
    let a = c.in_ok-a.a in
    let b = c.in_ok-b.b in
    let d = c.in_ok-c.c in
    let read_a = c.in_ok-a.ensures.term in
    let read_b = c.in_ok-b.ensures.term in
    let read_c = c.in_ok-c.ensures.term in
    let two = extends_more rs₁ rs₂ rs₃ n₁ n₂ n₃ c.term-2.ensures.extends c.term-3.ensures.extends in
    let a_stays = (two.stays a read_a.0).1 in
    let b_stays = (c.term-3.ensures.extends.stays b read_b.0).1 in
    record {
      extends = extends_more rs rs₃ done.new.self.bank n n₃ done.new.self.count.terms (extends_more rs rs₁ rs₃ n n₁ n₃ c.term.ensures.extends two) done.ensures.extends;
      term = MatchResult-weaker done.result done.ensures.term
          (λ p h. (
            h.0,
            ternary_read f (term_at rs₁ a) (term_at rs₂ b) (term_at rs₃ d) (term_at done.new.self.bank p.0) _ _ _ _ _ _ _ _ _ _ (rw c.in_ok-rest.ensures.ok_part at c.after-2.ensures) (rw c.in_ok-f.ensures.ok_part at c.number.ensures) c.in-Some-after.ensures read_a.1 (rw c.in_ok-rest-2.ensures.ok_part at c.after-5.ensures) read_b.1 (rw c.in_ok-rest-3.ensures.ok_part at c.after-7.ensures) read_c.1 (rw c.in_ok-rest-4.ensures.ok_part at c.after-8.ensures) (h.1 ∙ (ap (λ u. ternary f u (term_at rs₃ b) (term_at rs₃ d)) a_stays ∙ ap (λ u. ternary f (term_at rs₁ a) u (term_at rs₃ d)) b_stays))
                ∙ ap (λ u. written (term_at done.new.self.bank p.0) ++ u) (sym h.2),
          )) (λ e u. u);
    }
