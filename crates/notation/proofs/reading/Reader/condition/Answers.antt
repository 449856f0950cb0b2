use Rattle.std.proofs.Common.{◌++◌, sym, ap, ◌∙◌, arith}
use Rattle.terms.specs.Bank.{term_at}
use Rattle.notation.specs.Written.{written}
use Rattle.terms.proofs.Filing.{extends_more}
use Rattle.notation.proofs.Shapes.{line_read}
use Rattle.notation.proofs.reading.Reader.condition.Goals as goal

pub returns : goal.returns
returns c =
    let rs₁ = c.term.new.self.bank in
    let rs₂ = c.term-2.new.self.bank in
    let grown = c.term-2.ensures.extends in
    let read_left = c.in_ok-left.ensures.term in
    let read_right = c.in_ok-right.ensures.term in
    let stays = (grown.stays c.in_ok-left.left read_left.0).1 in
    record {
      extends = extends_more c.args.self.now.bank rs₁ rs₂ c.args.self.now.count.terms c.term.new.self.count.terms c.term-2.new.self.count.terms c.term.ensures.extends grown;
      line = (
        omega (arith, read_left.0, grown.more),
        read_right.0,
        line_read (term_at rs₂ c.in_ok-left.left) (term_at rs₂ c.in_ok-right.right) c.in_ok-sign.sign c.args.text.now c.in_ok-left.rest.now c.in_ok-sign.rest.now c.in_ok-right.rest.now c.in_ok-rest.rest.now (read_left.1 ∙ ap (λ u. written u ++ c.in_ok-left.rest.now) (sym stays)) (rw c.in_ok-sign.ensures.ok_part at c.sign.ensures) read_right.1 (rw c.in_ok-rest.ensures.ok_part at c.after.ensures),
      );
    }
