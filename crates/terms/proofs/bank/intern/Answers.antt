use Rattle.terms.proofs.Filing.{interned}
use Rattle.terms.proofs.bank.intern.Goals as goal

pub returns : goal.returns
returns c =
    record {
      terms = λ b fit. interned c.args.bank.now c.file.new.bank c.args.count.now.terms c.file.new.count.terms c.args.node c.file.result b fit c.file.ensures;
      nodes = c.file.ensures;
    }
