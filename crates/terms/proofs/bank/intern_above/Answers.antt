use Rattle.terms.specs.Bank.{Bank, Filed}
use Rattle.terms.proofs.Filing.{interned, filed_in_bank}
use Rattle.terms.proofs.bank.intern_above.Goals as goal

pub returns : goal.returns
returns c =
    let rs = c.args.bank.now in
    let n = c.args.count.now.terms in
    let rs' = c.file_above.new.bank in
    let n' = c.file_above.new.count.terms in
    let node = c.args.node in
    let r = c.file_above.result in
    let filed : Bank rs n → Filed rs n node rs' n' r = λ b. filed_in_bank rs rs' n n' node r b c.file_above.ensures in
    record { terms = λ b fit. interned rs rs' n n' node r b fit (filed b); bank = filed; nodes = c.file_above.ensures }
