use Rattle.sheet.specs.View.{sheet_of}
use Rattle.candidates.proofs.Answering.{first_answered, first_counted}
use Rattle.candidates.proofs.calls.first_row.Goals as goal

pub returns : goal.returns
returns c =
    let s = sheet_of c.args.sheet.now in
    let rs = c.args.bank.now in
    let n = c.args.count.now.terms in
    let rs' = c.start_row-made.new.bank in
    let done = first_answered s rs n rs' c.start_row-made.new.count.terms c.or_restored.new.self.terms c.start_row-made.result c.or_restored.result c.if-bank-ne-MOST_TERMS.false (c.is_bank.ensures.0 c.if-not-is_bank.false) c.start_row-made.ensures c.or_restored.ensures.made c.or_restored.ensures.count in
    record { made = done; counted = λ seen holding. first_counted s rs n rs' c.or_restored.new.self.terms seen holding c.or_restored.result done }
