use Rattle.std.proofs.Common.{◌≡◌, ◌<◌, ◌++◌, [], ◌∷◌, vec_items, rules}
use Rattle.terms.specs.Bank.{literal_of}
use Rattle.notation.specs.Written.{line}
use Rattle.notation.proofs.Documents.{between_more, document_more}
use Rattle.notation.proofs.document.read.Goals as goal

pub loop-rest-preserved : goal.loop-rest-preserved
loop-rest-preserved c =
    let grown = c.condition.ensures.extends in
    let conds = vec_items c.loop-rest.conditions in
    let d = c.in_ok-read.read in
    let rs' = c.condition.new.self.bank in
    let n' = c.condition.new.self.count.terms in
    let got : (d.left < n') × (d.right < n') × (c.loop-rest.rest.now ≡ line (literal_of rs' d) ++ c.in_ok-read.more.now) = search rules in
    let items : vec_items c.push.new.self ≡ conds ++ (d ∷ []) = search rules in (
      rw items (between_more conds d c.loop-rest.reader.count.terms n' grown.more got.0 got.1 c.loop-rest.invariant.0),
      rw items (document_more c.loop-rest.reader.bank rs' c.loop-rest.reader.count.terms n' conds d c.args.text.now c.loop-rest.rest.now c.in_ok-read.more.now grown c.loop-rest.invariant.0 c.loop-rest.invariant.1 got.2),
    )
