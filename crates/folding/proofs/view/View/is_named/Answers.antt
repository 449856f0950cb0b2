use Rattle.std.proofs.Common.{eqb, get_or, bit_or}
use Rattle.std.proofs.lemmas.Bool.{eq-eqb, ne_eqb}
use Rattle.terms.specs.Bank.{no_record, term_at}
use Rattle.forms.specs.Rows.{occurs_in_terms}
use Rattle.forms.specs.Form.{names_among}
use Rattle.folding.proofs.Taking.{place_named, both-named, left_unnamed}
use Rattle.folding.proofs.view.View.is_named.Goals as goal

pub returns-then-left-names : goal.returns-then-left-names
returns-then-left-names c vector h =
    let rs = c.args.self.now.records.now in
    let names = c.args.names in
    let i = c.args.condition.left in
    let j = c.args.condition.right in
    both-named (eqb (bit_or (get_or rs i no_record).names names) names) (eqb (bit_or (get_or rs j no_record).names names) names) (names_among (λ x. occurs_in_terms x vector) (term_at rs i)) (names_among (λ x. occurs_in_terms x vector) (term_at rs j))
    (place_named rs c.args.self.now.count.terms c.args.self.now.is_bank names vector h i c.requires.left) (place_named rs c.args.self.now.count.terms c.args.self.now.is_bank names vector h j c.requires.right) (eq-eqb _ names c.if-left-names.true)

pub returns-else-left-names : goal.returns-else-left-names
returns-else-left-names c vector h =
    let rs = c.args.self.now.records.now in
    let names = c.args.names in
    let i = c.args.condition.left in
    let j = c.args.condition.right in
    left_unnamed (eqb (bit_or (get_or rs i no_record).names names) names) (names_among (λ x. occurs_in_terms x vector) (term_at rs i)) (names_among (λ x. occurs_in_terms x vector) (term_at rs j))
    (place_named rs c.args.self.now.count.terms c.args.self.now.is_bank names vector h i c.requires.left) (ne_eqb _ names c.if-left-names.false)
