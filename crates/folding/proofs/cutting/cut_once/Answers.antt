use Rattle.std.proofs.Common.{◌≡◌, Some, None, inl, ◌∙◌, arith}
use Rattle.std.proofs.lemmas.Result.{MatchResult-weaker, err_from_is_err_and}
use Rattle.fault.specs.declared.TableFault.TheVariants.{NamesExhausted}
use Rattle.sheet.specs.View.{sheet_of}
use Rattle.terms.specs.Bank.{term_at}
use Rattle.terms.proofs.Filing.{extends_none}
use Rattle.rows.specs.Records.{row_in}
use Rattle.folding.proofs.Cuts.{free_is, cut_made, cut_refused}
use Rattle.folding.proofs.cutting.cut_once.Goals as goal

pub returns-in_err-name : goal.returns-in_err-name
returns-in_err-name c =
    let rs = c.args.bank.now in
    let n = c.args.count.now.terms in
    let row = row_in (sheet_of c.args.sheet.now) rs c.args.row in
    let none : c.lowest_free.result ≡ None = grind arith in
    let fault : c.in_err-name.field-0.0 ≡ NamesExhausted = grind arith in
    let p = err_from_is_err_and c.from_residual.result c.from_residual.ensures.1 in
    rw (p.1, p.2)
    (inl (fault, free_is row c.names_of_row-names.result _ (c.names_of_row-names.ensures n 22 c.requires.sound.bank c.requires.sound.row) c.lowest_free.ensures ∙ none, extends_none rs n c.requires.sound.bank))

pub returns : goal.returns
returns c =
    let s = sheet_of c.args.sheet.now in
    let rs = c.args.bank.now in
    let n = c.args.count.now.terms in
    let row = row_in s rs c.args.row in
    let name = c.in_ok-name.name in
    let some : c.lowest_free.result ≡ Some name = grind arith in
    let free = free_is row c.names_of_row-names.result _ (c.names_of_row-names.ensures n 22 c.requires.sound.bank c.requires.sound.row) c.lowest_free.ensures ∙ some in
    let t = term_at rs c.args.place in
    MatchResult-weaker c.rewrite_row.result c.rewrite_row.ensures
    (λ next h. cut_made s rs n c.args.row t c.way_down-old.result name c.way_down-old.ensures.is free c.rewrite_row.new.bank c.rewrite_row.new.count.terms next h)
    (λ e h. cut_refused s rs n c.args.row t c.way_down-old.result name c.way_down-old.ensures.is free c.rewrite_row.new.bank c.rewrite_row.new.count.terms e h)
