use Rattle.std.proofs.Common.{map, take, sym, subst, arith, rules}
use Rattle.terms.specs.Bank.{term_at}
use Rattle.sheet.specs.View.{sheet_of}
use Rattle.rows.specs.Records.{row_in}
use Rattle.folding.specs.Dropping.{NamesIn}
use Rattle.folding.proofs.Entailed.{between_taken}
use Rattle.folding.proofs.Dropping.{among_is, trimming_keeps, trimming_repeats, trimming_unnamed, trimming_high, trimming_full}
use Rattle.folding.proofs.view.View.trim_row.Goals.{then-used-lt-MOST_CONDITIONS+then-is_low+then-is_named+then-not-contains, else-used-lt-MOST_CONDITIONS, else-used-lt-MOST_CONDITIONS-via-then-used-lt-MOST_CONDITIONS+then-is_low+then-is_named+else-not-contains, else-used-lt-MOST_CONDITIONS-via-then-used-lt-MOST_CONDITIONS+then-is_low+else-is_named, else-used-lt-MOST_CONDITIONS-via-then-used-lt-MOST_CONDITIONS+else-is_low, else-used-lt-MOST_CONDITIONS-via-else-used-lt-MOST_CONDITIONS}
use Rattle.folding.proofs.view.View.trim_row.Goals as goal

pub loop-condition-preserved : goal.loop-condition-preserved
loop-condition-preserved c =
    let rs = c.args.self.now.records.now in
    let n = c.args.self.now.count.terms in
    let bank = c.args.self.now.is_bank in
    let row = c.args.row in
    let vector = (row_in (sheet_of c.args.sheet.now) rs row).vector in
    let source = take row.used row.conditions in
    let l = c.loop-condition in
    let between = between_taken n n row.conditions row.used (omega arith) c.requires.conditions in
    let names : NamesIn c.names_in-names.result vector = subst (λ k. NamesIn c.names_in-names.result (map (term_at rs) (take k row.vector))) c.readings_of.ensures c.names_in-names.ensures in
    elim c.if-used-lt-MOST_CONDITIONS.branch [
      | then-used-lt-MOST_CONDITIONS+then-is_low+then-is_named+then-not-contains w ↦
          rw (w.conditions-is, w.used-is)
          (trimming_keeps c.args.self.now.records.now c.args.self.now.count.terms c.args.height vector source l.conditions l.used l.condition-index l.invariant c.loop-condition-test.true between w.if-used-lt-MOST_CONDITIONS.true (sym w.if-is_low.ensures) (sym (w.if-is_named.ensures vector names)) (among_is c.args.self.now.records.now c.args.self.now.count.terms c.args.height vector source l.conditions l.used l.condition-index l.invariant c.loop-condition-test.true between bank _ _ w.if-not-contains.ensures.value (λ d. search rules)))
      | else-used-lt-MOST_CONDITIONS w ↦
          rw (w.conditions-is, w.used-is)
          (elim w.else-used-lt-MOST_CONDITIONS.branch [
            | else-used-lt-MOST_CONDITIONS-via-then-used-lt-MOST_CONDITIONS+then-is_low+then-is_named+else-not-contains w' ↦
                trimming_repeats c.args.self.now.records.now c.args.self.now.count.terms c.args.height vector source l.conditions l.used l.condition-index l.invariant c.loop-condition-test.true between (among_is c.args.self.now.records.now c.args.self.now.count.terms c.args.height vector source l.conditions l.used l.condition-index l.invariant c.loop-condition-test.true between bank _ _ w'.if-not-contains.ensures.value (λ d. search rules))
            | else-used-lt-MOST_CONDITIONS-via-then-used-lt-MOST_CONDITIONS+then-is_low+else-is_named w' ↦ trimming_unnamed c.args.self.now.records.now c.args.self.now.count.terms c.args.height vector source l.conditions l.used l.condition-index l.invariant c.loop-condition-test.true between (sym (w'.if-is_named.ensures vector names))
            | else-used-lt-MOST_CONDITIONS-via-then-used-lt-MOST_CONDITIONS+else-is_low w' ↦ trimming_high c.args.self.now.records.now c.args.self.now.count.terms c.args.height vector source l.conditions l.used l.condition-index l.invariant c.loop-condition-test.true between (sym w'.if-is_low.ensures)
            | else-used-lt-MOST_CONDITIONS-via-else-used-lt-MOST_CONDITIONS w' ↦ trimming_full c.args.self.now.records.now c.args.self.now.count.terms c.args.height vector source l.conditions l.used l.condition-index l.invariant c.loop-condition-test.true between w'.if-used-lt-MOST_CONDITIONS.false
          ])
    ]
