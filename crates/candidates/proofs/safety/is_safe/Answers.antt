use Rattle.std.proofs.Common.{rules}
use Rattle.sheet.specs.View.{sheet_of}
use Rattle.candidates.proofs.Verdicts.{judged_by, kept_after}
use Rattle.candidates.proofs.safety.is_safe.Goals as goal

pub judge-requires : goal.judge-requires
judge-requires c =
    record {
      sound = rw c.new-guard.ensures.count (c.is_sound.ensures.0 c.if-not-is_sound.false);
      labelled = c.if-labels-lt-MOST_TERMS.false;
    }

pub returns : goal.returns
returns c =
    let s = sheet_of c.args.sheet.now in
    let rs = c.args.bank.now in
    let form = c.args.form.now in
    let lawful = c.args.sheet.now.lawful in
    let n = c.args.count.now.terms in
    let h = rw c.new-guard.ensures.count at c.judge.ensures in
    record {
      judged = judged_by s lawful rs n form c.args.labels.now (record { sound = c.is_sound.ensures.0 c.if-not-is_sound.false; labelled = c.if-labels-lt-MOST_TERMS.false }) c.judge.new.bank c.judge.new.count.terms c.judge.result h;
      kept = kept_after s lawful rs n form c.judge.new.bank c.judge.new.count.terms _ c.judge.result h (search rules);
    }
