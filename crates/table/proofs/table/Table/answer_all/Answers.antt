use Rattle.std.proofs.Common.{map, refl, subst}
use Rattle.std.proofs.lemmas.Result.{err_from_is_err_and}
use Rattle.sheet.specs.View.{sheet_of}
use Rattle.sheet.proofs.Fewness.{lawful_sheet}
use Rattle.rules.specs.Standing.{Standing, opening}
use Rattle.rules.proofs.Promised.{played_alone}
use Rattle.rules.proofs.Whole.{keeping}
use Rattle.table.specs.Answers.{answer_of, call_of}
use Rattle.table.specs.Standing.{Stands}
use Rattle.table.proofs.Running.{keeps_more}
use Rattle.table.proofs.table.Table.answer_all.Goals as goal

pub returns-in_err-open : goal.returns-in_err-open
returns-in_err-open c =
    let p = err_from_is_err_and c.from_residual.result c.from_residual.ensures.1 in
    rw (p.1, p.2) (record { calls = refl; opened = c.in_err-open.ensures.opened.0; promised = tt; left = tt; unanswered = refl; refused = c.in_err-open.ensures.opened.1; memory = c.in_err-open.ensures.memory })

pub returns : goal.returns
returns c =
    let s = sheet_of c.args.sheet in
    let opens = c.in_ok-open.ensures.opened.0 in
    let calls = map call_of c.make_all.new.entries in
    let answers = map answer_of c.make_all.new.entries in
    let run = c.make_all.ensures.played s c.args.limit (opening s) c.in_ok-open.ensures.opened.1 in
    record {
      calls = c.make_all.ensures.calls;
      opened = opens;
      promised = keeping s (lawful_sheet s c.args.sheet.lawful) opens.3 c.args.limit calls answers run.0 run.1;
      left = λ at comes. subst (λ (x : Standing). Stands s c.args.limit c.make_all.new.self x) (played_alone s c.args.limit calls answers run.0 at run.1 comes) run.2;
      unanswered = tt;
      refused = tt;
      memory = keeps_more c.args.self.now c.open.new.self c.make_all.new.self c.in_ok-open.ensures.memory c.make_all.ensures.memory;
    }
