use Rattle.std.proofs.Common.{refl, ◌∙◌, arith}
use Rattle.sheet.specs.View.{sheet_of}
use Rattle.bench.proofs.Going.{reached_next, ran_break, ran_none}
use Rattle.bench.proofs.running.carry_out.Goals as goal

pub loop-i-preserved : goal.loop-i-preserved
loop-i-preserved g c =
    let old = c.loop-i.invariant in
    let meaning = c.judge.ensures.kept.0 ∙ old.kept.0 in
    record {
      reached = reached_next (g.M.Model.meaning c.args.model.now) (sheet_of c.args.sheet.now) c.args.starts.now c.args.inputs.now c.loop-i.i c.loop-i.current.place c.judge.new.self.place c.judge.result (g.M.Model.meaning c.loop-i.model) old.reached c.judge.ensures.place old.kept.0 c.judge.ensures.answer c.advance.new.self.place (g.M.Model.meaning c.judge.new.model) c.inputs_of-given.result.now c.if-not-judge.false meaning c.inputs_of-given.ensures c.advance.ensures.place;
      kept = (c.advance.ensures.kept.0 ∙ meaning, c.advance.ensures.kept.1 ∙ (c.judge.ensures.kept.1 ∙ old.kept.1));
    }

pub returns-then-not-judge-clause-ran : goal.returns-then-not-judge-clause-ran
returns-then-not-judge-clause-ran g c =
    let old = c.loop-i.invariant in
    ran_break (g.M.Model.meaning c.args.model.now) (sheet_of c.args.sheet.now) c.args.starts.now c.args.inputs.now c.loop-i.i c.loop-i.current.place c.judge.new.self.place c.judge.result (g.M.Model.meaning c.loop-i.model) old.reached c.judge.ensures.place old.kept.0 c.judge.ensures.answer c.args.n c.loop-i.i refl (omega arith) c.if-not-judge.true

pub returns-then-judge-clause-ran : goal.returns-then-judge-clause-ran
returns-then-judge-clause-ran g c =
    let old = c.loop-i.invariant in
    ran_none (g.M.Model.meaning c.args.model.now) (sheet_of c.args.sheet.now) c.args.starts.now c.args.inputs.now c.loop-i.i c.loop-i.current.place c.judge-2.new.self.place c.judge-2.result (g.M.Model.meaning c.loop-i.model) old.reached c.judge-2.ensures.place old.kept.0 c.judge-2.ensures.answer c.args.n (omega arith) c.if-judge.true

pub returns-else-judge-clause-ran : goal.returns-else-judge-clause-ran
returns-else-judge-clause-ran g c =
    let old = c.loop-i.invariant in
    ran_break (g.M.Model.meaning c.args.model.now) (sheet_of c.args.sheet.now) c.args.starts.now c.args.inputs.now c.loop-i.i c.loop-i.current.place c.judge-2.new.self.place c.judge-2.result (g.M.Model.meaning c.loop-i.model) old.reached c.judge-2.ensures.place old.kept.0 c.judge-2.ensures.answer c.args.n c.args.n (omega arith) (omega arith) c.if-judge.false
