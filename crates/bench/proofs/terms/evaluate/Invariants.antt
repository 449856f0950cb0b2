use Rattle.std.proofs.Common.{◌≡◌, true, false}
use Rattle.sheet.specs.Truth.{term_values}
use Rattle.sheet.specs.View.{sheet_of}
use Rattle.bench.specs.Values.{Known, Kept}
use Rattle.bench.proofs.Evaluating.{Past}
use Rattle.bench.proofs.terms.evaluate.Given as goal

abbrev pub invariant-loop-k : goal.invariant-loop-k
invariant-loop-k g l =
    let terms = (sheet_of l.sheet).terms in
    let all = term_values (g.M.Model.meaning l.initial.model) l.readings l.inputs terms in
    record {
      past : Past l.late terms all l.k l.values;
      early : l.late ≡ true → Known false terms all l.values;
      kept : Kept g.M.Model.meaning g.M.Model.lenders l.initial.model l.model;
    }
