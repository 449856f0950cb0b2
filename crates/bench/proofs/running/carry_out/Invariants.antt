use Rattle.sheet.specs.View.{sheet_of}
use Rattle.bench.specs.Values.{Kept}
use Rattle.bench.proofs.Going.{Reached}
use Rattle.bench.proofs.running.carry_out.Given as goal

abbrev pub invariant-loop-i : goal.invariant-loop-i
invariant-loop-i g l =
    record {
      reached : Reached (g.M.Model.meaning l.fn.model) (sheet_of l.sheet) l.starts l.inputs l.i l.current.place;
      kept : Kept g.M.Model.meaning g.M.Model.lenders l.fn.model l.model;
    }
