use Rattle.std.proofs.Common.{◌≡◌, ℕ, ◌<◌, ◌≤◌, map, length, get_or}
use Rattle.sheet.specs.Runs.{start_reading}
use Rattle.bench.specs.Values.{Kept}
use Rattle.bench.proofs.readings.start_readings.Given as goal

abbrev pub invariant-loop-k : goal.invariant-loop-k
invariant-loop-k g l =
    record {
      long : length l.out ≡ 6;
      right : (j : ℕ) → j < l.k → get_or l.out j 0 ≡ get_or (map (start_reading (g.M.Model.meaning l.initial.model) l.starts) l.readings) j 0;
      rest : (j : ℕ) → l.k ≤ j → get_or l.out j 0 ≡ 0;
      kept : Kept g.M.Model.meaning g.M.Model.lenders l.initial.model l.model;
    }
