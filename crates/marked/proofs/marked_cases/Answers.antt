use Rattle.std.proofs.Common.{refl}
use Rattle.marked.proofs.Reading.{hopper_read, bound_0_read, without_m_read}
use Rattle.marked.proofs.Holding.{holding}
use Rattle.marked.proofs.Ending.{bound_0_unknown, without_m_unknown}
use Rattle.marked.proofs.Printing.{printed_lines}
use Rattle.marked.proofs.Small.{runs, cuts, conditions, merges}
use Rattle.marked.proofs.marked_cases.Goals as goal

pub returns : goal.returns
returns c =
    record {
      long = refl;
      hopper_read = hopper_read;
      bound_0_read = bound_0_read;
      without_m_read = without_m_read;
      holds = holding;
      bound_0_unknown = bound_0_unknown;
      without_m_unknown = without_m_unknown;
      lines = printed_lines;
      runs = runs;
      cuts = cuts;
      conditions = conditions;
      merges = merges;
    }
