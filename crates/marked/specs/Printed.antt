-- The lines that are printed of the three sheets' bytes. Assumes nothing.
use Rattle.std.specs.Prelude.{◌≡◌, ℕ, List, codes}
use Rattle.verdict_text.specs.Checked.{Checked}
use Rattle.marked.specs.Sheets.{hopper_bytes, bound_0_bytes, without_m_bytes}

-- the line is what checking the bytes comes to, and no other line is
pub record Prints (bytes line : List ℕ) : Type 0 where
  pub checked : Checked bytes line
  pub only : (other : List ℕ) → Checked bytes other → other ≡ line

-- Of the sheet's bytes it is printed that the sheet holds; of the two that differ from it, that branch 1 of row 0 is left unknown.
pub record PrintedLines : Type 0 where
  pub hopper_line : Prints hopper_bytes (codes "holds rows 2 kept 1 merged 3 struck 0\n")
  pub bound_0_line : Prints bound_0_bytes (codes "unknown row 0 branch 1\n")
  pub without_m_line : Prints without_m_bytes (codes "unknown row 0 branch 1\n")
