-- What is printed of a sheet that is checked, and what a line that begins with holds says.
-- Assumes nothing.
use Rattle.std.specs.Prelude.{◌≡◌, ℕ, List, ◌++◌, codes}
use Rattle.fault.specs.declared.Fault.{Fault}
use Rattle.fault.specs.Values.{text_of}
use Rattle.forms.specs.Rows.{first_row}
use Rattle.forms.specs.Safety.{Safe, Unsafe}
use Rattle.reader.specs.Law.{ReadAs, RefusedBy}
use Rattle.rules.specs.declared.Answer.{Answer}
use Rattle.rules.specs.declared.Call.{Call}
use Rattle.rules.specs.declared.Outcome.{Outcome}
use Rattle.rules.specs.Promises.{AlwaysTrue}
use Rattle.rules.specs.Standing.{Standing, opening, counts_of}
use Rattle.rules.specs.Working.{WorkedThrough}
use Rattle.sheet.specs.System.{System}
use Rattle.verdict_text.specs.Lines.{line_of, unknown_start}

-- how many rows the table of the program has room for
abbrev pub row_limit : ℕ
row_limit = 64

-- The line of a sheet: `unknown start` where row 0 is not safe; else what working a newly opened
-- table through comes to.
pub data SheetLine (s : System) (line : List ℕ) : Type 0 where
  unsafe_start : Unsafe s (first_row s) → line ≡ unknown_start → SheetLine s line
  worked : Safe s (first_row s)
      → (calls : List Call) (answers : List Answer) (outcome : Outcome) (after : Standing)
      → WorkedThrough s row_limit (opening s) calls answers outcome after
      → line ≡ line_of outcome (counts_of after) → SheetLine s line

-- The line of the bytes: of a faulty sheet its fault, and of a whole one the line of the sheet that
-- they describe.
pub data Checked (bytes : List ℕ) (line : List ℕ) : Type 0 where
  faulty : (f : Fault) → RefusedBy bytes f → line ≡ text_of f ++ codes "\n" → Checked bytes line
  whole : (s : System) → ReadAs bytes s → SheetLine s line → Checked bytes line

-- the bytes are a sheet whose invariant is true in every run over every plant model
pub record Proven (bytes : List ℕ) : Type 0 where
  pub sheet : System
  pub read : ReadAs bytes sheet
  pub always : AlwaysTrue sheet
