use Rattle.std.proofs.Common.{◌≡◌, ◌+◌, length, drop}
use Rattle.run_file.specs.Reading.{so_far, following}
use Rattle.text_words.specs.Words.{lines_of}
use Rattle.run_file.proofs.reading.take_lines.Given as goal

-- what the rest says from here on is what the file says
abbrev pub invariant-loop-text : goal.invariant-loop-text
invariant-loop-text l = (l.line ≡ length l.yielded) × (following 1 (so_far l.initial.draft) (lines_of l.bytes) ≡ following (l.line + 1) (so_far l.draft) (drop l.line (lines_of l.bytes)))
