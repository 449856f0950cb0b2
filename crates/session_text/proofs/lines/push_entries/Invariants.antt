use Rattle.std.proofs.Common.{◌≡◌, ◌++◌, drop, map, string_bytes}
use Rattle.session_text.specs.Lines.{lines_of}
use Rattle.table.specs.Answers.{call_of, answer_of}
use Rattle.session_text.proofs.lines.push_entries.Given as goal

abbrev pub invariant-loop-entry : goal.invariant-loop-entry
invariant-loop-entry l = string_bytes l.text ++ lines_of (map call_of (drop l.entry-index l.entries)) (map answer_of (drop l.entry-index l.entries)) ≡ string_bytes l.initial.text ++ lines_of (map call_of l.entries) (map answer_of l.entries)
