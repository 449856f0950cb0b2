-- Where the problem of a script is. Assumes nothing.
use Rattle.std.specs.Prelude.{◌≡◌, ℕ, ◌<◌, ◌≤◌, List, length, Err}
use Rattle.text_words.specs.Words.{lines_of}
use Rattle.script.specs.declared.error.LineError.{LineError}
use Rattle.script.specs.Reading.{script_said}

-- a problem names a line of the script
abbrev pub NamesLine : List ℕ → Type 0
NamesLine text = (e : LineError) → script_said text ≡ Err e → (0 < e.line) × (e.line ≤ length (lines_of text))
