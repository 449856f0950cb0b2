-- The problem of a script is on one of its lines. Assumes nothing.
use Rattle.std.proofs.Common.{◌≡◌, ℕ, ◌+◌, ◌<◌, ◌≤◌, List, [], ◌∷◌, length, Ok, Err, Result, ap, arith}
use Rattle.text_words.specs.Words.{lines_of, words_of}
use Rattle.script.specs.declared.error.LineError.{LineError}
use Rattle.script.specs.declared.error.Problem.{Problem}
use Rattle.script.specs.declared.step.Step.{Step}
use Rattle.script.specs.Grammar.{NamesLine}
use Rattle.script.specs.Reading.{line_says, at_line, following}
use Rattle.script.specs.Steps.{and_then}

line_is : {X : Type 0} (line : ℕ) (p : Problem) (e : LineError) → ◌≡◌ {A = Result X LineError} (Err (record { line = line; problem = p })) (Err e) → line ≡ e.line
line_is line p e h = let same : record { line = line; problem = p } ≡ e = cc in ap (λ x. x.line) same

not_ok : {X : Type 0} (x : X) (e : LineError) → ◌≡◌ {A = Result X LineError} (Ok x) (Err e) → ⊥
not_ok x e h = let z : ◌≡◌ {A = ℕ} 0 1 = cc in omega arith

inside_lines : (line : ℕ) (steps : List Step) (ls : List (List ℕ)) (e : LineError) → following line steps ls ≡ Err e → (line ≤ e.line) × (e.line < line + length ls)
inside_lines line steps [] e h = absurd (not_ok steps e h)
inside_lines line steps (l ∷ ls) e h =
    elim (line_says steps (words_of l)) as (λ r. and_then (at_line line r) (λ more. following (line + 1) more ls) ≡ Err e → (line ≤ e.line) × (e.line < line + length (l ∷ ls))) [
      | Ok more ↦ λ h. let i = inside_lines (line + 1) more ls e h in (omega arith, omega arith)
      | Err p ↦ λ h. let i = line_is {X = List Step} line p e h in (omega arith, omega arith)
    ] h

pub names_line : (text : List ℕ) → NamesLine text
names_line text e h = let i = inside_lines 1 [] (lines_of text) e h in (omega arith, omega arith)
