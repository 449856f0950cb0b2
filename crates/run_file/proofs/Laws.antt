-- The laws of the run file's grammar. Assumes nothing.
use Rattle.std.proofs.Common.{◌≡◌, ℕ, ◌+◌, ◌^◌, ◌<◌, ◌≤◌, List, [], ◌∷◌, length, Some, None, Ok, Err, decimal, Option, Result, ap, arith}
use Rattle.std.proofs.lemmas.List.Splits.{length-slice_split}
use Rattle.std.specs.Prelude.{◌==◌}
use Rattle.run_file.specs.Directive.{and_then}
use Rattle.run_file.specs.Grammar.{Grammar}
use Rattle.run_file.specs.Reading.{Sofar, line_says, at_line, following, finished, present, run_said, nothing}
use Rattle.run_file.specs.Text.{or_problem, number_of}
use Rattle.run_file_error.specs.declared.LineError.{LineError}
use Rattle.run_file_error.specs.declared.Problem.{Problem}
use Rattle.run_file_error.specs.declared.Problem.TheVariants.{PlantMissing, StartMissing, StepsMissing}
use Rattle.text_words.proofs.Laws.{numerals as small_numerals, parted, whole}
use Rattle.text_words.specs.Words.{lines_of, words_of}

numerals : (n : ℕ) → n < 2 ^ 32 → number_of (decimal n) ≡ Ok n
numerals n h = ap or_problem (small_numerals n 4294967295 (omega arith) (omega arith))

line_is : {X : Type 0} (line : ℕ) (p : Problem) (e : LineError) → ◌≡◌ {A = Result X LineError} (Err (record { line = line; problem = p })) (Err e) → line ≡ e.line
line_is line p e h = let same : record { line = line; problem = p } ≡ e = cc in ap (λ x. x.line) same

not_ok : {X : Type 0} (x : X) (e : LineError) → ◌≡◌ {A = Result X LineError} (Ok x) (Err e) → ⊥
not_ok x e h = let z : ◌≡◌ {A = ℕ} 0 1 = cc in omega arith

inside_lines : (line : ℕ) (d : Sofar) (ls : List (List ℕ)) (e : LineError) → following line d ls ≡ Err e → (line ≤ e.line) × (e.line < line + length ls)
inside_lines line d [] e h = absurd (not_ok d e h)
inside_lines line d (l ∷ ls) e h =
    elim (line_says d (words_of l)) as (λ r. and_then (at_line line r) (λ s. following (line + 1) s ls) ≡ Err e → (line ≤ e.line) × (e.line < line + length (l ∷ ls))) [
      | Ok s ↦ λ h. let i = inside_lines (line + 1) s ls e h in (omega arith, omega arith)
      | Err p ↦ λ h. let i = line_is {X = Sofar} line p e h in (omega arith, omega arith)
    ] h

present-line : {X Y : Type 0} (line : ℕ) (p : Problem) (o : Option X) (f : X → Result Y LineError) (e : LineError) → and_then (present line p o) f ≡ Err e → ((x : X) → f x ≡ Err e → line ≡ e.line) → line ≡ e.line
present-line line p None f e h go = line_is line p e h
present-line line p (Some x) f e h go = go x h

finished-line : (line : ℕ) (d : Sofar) (e : LineError) → finished line d ≡ Err e → line ≡ e.line
finished-line line d e h =
    present-line line PlantMissing d.plant _ e h (λ plant h.
    present-line line StartMissing d.starts _ e h (λ starts h.
    present-line line StepsMissing d.steps _ e h (λ steps h. absurd (not_ok _ e h))))

inside : (bs : List ℕ) (e : LineError) → run_said bs ≡ Err e → (0 < e.line) × (e.line ≤ length (lines_of bs))
inside bs e h =
    elim (following 1 nothing (lines_of bs)) as (λ r. (r ≡ Err e → (1 ≤ e.line) × (e.line < 1 + length (lines_of bs))) → and_then r (finished (length (lines_of bs))) ≡ Err e → (0 < e.line) × (e.line ≤ length (lines_of bs))) [
      | Ok d ↦ λ _ h. let i = finished-line (length (lines_of bs)) d e h in let some = length-slice_split (λ b. b == 10) bs in (omega arith, omega arith)
      | Err f ↦ λ lines h. let same : ◌≡◌ {A = Result Sofar LineError} (Err f) (Err e) = cc in let i = lines same in (omega arith, omega arith)
    ] (inside_lines 1 nothing (lines_of bs) e) h

pub laws : (bs : List ℕ) → Grammar bs
laws bs = record { whole = whole bs; parted = parted bs; numerals = numerals; inside = inside bs }
