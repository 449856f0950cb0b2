-- What a run file says, line by line. Assumes nothing.
use Rattle.std.specs.Prelude.{◌≡◌, ℕ, ◌+◌, List, [], ◌∷◌, ◌++◌, length, Some, None, Ok, Err, vec_items, Option, Result}
use Rattle.plant.specs.declared.affine.Curve.{Curve}
use Rattle.plant.specs.declared.listed.Entry.{Entry}
use Rattle.run_file.specs.Directive.{and_then, keyword_of, one_of, entry_of, curve_of}
use Rattle.run_file.specs.Text.{number_of}
use Rattle.text_words.specs.Words.{lines_of, words_of}
use Rattle.run_file.specs.declared.Halt.{Halt}
use Rattle.run_file_error.specs.declared.LineError.{LineError}
use Rattle.run_file.specs.declared.Plant.{Plant}
use Rattle.run_file_error.specs.declared.Problem.{Problem}
use Rattle.run_file_error.specs.declared.ReadFailure.{ReadFailure}
use Rattle.run_file.specs.declared.RunFile.{RunFile}
use Rattle.run_file_error.specs.declared.Problem.TheVariants.{PlantMissing, StartMissing, StepsMissing, PlantNotFirst, PlantRepeated, EntryUnderAffine, CurveUnderListed, StartRepeated, StepsRepeated}
use Rattle.run_file.specs.declared.directive.Keyword.{Keyword}
use Rattle.run_file.specs.declared.draft.Draft.{Draft}
use Rattle.std.specs.Option.{option_map}

-- a line's problem is the one that is said; want of memory says nothing
abbrev pub Halts : {Y : Type 0} → Halt → Result Y Problem → Type 0
Halts (Halt.Problem p) said = said ≡ Err p
Halts Halt.Memory said = Unit {0}

-- an answer is the one that is said, unless memory ran out
abbrev pub Means : {X Y : Type 0} → (X → Y) → Result X Halt → Result Y Problem → Type 0
Means view (Ok x) said = said ≡ Ok (view x)
Means view (Err halt) said = Halts halt said

-- a number in front of others that were read
abbrev pub with_first : ℕ → Result (List ℕ) Problem → Result (List ℕ) Problem
with_first n ns = and_then ns (λ ns. Ok (n ∷ ns))

-- each word writes a number; the first that doesn't is the problem
abbrev pub numbers_of : List (List ℕ) → Result (List ℕ) Problem
numbers_of [] = Ok []
numbers_of (w ∷ ws) = and_then (number_of w) (λ n. with_first n (numbers_of ws))

pub data Said : Type 0 where
  listed_plant : ℕ → List Entry → Said
  affine_plant : ℕ → List Curve → Said

abbrev pub plant_of : Plant → Said
plant_of (Plant.Listed default entries) = listed_plant default (vec_items entries)
plant_of (Plant.Affine modulus curves) = affine_plant modulus (vec_items curves)

-- what the lines so far say
pub record Sofar : Type 0 where
  pub plant : Option Said
  pub starts : Option (List ℕ)
  pub steps : Option ℕ
  pub inputs : List ℕ

abbrev pub so_far : Draft → Sofar
so_far d = record {
  plant = option_map plant_of d.plant;
  starts = option_map vec_items d.starts;
  steps = d.steps;
  inputs = vec_items d.inputs;
}

abbrev pub nothing : Sofar
nothing = record { plant = None; starts = None; steps = None; inputs = [] }

-- the plant is named before all else
abbrev pub named : Option Said → Result (Unit {0}) Problem
named None = Err PlantNotFirst
named (Some p) = Ok tt

-- entries are for a listed plant, and curves for an affine one
abbrev pub entry_more : Option Said → Result Entry Problem → Result Said Problem
entry_more None e = Err PlantNotFirst
entry_more (Some (listed_plant d es)) e = and_then e (λ e. Ok (listed_plant d (es ++ e ∷ [])))
entry_more (Some (affine_plant m cs)) e = Err EntryUnderAffine

abbrev pub curve_more : Option Said → Result Curve Problem → Result Said Problem
curve_more None c = Err PlantNotFirst
curve_more (Some (listed_plant d es)) c = Err CurveUnderListed
curve_more (Some (affine_plant m cs)) c = and_then c (λ c. Ok (affine_plant m (cs ++ c ∷ [])))

-- not given before
abbrev pub fresh : {X : Type 0} → Problem → Option X → Result (Unit {0}) Problem
fresh repeated None = Ok tt
fresh repeated (Some x) = Err repeated

abbrev pub with_plant : Sofar → Said → Sofar
with_plant d p = record { plant = Some p; starts = d.starts; steps = d.steps; inputs = d.inputs }

abbrev pub with_starts : Sofar → List ℕ → Sofar
with_starts d ns = record { plant = d.plant; starts = Some ns; steps = d.steps; inputs = d.inputs }

abbrev pub with_steps : Sofar → ℕ → Sofar
with_steps d n = record { plant = d.plant; starts = d.starts; steps = Some n; inputs = d.inputs }

abbrev pub with_inputs : Sofar → List ℕ → Sofar
with_inputs d ns = record { plant = d.plant; starts = d.starts; steps = d.steps; inputs = d.inputs ++ ns }

-- the plant is named once, by one number
abbrev pub first_named : (ℕ → Said) → Sofar → List ℕ → Result Sofar Problem
first_named plant d ns = and_then (fresh PlantRepeated d.plant) (λ _. and_then (one_of ns) (λ n. Ok (with_plant d (plant n))))

-- what a directive adds, or the problem: first where it stands, then its numbers
abbrev pub acted : Keyword → Sofar → List ℕ → Result Sofar Problem
acted Keyword.Listed d ns = first_named (λ n. listed_plant n []) d ns
acted Keyword.Affine d ns = first_named (λ n. affine_plant n []) d ns
acted Keyword.Entry d ns = and_then (entry_more d.plant (entry_of ns)) (λ p. Ok (with_plant d p))
acted Keyword.Curve d ns = and_then (curve_more d.plant (curve_of ns)) (λ p. Ok (with_plant d p))
acted Keyword.Start d ns = and_then (named d.plant) (λ _. and_then (fresh StartRepeated d.starts) (λ _. Ok (with_starts d ns)))
acted Keyword.Steps d ns = and_then (named d.plant) (λ _. and_then (fresh StepsRepeated d.steps) (λ _. and_then (one_of ns) (λ n. Ok (with_steps d n))))
acted Keyword.Inputs d ns = and_then (named d.plant) (λ _. Ok (with_inputs d ns))

-- a line without words says nothing
abbrev pub line_says : Sofar → List (List ℕ) → Result Sofar Problem
line_says d [] = Ok d
line_says d (w ∷ ws) = and_then (keyword_of w) (λ k. and_then (numbers_of ws) (acted k d))

abbrev pub failed_at : ℕ → Halt → ReadFailure
failed_at line (Halt.Problem p) = ReadFailure.Line (record { line = line; problem = p })
failed_at line Halt.Memory = ReadFailure.Memory

abbrev pub at_line : ℕ → Result Sofar Problem → Result Sofar LineError
at_line line (Ok d) = Ok d
at_line line (Err p) = Err (record { line = line; problem = p })

-- one line after the other; the first with a problem is the one that is named
abbrev pub following : ℕ → Sofar → List (List ℕ) → Result Sofar LineError
following line d [] = Ok d
following line d (l ∷ ls) = and_then (at_line line (line_says d (words_of l))) (λ said. following (line + 1) said ls)

pub record Run : Type 0 where
  pub plant : Said
  pub starts : List ℕ
  pub steps : ℕ
  pub inputs : List ℕ

abbrev pub present : {X : Type 0} → ℕ → Problem → Option X → Result X LineError
present line missing None = Err (record { line = line; problem = missing })
present line missing (Some x) = Ok x

-- what is missing at the end is a problem of the last line
abbrev pub finished : ℕ → Sofar → Result Run LineError
finished line d =
    and_then (present line PlantMissing d.plant) (λ plant.
    and_then (present line StartMissing d.starts) (λ starts.
    and_then (present line StepsMissing d.steps) (λ steps.
    Ok (record { plant = plant; starts = starts; steps = steps; inputs = d.inputs }))))

-- the whole file
abbrev pub run_said : List ℕ → Result Run LineError
run_said bytes = and_then (following 1 nothing (lines_of bytes)) (finished (length (lines_of bytes)))

abbrev pub run_of : RunFile → Run
run_of f = record { plant = plant_of f.plant; starts = vec_items f.starts; steps = f.steps; inputs = vec_items f.inputs }

-- the same of a whole file
abbrev pub Fails : {Y : Type 0} → ReadFailure → Result Y LineError → Type 0
Fails (ReadFailure.Line e) said = said ≡ Err e
Fails ReadFailure.Memory said = Unit {0}

abbrev pub Tells : {X Y : Type 0} → (X → Y) → Result X ReadFailure → Result Y LineError → Type 0
Tells view (Ok x) said = said ≡ Ok (view x)
Tells view (Err failure) said = Fails failure said
