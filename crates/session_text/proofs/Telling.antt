-- The text of a session grows stretch by stretch.
use Rattle.std.proofs.Common.{◌≡◌, ℕ, ◌+◌, ◌-◌, ◌<◌, ◌≤◌, List, ◌∷◌, ◌++◌, map, length, get_or, take, drop, Option, Result, refl, sym, ap, ◌∙◌, subst, append_assoc, length-drop, arith}
use Rattle.std.proofs.lemmas.List.{at_drop_more, at_drop_all, take_all}
use Rattle.fault.specs.declared.Failure.{Failure}
use Rattle.fault.specs.declared.TableFault.{TableFault}
use Rattle.sheet.specs.System.{System}
use Rattle.reader.specs.Law.{ReadAs, Refused}
use Rattle.rules.specs.declared.Call.{Call}
use Rattle.rules.specs.declared.Counts.{Counts}
use Rattle.rules.specs.declared.Entry.{Entry}
use Rattle.script.specs.declared.error.LineError.{LineError}
use Rattle.script.specs.declared.step.Step.{Step}
use Rattle.table.specs.Answers.{call_of, answer_of}
use Rattle.session_text.specs.Lines.{lines_of, open_line}
use Rattle.session_text.specs.Session.{Worked, StretchTold, Told, FailureLine, Printed, calls_before, faulty, stretches}

-- bytes describe one sheet
pub one_sheet : (bytes : List ℕ) (s t : System) → ReadAs bytes s → ReadAs bytes t → t ≡ s
one_sheet bytes s t a b = a.only t b.describe

module _ (s : System) (limit : ℕ) (calls : List Call) (refusal : Option TableFault) (counts : Counts) (old mid new : List ℕ) where
  pub stretch_told : (read : System) (entries shown : List Entry) → read ≡ s → shown ≡ entries → map call_of entries ≡ calls → Worked read limit (map call_of entries) (map answer_of entries) refusal counts → mid ≡ old ++ open_line limit refusal → new ≡ mid ++ lines_of (map call_of shown) (map answer_of shown) → StretchTold s limit calls old new counts
  stretch_told read entries shown same is called worked opened told =
      let answers = map answer_of entries in
      let here = subst (λ (r : System). Worked r limit (map call_of entries) answers refusal counts) same worked in (
        refusal,
        answers,
        subst (λ (cs : List Call). Worked s limit cs answers refusal counts) called here,
        told ∙ ap (λ (es : List Entry). mid ++ lines_of (map call_of es) (map answer_of es)) is
            ∙ ap (λ (cs : List Call). mid ++ lines_of cs answers) called
            ∙ ap (λ (t : List ℕ). t ++ lines_of calls answers) opened
            ∙ append_assoc old (open_line limit refusal) (lines_of calls answers),
      )

module _ (s : System) (steps : List Step) (i : ℕ) (d : Step) (inside : i < length steps) where
  pub later_opened : (before between counts : Counts) (old mid new : List ℕ) (limit : ℕ) (next : List Step) → next ≡ drop (i + 1) steps → get_or steps i d ≡ Step.Open limit → StretchTold s limit (calls_before next) old mid between → Told s between (stretches (drop (i + 1) steps)) mid new counts → Told s before (stretches (drop i steps)) old new counts
  later_opened before between counts old mid new limit next same is stretch rest =
      let here = subst (λ (xs : List Step). StretchTold s limit (calls_before xs) old mid between) same stretch in
      let e = at_drop_more stretches steps i d inside ∙ ap (λ (x : Step). stretches (x ∷ drop (i + 1) steps)) is in
      subst (λ xs. Told s before xs old new counts) (sym e) (mid, between, here, rest)

  pub later_called : (before counts : Counts) (old new : List ℕ) (call : Call) → get_or steps i d ≡ Step.Call call → Told s before (stretches (drop (i + 1) steps)) old new counts → Told s before (stretches (drop i steps)) old new counts
  later_called before counts old new call is rest =
      let e = at_drop_more stretches steps i d inside ∙ ap (λ (x : Step). stretches (x ∷ drop (i + 1) steps)) is in
      subst (λ xs. Told s before xs old new counts) (sym e) rest

pub later_done : (s : System) (steps : List Step) (i : ℕ) (counts : Counts) (text : List ℕ) → length steps ≤ i → Told s counts (stretches (drop i steps)) text text counts
later_done s steps i counts text h = subst (λ xs. Told s counts xs text text counts) (sym (at_drop_all stretches steps i h)) (refl, refl)

pub failed_text : (bytes : List ℕ) (limit : ℕ) (said : Result (List Step) LineError) (text : List ℕ) (failure : Failure) → Refused bytes failure → FailureLine failure text → Printed bytes limit said text
failed_text bytes limit said text (Failure.Fault f) r is = faulty f r is
failed_text bytes limit said text Failure.Memory r is = absurd is

-- what a slice to the end holds
pub to_end : (steps : List Step) (i : ℕ) → take (length steps - i) (drop i steps) ≡ drop i steps
to_end steps i = take_all (length steps - i) (drop i steps) (omega (arith, length-drop i steps))
