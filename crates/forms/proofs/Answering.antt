-- A lawful sheet runs alike over two meanings that answer each question alike.
use Rattle.std.proofs.Common.{◌≡◌, ℕ, zero, suc, ◌^◌, ◌-◌, ◌<◌, ◌≤◌, min, false, true, ltb, List, [], ◌∷◌, ◌++◌, map, length, get_or, refl, ap, ◌∙◌, subst, arith}
use Rattle.std.specs.List.{AllByRecursion as All}
use Rattle.std.proofs.ByRecursion.{All-push}
use Rattle.std.proofs.lemmas.Bool.{ltb-true, leb-true, and_parts}
use Rattle.plant.specs.Plant.{IsValue, IsQuestion, IsPlant, SameAnswers}
use Rattle.sheet.specs.declared.syntax.Args.{Args}
use Rattle.sheet.specs.declared.syntax.Args.TheVariants.{Zero, One, Two, Three}
use Rattle.sheet.specs.declared.syntax.Reading.{Reading}
use Rattle.sheet.specs.declared.syntax.Record.{Record}
use Rattle.sheet.specs.declared.syntax.Start.{Start}
use Rattle.sheet.specs.declared.syntax.Term.{Term as SheetTerm}
use Rattle.sheet.specs.Grow.{grow}
use Rattle.sheet.specs.Lawful.{each_at, Lawful}
use Rattle.sheet.specs.Rules.{names, keeps, obeys_at, args_below}
use Rattle.sheet.specs.Runs.{Configuration, numbered, or_kept, start_bit, start_value, start_reading, start, step_values, step, invariant_holds}
use Rattle.sheet.specs.System.{System}
use Rattle.sheet.specs.Truth.{Meaning, arg_values, term_value, term_values, answers, truths, chosen}
use Rattle.terms.specs.Terms.{Term, Interpretation, eval}
use Rattle.forms.specs.Rows.{Row, CoversBy}
use Rattle.forms.proofs.Values.{eval-small}

abbrev Small : List ℕ → Type 0
Small vs = All IsValue vs

-- what is read of values is a value, also past the end
pub small_at : (vs : List ℕ) → Small vs → (k : ℕ) → get_or vs k 0 < 2 ^ 32
small_at [] all k = omega arith
small_at (v ∷ vs) all zero = all.0
small_at (v ∷ vs) all (suc k) = small_at vs all.1 k

args_small : (seen : List ℕ) → Small seen → (args : Args) → Small (arg_values seen args)
args_small seen all Zero = tt
args_small seen all (One a) = (small_at seen all a, tt)
args_small seen all (Two a b) = (small_at seen all a, (small_at seen all b, tt))
args_small seen all (Three a b c) = (small_at seen all a, (small_at seen all b, (small_at seen all c, tt)))

args_few : (seen : List ℕ) (args : Args) → length (arg_values seen args) ≤ 3
args_few seen Zero = omega arith
args_few seen (One a) = omega arith
args_few seen (Two a b) = omega arith
args_few seen (Three a b c) = omega arith

-- the same meaning, with a value everywhere
abbrev pub clipped : Meaning → Meaning
clipped m f vs = min (m f vs) (2 ^ 32 - 1)

pub clipped_small : (m : Meaning) (f : ℕ) (vs : List ℕ) → clipped m f vs < 2 ^ 32
clipped_small m f vs = omega arith

clip_same : (v : ℕ) → v < 2 ^ 32 → min v (2 ^ 32 - 1) ≡ v
clip_same v h = omega arith

pub clipped_same : (m : Meaning) → IsPlant m → SameAnswers (clipped m) m
clipped_same m plant f vs question = clip_same (m f vs) (plant f vs question)

-- readings that terms give are values
pub readings_small : (i : Interpretation) (ts : List Term) → Small (map (eval i) ts)
readings_small i [] = tt
readings_small i (t ∷ ts) = (eval-small i t, readings_small i ts)

pub covered_small : (i : Interpretation) (row : Row) (c : Configuration) → CoversBy i row c → Small c.readings
covered_small i row c covers = subst Small covers.readings (readings_small i row.vector)

-- a step from the values of the sheet's terms
abbrev step_from : System → Configuration → List ℕ → Configuration
step_from s c values =
    record {
      bits = numbered (λ n b. or_kept (λ f. get_or (truths c.bits (answers values s.questions) [] s.formulas) f false) (get_or c.bits n false) b.next) 0 s.bits;
      readings = numbered (λ n r. or_kept (λ k. get_or values (get_or (chosen (λ f. get_or (truths c.bits (answers values s.questions) [] s.formulas) f false) s.choices) k 0) 0) (get_or c.readings n 0) r.next) 0 s.readings;
    }

module _ (s : System) (lawful : Lawful s) where
  few_symbols : length s.symbols ≤ 32
  few_symbols = leb-true (length s.symbols) 32 lawful.few.symbols

  -- a symbol of the sheet at values makes a question
  asked : (f : ℕ) → ltb f (length s.symbols) ≡ true → (vs : List ℕ) → length vs ≤ 3 → Small vs → IsQuestion f vs
  asked f is vs few all = record { known = omega (arith, ltb-true f (length s.symbols) is, few_symbols); few = few; small = all }

  module _ (p m : Meaning) (plant : IsPlant p) (same : SameAnswers p m) where
    module _ (readings inputs : List ℕ) (readings_are : Small readings) (inputs_are : Small inputs) where
      question : (seen : List ℕ) → Small seen → (n : ℕ) (f : ℕ) (args : Args) → names s n (Record.Term (SheetTerm.Apply f args)) ≡ true → IsQuestion f (arg_values seen args)
      question seen all n f args ok = asked f (and_parts (ltb f (length s.symbols)) (args_below n args) ok).0 (arg_values seen args) (args_few seen args) (args_small seen all args)

      value_small : (seen : List ℕ) → Small seen → (n : ℕ) (t : SheetTerm) → names s n (Record.Term t) ≡ true → term_value p readings inputs seen t < 2 ^ 32
      value_small seen all n (SheetTerm.Reading r) ok = small_at readings readings_are r
      value_small seen all n (SheetTerm.Input i) ok = small_at inputs inputs_are i
      value_small seen all n (SheetTerm.Apply f args) ok = plant f (arg_values seen args) (question seen all n f args ok)

      value_same : (seen : List ℕ) → Small seen → (n : ℕ) (t : SheetTerm) → names s n (Record.Term t) ≡ true → term_value p readings inputs seen t ≡ term_value m readings inputs seen t
      value_same seen all n (SheetTerm.Reading r) ok = refl
      value_same seen all n (SheetTerm.Input i) ok = refl
      value_same seen all n (SheetTerm.Apply f args) ok = same f (arg_values seen args) (question seen all n f args ok)

      values_same : (seen : List ℕ) → Small seen → (n : ℕ) (ts : List SheetTerm) → each_at (λ n t. obeys_at s n (Record.Term t)) n ts ≡ true → grow (term_value p readings inputs) seen ts ≡ grow (term_value m readings inputs) seen ts
      values_same seen all n [] ok = refl
      values_same seen all n (t ∷ ts) ok =
          let parts = and_parts (obeys_at s n (Record.Term t)) (each_at (λ n t. obeys_at s n (Record.Term t)) (suc n) ts) ok in
          let named = (and_parts (names s n (Record.Term t)) (keeps s (Record.Term t)) parts.0).0 in
          let v = term_value p readings inputs seen t in
          let more = All-push IsValue seen v all (value_small seen all n t named) in
          let rest = values_same (seen ++ v ∷ []) more (suc n) ts parts.1 in
          rest ∙ ap (λ w. grow (term_value m readings inputs) (seen ++ w ∷ []) ts) (value_same seen all n t named)

      terms_same : term_values p readings inputs s.terms ≡ term_values m readings inputs s.terms
      terms_same = values_same [] tt 0 s.terms lawful.each.terms

    -- the questions have the same answers, and a step goes to the same configuration
    pub step_values_same : (c : Configuration) (inputs : List ℕ) → Small c.readings → Small inputs → step_values p s c inputs ≡ step_values m s c inputs
    step_values_same c inputs small inputs_are = terms_same c.readings inputs small inputs_are

    pub step_same : (c : Configuration) (inputs : List ℕ) → Small c.readings → Small inputs → step p s c inputs ≡ step m s c inputs
    step_same c inputs small inputs_are = ap (step_from s c) (terms_same c.readings inputs small inputs_are)

    pub invariant_same : (c : Configuration) → Small c.readings → invariant_holds p s c ≡ invariant_holds m s c
    invariant_same c small =
        ap (λ (vs : List ℕ). or_kept (λ f. get_or (truths c.bits [] (answers vs s.claims) s.formulas) f false) true s.invariant) (terms_same c.readings [] small tt)

    module _ (starts : List ℕ) where
      start_value_same : (n : ℕ) (w : Start) → names s n (Record.Reading w) ≡ true → start_value p starts w ≡ start_value m starts w
      start_value_same n (Start.Name x) ok = refl
      start_value_same n (Start.Constant f) ok = same f [] (asked f ok [] (omega arith) tt)

      starts_same : (n : ℕ) (rs : List Reading) → each_at (λ n x. obeys_at s n (Record.Reading x.start)) n rs ≡ true → map (start_reading p starts) rs ≡ map (start_reading m starts) rs
      starts_same n [] ok = refl
      starts_same n (r ∷ rs) ok =
          let parts = and_parts (obeys_at s n (Record.Reading r.start)) (each_at (λ n x. obeys_at s n (Record.Reading x.start)) (suc n) rs) ok in
          let named = (and_parts (names s n (Record.Reading r.start)) (keeps s (Record.Reading r.start)) parts.0).0 in
          let rest = starts_same (suc n) rs parts.1 in
          let here = start_value_same n r.start named in
          cc

      -- the start is the same
      pub start_same : start p s starts ≡ start m s starts
      start_same = ap (λ (vs : List ℕ). record { bits = map start_bit s.bits; readings = vs }) (starts_same 0 s.readings lawful.each.readings)

-- an interpretation's meaning is a plant
pub interpreted : (i : Interpretation) → IsPlant i.meaning
interpreted i f vs question = i.meaning_small f vs
