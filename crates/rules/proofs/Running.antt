-- Where no branch waits or is out, some row covers every configuration that a run comes to.
use Rattle.std.proofs.Common.{◌≡◌, ℕ, zero, suc, ◌+◌, ◌*◌, ◌^◌, ◌<◌, ◌≤◌, ◌-◌, cond, ◌⊎◌, List, length, drop, Some, sym, subst, inl, inr, arith, pow_pos}
use Rattle.std.specs.List.{slice_get, AllByRecursion as All}
use Rattle.std.proofs.ByRecursion.{All-take, All-drop}
use Rattle.std.proofs.lemmas.List.{length-take-le, length-drop}
use Rattle.std.proofs.lemmas.Option.{slice_get_within}
use Rattle.plant.specs.Plant.{IsPlant}
use Rattle.sheet.specs.Lawful.{Lawful}
use Rattle.sheet.specs.Runs.{Configuration, after, step, inputs_of}
use Rattle.sheet.specs.System.{System}
use Rattle.sheet.specs.Truth.{Meaning}
use Rattle.forms.specs.Rows.{Row, Covers, first_row}
use Rattle.forms.specs.Candidate.{branch_answers, candidate_with, input_names}
use Rattle.forms.specs.Laws.{Enters, InputsOf, NotEntered, CoversStep}
use Rattle.forms.proofs.Passing.{branch_covers, entered}
use Rattle.forms.proofs.Shaping.{first_row_covers}
use Rattle.rules.specs.declared.Mark.{Mark}
use Rattle.rules.specs.declared.Mark.TheVariants.{Waiting, Out, Struck, Merged, Kept}
use Rattle.rules.specs.Standing.{Standing, is_waiting, is_out, waiting, out, opening}
use Rattle.rules.specs.Safety.{Covered}
use Rattle.rules.proofs.Marking.{get_within, or_none_some, none_counted}
use Rattle.rules.proofs.Resolving.{Among, Resolved, Settled, Sound, opening_sound, turns_sound}

-- a mark that is neither waiting nor out is settled
resolved : (s : System) (rows : List Row) (row : Row) (b : ℕ) (k : Mark) → ◌≡◌ {A = ℕ} (cond (is_waiting k) 1 0) 0 → ◌≡◌ {A = ℕ} (cond (is_out k) 1 0) 0 → Settled s rows row b k → Resolved s rows row b
resolved s rows row b Waiting e e' it = absurd (omega (arith, e))
resolved s rows row b Out e e' it = absurd (omega (arith, e'))
resolved s rows row b Struck e e' it = it
resolved s rows row b Merged e e' it = it
resolved s rows row b Kept e e' it = it

-- the inputs of a step that are there are one step's
inputs_ok : (s : System) (inputs : List ℕ) (n : ℕ) → suc n * s.inputs ≤ length inputs → All (λ v. v < 2 ^ 32) inputs → InputsOf s (inputs_of s inputs n)
inputs_ok s inputs n enough small =
    let d : length (drop (n * s.inputs) inputs) ≡ length inputs - n * s.inputs = length-drop (n * s.inputs) inputs in
    let e : suc n * s.inputs ≡ n * s.inputs + s.inputs = grind arith in
    let le : s.inputs ≤ length (drop (n * s.inputs) inputs) = omega (arith, d, e, enough) in
    record {
      long = length-take-le s.inputs (drop (n * s.inputs) inputs) le;
      small = All-take (λ v. v < 2 ^ 32) s.inputs (drop (n * s.inputs) inputs) (All-drop (λ v. v < 2 ^ 32) (n * s.inputs) inputs small);
    }

module _ (s : System) (lawful : Lawful s) (at : Standing) (sound : Sound s at) (none : waiting at + out at ≡ 0) where
  -- each branch of each row is settled
  each_resolved : (r : ℕ) (row : Row) → slice_get at.rows r ≡ Some row → (b : ℕ) → b < 2 ^ length s.questions → Resolved s at.rows row b
  each_resolved r row is b small =
      let in_rows : r < length at.rows = slice_get_within at.rows r row is in
      let in_marks : r < length at.marks = omega (arith, in_rows, sound.long) in
      let ms = get_within at.marks r in_marks in
      let wide : length ms.0 ≡ 2 ^ length s.questions = sound.wide r ms.0 ms.1 in
      let in_row : b < length ms.0 = subst (λ n. b < n) (sym wide) small in
      let k = get_within ms.0 b in_row in
      let no_waiting : waiting at ≡ 0 = omega (arith, none) in
      let no_out : out at ≡ 0 = omega (arith, none) in
      resolved s at.rows row b k.0
      (none_counted is_waiting at.marks no_waiting r ms.0 ms.1 b k.0 k.1)
      (none_counted is_out at.marks no_out r ms.0 ms.1 b k.0 k.1)
      (sound.settled r row is ms.0 ms.1 b k.0 k.1)

  abbrev Reached : Meaning → Configuration → Type 0
  Reached m c = (row : Row) × (n : ℕ) × (slice_get at.rows n ≡ Some row) × Covers m row c

  -- a covered configuration steps to a covered one
  next_reached : (m : Meaning) (c : Configuration) (inputs : List ℕ) → InputsOf s inputs → Reached m c → Reached m (step m s c inputs)
  next_reached m c inputs ok here =
      let row = here.0 in
      let first = each_resolved here.1 row here.2 0 (pow_pos (length s.questions)) in
      let names = or_none_some (input_names s row) (λ xs. Some (candidate_with s row xs (branch_answers (length s.questions) 0))) first.next first.made in
      let steps = branch_covers s lawful row (sound.shaped here.1 row here.2) names.0 names.1 here.3.by c here.3.covers inputs ok in
      let enters = entered s lawful row m c here.3 inputs ok steps.branch steps.enters in
      by steps.branch enters (each_resolved here.1 row here.2 steps.branch steps.within).goes
    where
      by : (b : ℕ) → Enters m s c inputs b → NotEntered s here.0 b ⊎ ((target : Row) × Among at.rows target × CoversStep s here.0 b target) → Reached m (step m s c inputs)
      by b enters (inl never) = absurd (never m c here.3 inputs ok enters)
      by b enters (inr g) = (g.0, g.1.0, g.1.1, g.2 m c here.3 inputs ok enters)

  pub all_reached : (m : Meaning) → IsPlant m → (starts inputs : List ℕ) → All (λ v. v < 2 ^ 32) starts → All (λ v. v < 2 ^ 32) inputs → (n : ℕ) → n * s.inputs ≤ length inputs → Reached m (after m s starts inputs n)
  all_reached m plant starts inputs starts_small inputs_small zero enough = (first_row s, 0, sound.first, (first_row_covers s).covers lawful m plant starts starts_small)
  all_reached m plant starts inputs starts_small inputs_small (suc n) enough =
      let e : suc n * s.inputs ≡ n * s.inputs + s.inputs = grind arith in
      next_reached m (after m s starts inputs n) (inputs_of s inputs n) (inputs_ok s inputs n enough inputs_small)
      (all_reached m plant starts inputs starts_small inputs_small n (omega (arith, e, enough)))

pub covered : Covered
covered s lawful safe limit calls at comes none m plant starts inputs n run =
    let sound = turns_sound s lawful limit calls (opening s) at (opening_sound s safe) comes in
    let enough : n * s.inputs ≤ length inputs = omega (arith, run.inputs_long) in
    let it = all_reached s lawful at sound none m plant starts inputs run.starts_small run.inputs_small n enough in
    record { number = it.1; row = it.0; is_row = it.2; covers = it.3; invariant = sound.safe it.1 it.0 it.2 m (after m s starts inputs n) it.3 }
