-- What stands behind the marks of a standing, kept by each call that the rules let pass, and by each that they refuse.
use Rattle.std.proofs.Common.{◌≡◌, ℕ, zero, suc, ◌+◌, ◌^◌, ◌<◌, ◌⊎◌, List, [], ◌∷◌, ◌++◌, length, Some, None, Option, sym, refl, ap, ◌∙◌, subst, inl, inr, arith}
use Rattle.std.specs.List.{slice_get}
use Rattle.std.specs.Prelude.{slice_set}
use Rattle.std.proofs.lemmas.List.{length-set, length-append, length-replicate}
use Rattle.std.proofs.lemmas.Option.{none-some, same_Some, slice_get_within}
use Rattle.sheet.specs.Lawful.{Lawful}
use Rattle.sheet.specs.System.{System}
use Rattle.terms.specs.Terms.{Term, Sat}
use Rattle.forms.specs.Rows.{Row, RowOf, first_row}
use Rattle.forms.specs.Candidate.{candidate}
use Rattle.forms.specs.Counted.{Built, made, nameless, crowded, CandidateIn}
use Rattle.forms.specs.Form.{Form}
use Rattle.forms.specs.Safety.{Safe}
use Rattle.forms.specs.Laws.{NotEntered, CoversStep}
use Rattle.forms.proofs.Counting.{counted_form}
use Rattle.forms.proofs.Cutting.{form_covers}
use Rattle.forms.proofs.Passing.{candidate_covers, impossible_branch}
use Rattle.forms.proofs.Renaming.{fitting_covers}
use Rattle.forms.proofs.Shaping.{first_row_covers, candidate_shaped, one_form}
use Rattle.rules.specs.declared.Branch.{Branch}
use Rattle.rules.specs.declared.Call.{Call}
use Rattle.rules.specs.declared.Call.TheVariants.{Take, GiveBack, Strike, Merge, Keep, Verdict}
use Rattle.rules.specs.declared.Mark.{Mark}
use Rattle.rules.specs.declared.Mark.TheVariants.{Waiting, Out, Struck, Merged, Kept}
use Rattle.rules.specs.Standing.{Standing, branches, all_waiting, opening, marks_with, marked}
use Rattle.rules.specs.Rules.{IsOut, Builds, Continues, Strikes, Merges, Keeps}
use Rattle.rules.specs.Calls.{Turn, Turns}
use Rattle.rules.proofs.Marking.{get_of_set, get_of_push, get_still, get_pushed, get_of_replicate, or_none_some}

-- a row stands among rows
abbrev pub Among : List Row → Row → Type 0
Among rows row = (n : ℕ) × (slice_get rows n ≡ Some row)

-- the branch's candidate was made; no covered configuration goes through the branch, or all that do go where a row covers them
pub record Resolved (s : System) (rows : List Row) (row : Row) (b : ℕ) : Type 0 where
  pub next : Row
  pub made : candidate s row b ≡ Some next
  pub goes : NotEntered s row b ⊎ ((target : Row) × Among rows target × CoversStep s row b target)

abbrev pub Settled : System → List Row → Row → ℕ → Mark → Type 0
Settled s rows row b Waiting = Unit {0}
Settled s rows row b Out = Unit {0}
Settled s rows row b Struck = Resolved s rows row b
Settled s rows row b Merged = Resolved s rows row b
Settled s rows row b Kept = Resolved s rows row b

-- the rows are safe, and the marks are settled over these rows
pub record SoundIn (s : System) (rows : List Row) (at : Standing) : Type 0 where
  pub first : slice_get at.rows 0 ≡ Some (first_row s)
  pub shaped : (r : ℕ) (row : Row) → slice_get at.rows r ≡ Some row → RowOf s row
  pub safe : (r : ℕ) (row : Row) → slice_get at.rows r ≡ Some row → Safe s row
  pub long : length at.marks ≡ length at.rows
  pub wide : (r : ℕ) (ms : List Mark) → slice_get at.marks r ≡ Some ms → length ms ≡ branches s
  pub settled : (r : ℕ) (row : Row) → slice_get at.rows r ≡ Some row → (ms : List Mark) → slice_get at.marks r ≡ Some ms → (b : ℕ) (k : Mark) → slice_get ms b ≡ Some k → Settled s rows row b k

abbrev pub Sound : System → Standing → Type 0
Sound s at = SoundIn s at.rows at

resolved_more : (s : System) (rows more : List Row) (row : Row) (b : ℕ) → Resolved s rows row b → Resolved s (rows ++ more) row b
resolved_more s rows more row b it = record { next = it.next; made = it.made; goes = by it.goes }
  where
    by : NotEntered s row b ⊎ ((target : Row) × Among rows target × CoversStep s row b target) → NotEntered s row b ⊎ ((target : Row) × Among (rows ++ more) target × CoversStep s row b target)
    by (inl never) = inl never
    by (inr g) = inr (g.0, (g.1.0, get_still rows more g.1.0 g.0 g.1.1), g.2)

settled_more : (s : System) (rows more : List Row) (row : Row) (b : ℕ) (k : Mark) → Settled s rows row b k → Settled s (rows ++ more) row b k
settled_more s rows more row b Waiting it = tt
settled_more s rows more row b Out it = tt
settled_more s rows more row b Struck it = resolved_more s rows more row b it
settled_more s rows more row b Merged it = resolved_more s rows more row b it
settled_more s rows more row b Kept it = resolved_more s rows more row b it

sound_more : (s : System) (at : Standing) (more : List Row) → Sound s at → SoundIn s (at.rows ++ more) at
sound_more s at more sound =
    record {
      first = sound.first;
      shaped = sound.shaped;
      safe = sound.safe;
      long = sound.long;
      wide = sound.wide;
      settled = λ r row is ms is' b k is''. settled_more s at.rows more row b k (sound.settled r row is ms is' b k is'');
    }

-- a row's marks after one branch's changed: as before, or the branch is the row's
abbrev Changed : List (List Mark) → Branch → Mark → ℕ → List Mark → Type 0
Changed marks b k r ms = (old : List Mark) × (r ≡ b.row) × (slice_get marks r ≡ Some old) × (ms ≡ slice_set old b.number k)

marks_changed : (marks : List (List Mark)) (b : Branch) (k : Mark) (o : Option (List Mark)) → slice_get marks b.row ≡ o → (r : ℕ) (ms : List Mark) → slice_get (marks_with marks b k o) r ≡ Some ms → (slice_get marks r ≡ Some ms) ⊎ Changed marks b k r ms
marks_changed marks b k None is r ms e = inl e
marks_changed marks b k (Some old) is r ms e = by (get_of_set marks b.row (slice_set old b.number k) r ms e)
  where
    by : ((r ≡ b.row) × (ms ≡ slice_set old b.number k)) ⊎ (slice_get marks r ≡ Some ms) → (slice_get marks r ≡ Some ms) ⊎ Changed marks b k r ms
    by (inl w) = inr (old, w.0, ap (slice_get marks) w.0 ∙ is, w.1)
    by (inr w) = inl w

marks_long : (marks : List (List Mark)) (b : Branch) (k : Mark) (o : Option (List Mark)) → length (marks_with marks b k o) ≡ length marks
marks_long marks b k None = refl
marks_long marks b k (Some old) = length-set marks b.row (slice_set old b.number k)

sound_marked : (s : System) (rows : List Row) (at : Standing) (b : Branch) (k : Mark) → SoundIn s rows at → ((row : Row) → slice_get at.rows b.row ≡ Some row → Settled s rows row b.number k) → SoundIn s rows (marked at b k)
sound_marked s rows at b k sound new =
    record {
      first = sound.first;
      shaped = sound.shaped;
      safe = sound.safe;
      long = marks_long at.marks b k (slice_get at.marks b.row) ∙ sound.long;
      wide = λ r ms is. wide r ms (marks_changed at.marks b k (slice_get at.marks b.row) refl r ms is);
      settled = λ r row is ms is' n j is''. settled r row is ms n j is'' (marks_changed at.marks b k (slice_get at.marks b.row) refl r ms is');
    }
  where
    wide : (r : ℕ) (ms : List Mark) → (slice_get at.marks r ≡ Some ms) ⊎ Changed at.marks b k r ms → length ms ≡ branches s
    wide r ms (inl is) = sound.wide r ms is
    wide r ms (inr w) = ap (λ (xs : List Mark). length xs) w.3 ∙ (length-set w.0 b.number k ∙ sound.wide r w.0 w.2)

    here : (r : ℕ) (row : Row) → slice_get at.rows r ≡ Some row → (old : List Mark) → r ≡ b.row → slice_get at.marks r ≡ Some old → (n : ℕ) (j : Mark) → ((n ≡ b.number) × (j ≡ k)) ⊎ (slice_get old n ≡ Some j) → Settled s rows row n j
    here r row is old e is' n j (inl w) =
        let it = new row (ap (slice_get at.rows) (sym e) ∙ is) in
        subst (λ x. Settled s rows row x j) (sym w.0) (subst (λ x. Settled s rows row b.number x) (sym w.1) it)
    here r row is old e is' n j (inr w) = sound.settled r row is old is' n j w

    settled : (r : ℕ) (row : Row) → slice_get at.rows r ≡ Some row → (ms : List Mark) (n : ℕ) (j : Mark) → slice_get ms n ≡ Some j → (slice_get at.marks r ≡ Some ms) ⊎ Changed at.marks b k r ms → Settled s rows row n j
    settled r row is ms n j is'' (inl is') = sound.settled r row is ms is' n j is''
    settled r row is ms n j is'' (inr w) = here r row is w.0 w.1 w.2 n j (get_of_set w.0 b.number k n j (ap (λ (xs : List Mark). slice_get xs n) (sym w.3) ∙ is''))

-- a safe row more, with each branch waiting
abbrev pushed : System → Standing → Row → List Term → Standing
pushed s at form seen = record { rows = at.rows ++ form ∷ []; marks = at.marks ++ all_waiting s ∷ []; terms = seen }

settled_waiting : (s : System) (rows : List Row) (row : Row) (b : ℕ) (k : Mark) → slice_get (all_waiting s) b ≡ Some k → Settled s rows row b k
settled_waiting s rows row b k is = subst (Settled s rows row b) (sym (get_of_replicate (branches s) Waiting b k is)) tt

sound_pushed : (s : System) (rows : List Row) (at : Standing) (form : Row) (seen : List Term) → SoundIn s rows at → RowOf s form → Safe s form → SoundIn s rows (pushed s at form seen)
sound_pushed s rows at form seen sound shaped safe =
    record {
      first = get_still at.rows (form ∷ []) 0 (first_row s) sound.first;
      shaped = λ r row is. each (RowOf s) sound.shaped shaped r row (get_of_push at.rows form r row is);
      safe = λ r row is. each (Safe s) sound.safe safe r row (get_of_push at.rows form r row is);
      long = length-append at.marks (all_waiting s ∷ []) ∙ (ap (λ n. n + 1) sound.long ∙ sym (length-append at.rows (form ∷ [])));
      wide = λ r ms is. wide r ms (get_of_push at.marks (all_waiting s) r ms is);
      settled = λ r row is ms is' b k is''. settled r row (get_of_push at.rows form r row is) ms (get_of_push at.marks (all_waiting s) r ms is') b k is'';
    }
  where
    each : (P : Row → Type 0) → ((r : ℕ) (row : Row) → slice_get at.rows r ≡ Some row → P row) → P form → (r : ℕ) (row : Row) → ((r ≡ length at.rows) × (row ≡ form)) ⊎ (slice_get at.rows r ≡ Some row) → P row
    each P old new r row (inl w) = subst P (sym w.1) new
    each P old new r row (inr is) = old r row is

    wide : (r : ℕ) (ms : List Mark) → ((r ≡ length at.marks) × (ms ≡ all_waiting s)) ⊎ (slice_get at.marks r ≡ Some ms) → length ms ≡ branches s
    wide r ms (inl w) = ap (λ (xs : List Mark). length xs) w.1 ∙ length-replicate (branches s) Waiting
    wide r ms (inr is) = sound.wide r ms is

    settled : (r : ℕ) (row : Row) → ((r ≡ length at.rows) × (row ≡ form)) ⊎ (slice_get at.rows r ≡ Some row) → (ms : List Mark) → ((r ≡ length at.marks) × (ms ≡ all_waiting s)) ⊎ (slice_get at.marks r ≡ Some ms) → (b : ℕ) (k : Mark) → slice_get ms b ≡ Some k → Settled s rows row b k
    settled r row at_r ms (inl w) b k is'' = settled_waiting s rows row b k (ap (λ (xs : List Mark). slice_get xs b) (sym w.1) ∙ is'')
    settled r row (inl v) ms (inr is') b k is'' = let z : r < length at.marks = slice_get_within at.marks r ms is' in absurd (omega (arith, z, v.0, sound.long))
    settled r row (inr is) ms (inr is') b k is'' = sound.settled r row is ms is' b k is''

pub opening_sound : (s : System) → Safe s (first_row s) → Sound s (opening s)
opening_sound s safe =
    record {
      first = refl;
      shaped = λ r row is. each (RowOf s) (first_row_covers s).shaped r row is;
      safe = λ r row is. each (Safe s) safe r row is;
      long = refl;
      wide = λ r ms is. wide r ms is;
      settled = λ r row is ms is' b k is''. settled r row ms is' b k is'';
    }
  where
    each : (P : Row → Type 0) → P (first_row s) → (r : ℕ) (row : Row) → slice_get (first_row s ∷ []) r ≡ Some row → P row
    each P it zero row is = subst P (same_Some (first_row s) row is) it
    each P it (suc r) row is = absurd (none-some row is)

    wide : (r : ℕ) (ms : List Mark) → slice_get (all_waiting s ∷ []) r ≡ Some ms → length ms ≡ branches s
    wide zero ms is = ap (λ (xs : List Mark). length xs) (sym (same_Some (all_waiting s) ms is)) ∙ length-replicate (branches s) Waiting
    wide (suc r) ms is = absurd (none-some ms is)

    settled : (r : ℕ) (row : Row) (ms : List Mark) → slice_get (all_waiting s ∷ []) r ≡ Some ms → (b : ℕ) (k : Mark) → slice_get ms b ≡ Some k → Settled s (first_row s ∷ []) row b k
    settled zero row ms is b k is'' = settled_waiting s (first_row s ∷ []) row b k (ap (λ (xs : List Mark). slice_get xs b) (same_Some (all_waiting s) ms is) ∙ is'')
    settled (suc r) row ms is b k is'' = absurd (none-some ms is)

-- a branch that is out is within
out_within : (s : System) (rows : List Row) (at : Standing) → SoundIn s rows at → (b : Branch) → IsOut at b → b.number < 2 ^ length s.questions
out_within s rows at sound b is =
    let w = or_none_some (slice_get at.marks b.row) (λ ms. slice_get ms b.number) Out is in
    let z : b.number < length w.0 = slice_get_within w.0 b.number Out w.2 in
    let e : length w.0 ≡ branches s = sound.wide b.row w.0 w.1 in
    subst (λ n. b.number < n) e z

-- the form that is built of a branch has a term for each reading, and covers all that goes through the branch
record BuiltOf (s : System) (row : Row) (b : ℕ) (form : Row) : Type 0 where
  next : Row
  made : candidate s row b ≡ Some next
  shaped : RowOf s form
  covers : CoversStep s row b form

built_of : (s : System) → Lawful s → (row : Row) → RowOf s row → (b : ℕ) → b < 2 ^ length s.questions → (seen : List Term) (h : ℕ) (form : Row) (seen' : List Term) (begun : Built) → CandidateIn s row b seen begun → Continues h begun (made form seen') → BuiltOf s row b form
built_of s lawful row shaped b small seen h form seen' (made next seen'') begun to_form =
    let is : Form h next (Some form) = (counted_form h seen'' next).made form seen' to_form in
    let step = candidate_covers s lawful row shaped b small next begun.0 in
    record {
      next = next;
      made = begun.0;
      shaped = (one_form h next).shaped form is ∙ candidate_shaped s row b next begun.0;
      covers = λ m c covers inputs ok enters. form_covers h next form is m _ (step m c covers inputs ok enters);
    }
built_of s lawful row shaped b small seen h form seen' nameless begun e = let z : ◌≡◌ {A = ℕ} 0 1 = cc in absurd (omega arith)
built_of s lawful row shaped b small seen h form seen' crowded begun e = let z : ◌≡◌ {A = ℕ} 0 1 = cc in absurd (omega arith)

module _ (s : System) (lawful : Lawful s) (limit : ℕ) (at : Standing) (sound : Sound s at) where
  -- the same of a standing's branch that is out
  built_here : (b : Branch) → IsOut at b → (h : ℕ) (form : Row) (seen : List Term) → Builds s at b h (made form seen) → (row : Row) × (slice_get at.rows b.row ≡ Some row) × BuiltOf s row b.number form
  built_here b out h form seen built =
      let row = built.0 in
      (row, built.1, built_of s lawful row (sound.shaped b.row row built.1) b.number (out_within s at.rows at sound b out) at.terms h form seen built.2.0 built.2.1 built.2.2)

  -- what is said of the branch's row is said of any row there
  of_row : (rows : List Row) (b : Branch) (row : Row) → slice_get at.rows b.row ≡ Some row → Resolved s rows row b.number → (row' : Row) → slice_get at.rows b.row ≡ Some row' → Resolved s rows row' b.number
  of_row rows b row is it row' is' = subst (λ (x : Row). Resolved s rows x b.number) (same_Some row row' (sym is ∙ is')) it

  struck : (b : Branch) → IsOut at b → Strikes s at b → (row : Row) → slice_get at.rows b.row ≡ Some row → Resolved s at.rows row b.number
  struck b out ground =
      let row = ground.0 in
      let conditions = ground.2.1 in
      let next = conditions.0 in
      let never : Sat next.conditions → ⊥ = λ sat. ground.2.2 (subst Sat (sym conditions.2) sat) in
      of_row at.rows b row ground.1 (record { next = next; made = conditions.1; goes = inl (impossible_branch s lawful row (sound.shaped b.row row ground.1) b.number (out_within s at.rows at sound b out) next conditions.1 never) })

  merged : (b : Branch) (target h : ℕ) → IsOut at b → Merges s at b target h → (row : Row) → slice_get at.rows b.row ≡ Some row → Resolved s at.rows row b.number
  merged b target h out ground =
      let it = built_here b out h ground.form ground.seen ground.built in
      of_row at.rows b it.0 it.1
      (record {
        next = it.2.next;
        made = it.2.made;
        goes = inr (ground.older, (target, ground.is_row), λ m c covers inputs ok enters. fitting_covers ground.takes.0 ground.older ground.form ground.takes.1 m _ (it.2.covers m c covers inputs ok enters));
      })

  kept : (b : Branch) (h : ℕ) (form : Row) (seen : List Term) → IsOut at b → Keeps s at limit b h form seen → Sound s (pushed s (marked at b Kept) form seen)
  kept b h form seen out ground =
      let it = built_here b out h form seen ground.built in
      let rows = at.rows ++ form ∷ [] in
      let new : Resolved s rows it.0 b.number = record { next = it.2.next; made = it.2.made; goes = inr (form, (length at.rows, get_pushed at.rows form), it.2.covers) } in
      sound_pushed s rows (marked at b Kept) form seen
      (sound_marked s rows at b Kept (sound_more s at (form ∷ []) sound) (of_row rows b it.0 it.1 new))
      it.2.shaped
      ground.safe

  turn_sound : (c : Call) (after : Standing) → Turn s limit at c after → Sound s after
  turn_sound (Take b) after (inl w) = subst (Sound s) (sym w.1) (sound_marked s at.rows at b Out sound (λ row is. tt))
  turn_sound (GiveBack b) after (inl w) = subst (Sound s) (sym w.1) (sound_marked s at.rows at b Waiting sound (λ row is. tt))
  turn_sound (Strike b) after (inl w) = subst (Sound s) (sym w.1) (sound_marked s at.rows at b Struck sound (struck b w.0.0 w.0.1))
  turn_sound (Merge b target h) after (inl w) = subst (Sound s) (sym w.1) (sound_marked s at.rows at b Merged sound (merged b target h w.0.0 w.0.1))
  turn_sound (Keep b h) after (inl w) = subst (Sound s) (sym w.1.3) (kept b h w.1.0 w.1.1 w.0.0 w.1.2)
  turn_sound Verdict after (inl w) = subst (Sound s) (sym w.1) sound
  turn_sound c after (inr w) = subst (Sound s) (sym w.1) sound

pub turns_sound : (s : System) → Lawful s → (limit : ℕ) (calls : List Call) (at after : Standing) → Sound s at → Turns s limit at calls after → Sound s after
turns_sound s lawful limit [] at after sound e = subst (Sound s) (sym e) sound
turns_sound s lawful limit (c ∷ cs) at after sound w = turns_sound s lawful limit cs w.0 after (turn_sound s lawful limit at sound c w.0 w.1) w.2
