-- Working a newly opened table through leaves no branch waiting or out behind it, so it never ends open.
use Rattle.std.proofs.Common.{◌≡◌, ◌≢◌, ℕ, zero, suc, ◌+◌, ◌<◌, ◌≤◌, ◌⊎◌, Bool, true, false, cond, List, [], ◌∷◌, ◌++◌, map, length, sum, Some, None, Option, sym, refl, ap, ◌∙◌, subst, inl, inr, arith, nat_lt}
use Rattle.std.specs.List.{slice_get, count_by, sum_by, AllByRecursion as All}
use Rattle.std.specs.Prelude.{slice_set, if◌then◌else◌}
use Rattle.std.proofs.lemmas.Bool.{cases_lt, ltb-false}
use Rattle.std.proofs.lemmas.List.{length-append, length-replicate}
use Rattle.std.proofs.lemmas.List.Sums.{sum-map, sum_by-cons}
use Rattle.std.proofs.lemmas.Option.{none-some, same_Some, slice_get_within}
use Rattle.fault.specs.declared.TableFault.{TableFault}
use Rattle.fault.specs.declared.TableFault.TheVariants.{BadMemory, UnsafeStart, NoSuchBranch, NotWaiting, NotOut, HeightAboveBound, NamesExhausted, TermsExhausted, Satisfiable, NoRenaming, UnsafeForm, RowLimit}
use Rattle.sheet.specs.System.{System}
use Rattle.forms.specs.Candidate.{or_none}
use Rattle.rules.specs.declared.Answer.{Answer}
use Rattle.rules.specs.declared.Answer.TheVariants.{Taken, Done, Joined, Holds, Open, Refused}
use Rattle.rules.specs.declared.Branch.{Branch}
use Rattle.rules.specs.declared.Call.{Call}
use Rattle.rules.specs.declared.Call.TheVariants.{Take, GiveBack, Strike, Merge, Keep, Verdict}
use Rattle.rules.specs.declared.Mark.{Mark}
use Rattle.rules.specs.declared.Mark.TheVariants.{Waiting, Out, Struck, Merged, Kept}
use Rattle.rules.specs.declared.Outcome.{Outcome}
use Rattle.rules.specs.Promises.{Answered, Suits, is_accepted}
use Rattle.rules.specs.Standing.{Standing, branches, mark_of, marks_with, marked, all_waiting, opening, waiting, out, is_waiting, is_out}
use Rattle.rules.specs.Working.{first_branch, following, merges_from, offers, Offered, EndsAs, verdict_of, WorksFrom, WorkSettles}
use Rattle.rules.specs.Working.Offered.{accepted, refused, last}
use Rattle.rules.specs.Working.WorksFrom.{finished, passed, settled, stopped}
use Rattle.rules.proofs.Accounts.{WasAccepted, WasRefused, ways}
use Rattle.rules.proofs.Bearing.{Paired, marks_long}
use Rattle.rules.proofs.Marking.{or_none_some, get_of_push, get_of_replicate}
use Rattle.rules.proofs.Worked.{paired_answered, paired_offered}

to_absurd : {X : Type 0} → ⊥ → X
to_absurd h = absurd h

zero_suc : {X : Type 0} {n : ℕ} → 0 ≡ suc n → X
zero_suc {X} {n} e = absurd (omega (arith, e))

-- an element of a changed list is the new one, at its place, or was there before, at another
get_parts : {X : Type 0} (xs : List X) (i : ℕ) (x : X) (j : ℕ) (y : X) → slice_get (slice_set xs i x) j ≡ Some y → ((j ≡ i) × (y ≡ x)) ⊎ ((j ≢ i) × (slice_get xs j ≡ Some y))
get_parts {X} [] i x j y e = absurd (none-some y e)
get_parts (z ∷ xs) zero x zero y e = inl (refl, sym (same_Some x y e))
get_parts (z ∷ xs) zero x (suc j) y e = inr ((λ is. zero_suc (sym is)), e)
get_parts (z ∷ xs) (suc i) x zero y e = inr ((λ is. zero_suc is), e)
get_parts {X} (z ∷ xs) (suc i) x (suc j) y e = by (get_parts xs i x j y e)
  where
    by : ((j ≡ i) × (y ≡ x)) ⊎ ((j ≢ i) × (slice_get xs j ≡ Some y)) → ((suc j ≡ suc i) × (y ≡ x)) ⊎ ((suc j ≢ suc i) × (slice_get xs j ≡ Some y))
    by (inl w) = inl (ap suc w.0, w.1)
    by (inr w) = inr ((λ is. w.0 (omega (arith, is))), w.1)

abbrev Same : Branch → Branch → Type 0
Same x b = (x.row ≡ b.row) × (x.number ≡ b.number)

abbrev mark_in : List (List Mark) → Branch → Option Mark
mark_in marks x = or_none (slice_get marks x.row) (λ ms. slice_get ms x.number)

-- after one branch's mark is changed, a branch is that one or has the mark that it had
abbrev Parts : List (List Mark) → Branch → Mark → Branch → Mark → Type 0
Parts marks b m x k = (Same x b × (k ≡ m)) ⊎ ((Same x b → ⊥) × (mark_in marks x ≡ Some k))

mark_parts : (marks : List (List Mark)) (b : Branch) (m : Mark) (o : Option (List Mark)) → slice_get marks b.row ≡ o → (x : Branch) (k : Mark) → mark_in (marks_with marks b m o) x ≡ Some k → Parts marks b m x k
mark_parts marks b m None is x k e = inr ((λ same'. gone same' (or_none_some (slice_get marks x.row) (λ ms. slice_get ms x.number) k e)), e)
  where
    gone : Same x b → (ms : List Mark) × (slice_get marks x.row ≡ Some ms) × (slice_get ms x.number ≡ Some k) → ⊥
    gone same' w = none-some w.0 (sym is ∙ (ap (slice_get marks) (sym same'.0) ∙ w.1))
mark_parts marks b m (Some ms) is x k e = by (or_none_some (slice_get (slice_set marks b.row (slice_set ms b.number m)) x.row) (λ ms. slice_get ms x.number) k e)
  where
    by : (xs : List Mark) × (slice_get (slice_set marks b.row (slice_set ms b.number m)) x.row ≡ Some xs) × (slice_get xs x.number ≡ Some k) → Parts marks b m x k
    by (xs, at_row, at_number) = rows (get_parts marks b.row (slice_set ms b.number m) x.row xs at_row)
      where
        numbers : x.row ≡ b.row → ((x.number ≡ b.number) × (k ≡ m)) ⊎ ((x.number ≢ b.number) × (slice_get ms x.number ≡ Some k)) → Parts marks b m x k
        numbers row (inl w) = inl ((row, w.0), w.1)
        numbers row (inr w) = inr ((λ same'. w.0 same'.1), ap (λ (o : Option (List Mark)). or_none o (λ ms. slice_get ms x.number)) (ap (slice_get marks) row ∙ is) ∙ w.1)

        rows : ((x.row ≡ b.row) × (xs ≡ slice_set ms b.number m)) ⊎ ((x.row ≢ b.row) × (slice_get marks x.row ≡ Some xs)) → Parts marks b m x k
        rows (inl w) = numbers w.0 (get_parts ms b.number m x.number k (ap (λ (l : List Mark). slice_get l x.number) (sym w.1) ∙ at_number))
        rows (inr w) = inr ((λ same'. w.0 same'.0), ap (λ (o : Option (List Mark)). or_none o (λ ms. slice_get ms x.number)) w.1 ∙ at_number)

marked_parts : (at : Standing) (b : Branch) (m : Mark) (x : Branch) (k : Mark) → mark_of (marked at b m) x ≡ Some k → Parts at.marks b m x k
marked_parts at b m x k e = mark_parts at.marks b m (slice_get at.marks b.row) refl x k e

-- a mark of a settled branch
abbrev IsSettled : Mark → Type 0
IsSettled m = (m ≢ Waiting) × (m ≢ Out)

differ : {A : Type 0} {a b : A} (p : A → ℕ) → (p a ≡ p b → ⊥) → a ≢ b
differ p apart' e = apart' (ap p e)

mark_number : Mark → ℕ
mark_number Waiting = 0
mark_number Out = 1
mark_number Struck = 2
mark_number Merged = 3
mark_number Kept = 4

struck_settled : IsSettled Struck
unfolding mark_number
struck_settled = (differ mark_number (λ e. to_absurd (omega (arith, e))), differ mark_number (λ e. to_absurd (omega (arith, e))))

merged_settled : IsSettled Merged
unfolding mark_number
merged_settled = (differ mark_number (λ e. to_absurd (omega (arith, e))), differ mark_number (λ e. to_absurd (omega (arith, e))))

kept_settled : IsSettled Kept
unfolding mark_number
kept_settled = (differ mark_number (λ e. to_absurd (omega (arith, e))), differ mark_number (λ e. to_absurd (omega (arith, e))))

waiting_out : Waiting ≢ Out
unfolding mark_number
waiting_out = differ mark_number (λ e. to_absurd (omega (arith, e)))

-- an offer that is accepted gives the branch such a mark; a keep adds a row whose branches wait
record Closes (s : System) (at : Standing) (b : Branch) (after : Standing) : Type 0 where
  mark : Mark
  is_settled : IsSettled mark
  ways : ((after.marks ≡ (marked at b mark).marks) × (length after.rows ≡ length at.rows)) ⊎ ((after.marks ≡ (marked at b mark).marks ++ all_waiting s ∷ []) × (length after.rows ≡ suc (length at.rows)))

abbrev IsOfferOn : Branch → Call → Type 0
IsOfferOn b (Strike x) = x ≡ b
IsOfferOn b (Merge x target h) = x ≡ b
IsOfferOn b (Keep x h) = x ≡ b
IsOfferOn b (Take x) = ⊥
IsOfferOn b (GiveBack x) = ⊥
IsOfferOn b Verdict = ⊥

merges_on : (b : Branch) (h target n : ℕ) (later : List Call) → All (IsOfferOn b) later → All (IsOfferOn b) (merges_from b h target n ++ later)
merges_on b h target zero later ok = ok
merges_on b h target (suc n) later ok = (refl, merges_on b h (suc target) n later ok)

offers_on : (s : System) (b : Branch) (n : ℕ) → All (IsOfferOn b) (offers s b n)
offers_on s b n = (refl, merges_on b _ 0 n (Keep b _ ∷ []) (refl, tt))

closes_by : (s : System) (limit : ℕ) (at : Standing) (b : Branch) (offer : Call) (answer : Answer) (after : Standing) → IsOfferOn b offer → WasAccepted s limit at offer answer after → Closes s at b after
closes_by s limit at b (Strike x) answer after on h =
    record { mark = Struck; is_settled = struck_settled; ways = inl (ap (λ (z : Standing). z.marks) h.3 ∙ ap (λ (y : Branch). (marked at y Struck).marks) on, ap (λ (z : Standing). length z.rows) h.3) }
closes_by s limit at b (Merge x target height) answer after on h =
    record { mark = Merged; is_settled = merged_settled; ways = inl (ap (λ (z : Standing). z.marks) h.3 ∙ ap (λ (y : Branch). (marked at y Merged).marks) on, ap (λ (z : Standing). length z.rows) h.3) }
closes_by s limit at b (Keep x height) answer after on h =
    record {
      mark = Kept;
      is_settled = kept_settled;
      ways = inr (ap (λ (z : Standing). z.marks) h.3.3 ∙ ap (λ (y : Branch). (marked at y Kept).marks ++ all_waiting s ∷ []) on, ap (λ (z : Standing). length z.rows) h.3.3 ∙ (let e = length-append at.rows (h.3.0 ∷ []) in omega (arith, e)));
    }
closes_by s limit at b (Take x) answer after on h = absurd on
closes_by s limit at b (GiveBack x) answer after on h = absurd on
closes_by s limit at b Verdict answer after on h = absurd on

closes_if : (s : System) (limit : ℕ) (at : Standing) (b : Branch) (offer : Call) (answer : Answer) (after : Standing) → IsOfferOn b offer → is_accepted answer ≡ true → WasAccepted s limit at offer answer after ⊎ WasRefused s limit at offer answer after → Closes s at b after
closes_if s limit at b offer answer after on ok (inl w) = closes_by s limit at b offer answer after on w
closes_if s limit at b offer answer after on ok (inr w) = let e : false ≡ true = sym (ap is_accepted w.1) ∙ ok in let z : ◌≡◌ {A = ℕ} 0 1 = cc in absurd (omega arith)

-- where offers end with none refused last, one was accepted
offered_closes : {s : System} {limit : ℕ} {at after : Standing} {offs made : List Call} {given : List Answer} {end : Option TableFault} → Offered s limit at offs made given end after → (b : Branch) → All (IsOfferOn b) offs → end ≡ None → Closes s at b after
offered_closes {s} {limit} {at} (accepted offer later answer after answered ok) b on e = closes_if s limit at b offer answer after on.0 ok (ways s limit at offer answer after answered)
offered_closes (refused offer later calls answers fault end after answered rest) b on e = offered_closes rest b on.1 e
offered_closes (last offer fault answered) b on e = absurd (none-some fault (sym e))

abbrev Before : Branch → Branch → Type 0
Before x b = (x.row < b.row) ⊎ ((x.row ≡ b.row) × (x.number < b.number))

-- nothing is out, and no branch before b is waiting
record Clear (s : System) (at : Standing) (b : Branch) : Type 0 where
  paired : Paired at
  some : 0 < length at.rows
  inside : (x : Branch) (k : Mark) → mark_of at x ≡ Some k → (x.row < length at.rows) × (x.number < branches s)
  none_out : (x : Branch) → mark_of at x ≡ Some Out → ⊥
  before : (x : Branch) → Before x b → mark_of at x ≡ Some Waiting → ⊥

-- a branch of the table that comes before the one that follows b comes before b, or is b
before_following : (s : System) (b x : Branch) → x.number < branches s → Before x (following s b) → Before x b ⊎ Same x b
before_following s b x small h = by (nat_lt (b.number + 1) (branches s)) refl h
  where
    number_cases : x.row ≡ b.row → (x.number < b.number) ⊎ (b.number ≤ x.number) → x.number < b.number + 1 → Before x b ⊎ Same x b
    number_cases row (inl lt) le = inl (inr (row, lt))
    number_cases row (inr ge) le = inr (row, omega (arith, ge, le))

    row_cases : (nat_lt (b.number + 1) (branches s) ≡ false) → (x.row < b.row) ⊎ (b.row ≤ x.row) → x.row < b.row + 1 → Before x b ⊎ Same x b
    row_cases e (inl lt) le = inl (inl lt)
    row_cases e (inr ge) le =
        let wide : branches s ≤ b.number + 1 = ltb-false (b.number + 1) (branches s) e in
        number_cases (omega (arith, ge, le)) (cases_lt x.number b.number) (omega (arith, wide, small))

    by : (c : Bool) → nat_lt (b.number + 1) (branches s) ≡ c → Before x (if c then record { row = b.row; number = b.number + 1 } else record { row = b.row + 1; number = 0 }) → Before x b ⊎ Same x b
    by true e (inl lt) = inl (inl lt)
    by true e (inr w) = number_cases w.0 (cases_lt x.number b.number) w.1
    by false e (inl lt) = row_cases e (cases_lt x.row b.row) lt
    by false e (inr w) = absurd (omega (arith, w.1))

mark_same_branch : (at : Standing) (x b : Branch) (k : Mark) → Same x b → mark_of at x ≡ Some k → mark_of at b ≡ Some k
mark_same_branch at x b k same' e =
    let w = or_none_some (slice_get at.marks x.row) (λ ms. slice_get ms x.number) k e in
    ap (λ (o : Option (List Mark)). or_none o (λ ms. slice_get ms b.number)) (ap (slice_get at.marks) (sym same'.0) ∙ w.1) ∙ (ap (slice_get w.0) (sym same'.1) ∙ w.2)

-- a branch that is not waiting is passed
clear_passed : (s : System) (at : Standing) (b : Branch) (mark : Mark) → Clear s at b → mark_of at b ≡ Some mark → mark ≢ Waiting → Clear s at (following s b)
clear_passed s at b mark clear is other =
    record { paired = clear.paired; some = clear.some; inside = clear.inside; none_out = clear.none_out; before = λ x h e. by x e (before_following s b x (clear.inside x Waiting e).1 h) }
  where
    by : (x : Branch) → mark_of at x ≡ Some Waiting → Before x b ⊎ Same x b → ⊥
    by x e (inl h) = clear.before x h e
    by x e (inr same') = other (same_Some mark Waiting (sym is ∙ mark_same_branch at x b Waiting same' e))

-- after a branch is settled, a branch is that one, or has the mark that it had, or is a new row's
abbrev After : System → Standing → Branch → Mark → Branch → Mark → Type 0
After s at b m x k = (Same x b × (k ≡ m)) ⊎ (((Same x b → ⊥) × (mark_of at x ≡ Some k)) ⊎ ((k ≡ Waiting) × (x.row ≡ length at.rows) × (x.number < branches s)))

module _ (s : System) (at out : Standing) (b : Branch) (took : out ≡ marked at b Out) (paired : Paired at) where
  rows_out : length out.rows ≡ length at.rows
  rows_out = ap (λ (z : Standing). length z.rows) took

  twice : (m : Mark) (x : Branch) (k : Mark) → mark_in (marked out b m).marks x ≡ Some k → After s at b m x k
  twice m x k e = by (marked_parts out b m x k e)
    where
      once : (Same x b → ⊥) → Parts at.marks b Out x k → After s at b m x k
      once apart' (inl w) = absurd (apart' w.0)
      once apart' (inr w) = inr (inl (apart', w.1))

      by : Parts out.marks b m x k → After s at b m x k
      by (inl w) = inl w
      by (inr w) = once w.0 (marked_parts at b Out x k (ap (λ (z : Standing). mark_in z.marks x) (sym took) ∙ w.1))

  long : (m : Mark) → length (marked out b m).marks ≡ length at.rows
  long m = marks_long out.marks b m (slice_get out.marks b.row) ∙ (ap (λ (z : Standing). length z.marks) took ∙ (marks_long at.marks b Out (slice_get at.marks b.row) ∙ paired))

  marks_after : (after : Standing) (c : Closes s out b after) (x : Branch) (k : Mark) → mark_of after x ≡ Some k → After s at b c.mark x k
  marks_after after c x k e = by c.ways
    where
      pushed : (ms : List Mark) → (slice_get (marked out b c.mark).marks x.row ≡ Some ms) ⊎ Unit {0} → ((x.row ≡ length (marked out b c.mark).marks) × (ms ≡ all_waiting s)) ⊎ (slice_get (marked out b c.mark).marks x.row ≡ Some ms) → slice_get ms x.number ≡ Some k → After s at b c.mark x k
      pushed ms u (inl w) e' =
          let there : slice_get (all_waiting s) x.number ≡ Some k = ap (λ (l : List Mark). slice_get l x.number) (sym w.1) ∙ e' in
          let small : x.number < length (all_waiting s) = slice_get_within (all_waiting s) x.number k there in
          inr (inr (get_of_replicate (branches s) Waiting x.number k there, w.0 ∙ long c.mark, subst (λ n. x.number < n) (length-replicate (branches s) Waiting) small))
      pushed ms u (inr w) e' = twice c.mark x k (ap (λ (o : Option (List Mark)). or_none o (λ ms. slice_get ms x.number)) w ∙ e')

      by : ((after.marks ≡ (marked out b c.mark).marks) × (length after.rows ≡ length out.rows)) ⊎ ((after.marks ≡ (marked out b c.mark).marks ++ all_waiting s ∷ []) × (length after.rows ≡ suc (length out.rows))) → After s at b c.mark x k
      by (inl w) = twice c.mark x k (ap (λ (l : List (List Mark)). mark_in l x) (sym w.0) ∙ e)
      by (inr w) =
          let f = or_none_some (slice_get ((marked out b c.mark).marks ++ all_waiting s ∷ []) x.row) (λ ms. slice_get ms x.number) k (ap (λ (l : List (List Mark)). mark_in l x) (sym w.0) ∙ e) in
          pushed f.0 (inr tt) (get_of_push (marked out b c.mark).marks (all_waiting s) x.row f.0 f.1) f.2

  rows_grow : (after : Standing) (c : Closes s out b after) → length at.rows ≤ length after.rows
  rows_grow after c = by c.ways
    where
      by : ((after.marks ≡ (marked out b c.mark).marks) × (length after.rows ≡ length out.rows)) ⊎ ((after.marks ≡ (marked out b c.mark).marks ++ all_waiting s ∷ []) × (length after.rows ≡ suc (length out.rows))) → length at.rows ≤ length after.rows
      by (inl w) = omega (arith, w.1, rows_out)
      by (inr w) = omega (arith, w.1, rows_out)

  new_within : (after : Standing) (c : Closes s out b after) (x : Branch) (k : Mark) → mark_of after x ≡ Some k → x.row ≡ length at.rows → x.row < length after.rows
  new_within after c x k e row = by c.ways
    where
      gone : (mark_in (marked out b c.mark).marks x ≡ Some k) → x.row < length after.rows
      gone e' =
          let f = or_none_some (slice_get (marked out b c.mark).marks x.row) (λ ms. slice_get ms x.number) k e' in
          let z : x.row < length (marked out b c.mark).marks = slice_get_within (marked out b c.mark).marks x.row f.0 f.1 in
          absurd (omega (arith, z, long c.mark, row))

      by : ((after.marks ≡ (marked out b c.mark).marks) × (length after.rows ≡ length out.rows)) ⊎ ((after.marks ≡ (marked out b c.mark).marks ++ all_waiting s ∷ []) × (length after.rows ≡ suc (length out.rows))) → x.row < length after.rows
      by (inl w) = gone (ap (λ (l : List (List Mark)). mark_in l x) (sym w.0) ∙ e)
      by (inr w) = omega (arith, w.1, rows_out, row)

  clear_settled : (after : Standing) → Closes s out b after → Paired after → Clear s at b → mark_of at b ≡ Some Waiting → Clear s after (following s b)
  clear_settled after c paired' clear waits =
      record {
        paired = paired';
        some = (let g = rows_grow after c in let z = clear.some in omega (arith, g, z));
        inside = inside;
        none_out = λ x e. no_out x e (marks_after after c x Out e);
        before = λ x h e. no_waiting x h e (marks_after after c x Waiting e);
      }
    where
      inside_parts : (x : Branch) (k : Mark) → mark_of after x ≡ Some k → After s at b c.mark x k → (x.row < length after.rows) × (x.number < branches s)
      inside_parts x k e (inl w) =
          let i = clear.inside b Waiting waits in
          let g = rows_grow after c in
          (omega (arith, i.0, g, w.0.0), subst (λ n. n < branches s) (sym w.0.1) i.1)
      inside_parts x k e (inr (inl w)) = let i = clear.inside x k w.1 in let g = rows_grow after c in (omega (arith, i.0, g), i.1)
      inside_parts x k e (inr (inr w)) = (new_within after c x k e w.1, w.2)

      inside : (x : Branch) (k : Mark) → mark_of after x ≡ Some k → (x.row < length after.rows) × (x.number < branches s)
      inside x k e = inside_parts x k e (marks_after after c x k e)

      no_out : (x : Branch) → mark_of after x ≡ Some Out → After s at b c.mark x Out → ⊥
      no_out x e (inl w) = c.is_settled.1 (sym w.1)
      no_out x e (inr (inl w)) = clear.none_out x w.1
      no_out x e (inr (inr w)) = waiting_out (sym w.0)

      passed_by : (x : Branch) → (Same x b → ⊥) → mark_of at x ≡ Some Waiting → Before x b ⊎ Same x b → ⊥
      passed_by x apart' e (inl h) = clear.before x h e
      passed_by x apart' e (inr same') = apart' same'

      beyond : (x : Branch) → x.row ≡ length at.rows → Before x b ⊎ Same x b → ⊥
      beyond x row (inl (inl lt)) = let i = (clear.inside b Waiting waits).0 in to_absurd (omega (arith, i, row, lt))
      beyond x row (inl (inr w)) = let i = (clear.inside b Waiting waits).0 in to_absurd (omega (arith, i, row, w.0))
      beyond x row (inr w) = let i = (clear.inside b Waiting waits).0 in to_absurd (omega (arith, i, row, w.0))

      no_waiting : (x : Branch) → Before x (following s b) → mark_of after x ≡ Some Waiting → After s at b c.mark x Waiting → ⊥
      no_waiting x h e (inl w) = c.is_settled.0 (sym w.1)
      no_waiting x h e (inr (inl w)) = passed_by x w.0 w.1 (before_following s b x (clear.inside x Waiting w.1).1 h)
      no_waiting x h e (inr (inr w)) = beyond x w.1 (before_following s b x w.2 h)

-- where no mark passes a test, none is counted
none_in : (p : Mark → Bool) (ms : List Mark) → ((n : ℕ) (k : Mark) → slice_get ms n ≡ Some k → p k ≡ false) → count_by p ms ≡ 0
none_in p [] none = refl
none_in p (m ∷ ms) none =
    let here : ◌≡◌ {A = ℕ} (cond (p m) 1 0) 0 = ap (λ (z : Bool). let n : ℕ = cond z 1 0 in n) (none 0 m refl) in
    let rest : count_by p ms ≡ 0 = none_in p ms (λ n k e. none (suc n) k e) in
    let both = sum_by-cons (λ x. cond (p x) 1 0) m ms in
    omega (arith, here, rest, both)

none_in_all : (p : Mark → Bool) (marks : List (List Mark)) → ((r : ℕ) (ms : List Mark) → slice_get marks r ≡ Some ms → (n : ℕ) (k : Mark) → slice_get ms n ≡ Some k → p k ≡ false) → sum_by (count_by p) marks ≡ 0
none_in_all p [] none = refl
none_in_all p (ms ∷ marks) none =
    let here = none_in p ms (none 0 ms refl) in
    let rest = none_in_all p marks (λ r l e. none (suc r) l e) in
    let both = sum_by-cons (count_by p) ms marks in
    omega (arith, here, rest, both)

module _ (s : System) (at : Standing) (b : Branch) (clear : Clear s at b) (past : length at.rows ≤ b.row) where
  mark_at : (r : ℕ) (ms : List Mark) → slice_get at.marks r ≡ Some ms → (n : ℕ) (k : Mark) → slice_get ms n ≡ Some k → mark_of at (record { row = r; number = n }) ≡ Some k
  mark_at r ms e n k e' = ap (λ (o : Option (List Mark)). or_none o (λ ms. slice_get ms n)) e ∙ e'

  not_waiting : (r : ℕ) (ms : List Mark) → slice_get at.marks r ≡ Some ms → (n : ℕ) (k : Mark) → slice_get ms n ≡ Some k → is_waiting k ≡ false
  not_waiting r ms e n Waiting e' =
      let here = mark_at r ms e n Waiting e' in
      let i = (clear.inside (record { row = r; number = n }) Waiting here).0 in
      absurd (clear.before (record { row = r; number = n }) (inl (omega (arith, i, past))) here)
  not_waiting r ms e n Out e' = refl
  not_waiting r ms e n Struck e' = refl
  not_waiting r ms e n Merged e' = refl
  not_waiting r ms e n Kept e' = refl

  not_out : (r : ℕ) (ms : List Mark) → slice_get at.marks r ≡ Some ms → (n : ℕ) (k : Mark) → slice_get ms n ≡ Some k → is_out k ≡ false
  not_out r ms e n Out e' = absurd (clear.none_out (record { row = r; number = n }) (mark_at r ms e n Out e'))
  not_out r ms e n Waiting e' = refl
  not_out r ms e n Struck e' = refl
  not_out r ms e n Merged e' = refl
  not_out r ms e n Kept e' = refl

  none_waits : waiting at ≡ 0
  none_waits = sum-map (count_by is_waiting) at.marks ∙ none_in_all is_waiting at.marks not_waiting

  none_is_out : out at ≡ 0
  none_is_out = sum-map (count_by is_out) at.marks ∙ none_in_all is_out at.marks not_out

  never_open : (w o : ℕ) → Suits s at Verdict (Open w o) → ⊥
  never_open w o h = by h.2
    where
      by : (length at.rows ≡ 0) ⊎ (0 < w + o) → ⊥
      by (inl none) = let z = clear.some in to_absurd (omega (arith, z, none))
      by (inr some) = let x = none_waits in let y = none_is_out in to_absurd (omega (arith, x, y, h.0, h.1, some))

tell : Outcome → ℕ
tell Outcome.Holds = 0
tell (Outcome.Open w o) = 1
tell (Outcome.Unknown b) = 2
tell (Outcome.Full b) = 3

ends_shut : (b : Branch) (fault : TableFault) (outcome : Outcome) → EndsAs b fault outcome → (w o : ℕ) → outcome ≡ Outcome.Open w o → ⊥
unfolding tell
ends_shut b UnsafeForm outcome e w o is = to_absurd (omega (arith, ap tell (sym e ∙ is)))
ends_shut b NamesExhausted outcome e w o is = to_absurd (omega (arith, ap tell (sym e ∙ is)))
ends_shut b TermsExhausted outcome e w o is = to_absurd (omega (arith, ap tell (sym e ∙ is)))
ends_shut b RowLimit outcome e w o is = to_absurd (omega (arith, ap tell (sym e ∙ is)))
ends_shut b BadMemory outcome e w o is = e
ends_shut b UnsafeStart outcome e w o is = e
ends_shut b NoSuchBranch outcome e w o is = e
ends_shut b NotWaiting outcome e w o is = e
ends_shut b NotOut outcome e w o is = e
ends_shut b HeightAboveBound outcome e w o is = e
ends_shut b Satisfiable outcome e w o is = e
ends_shut b NoRenaming outcome e w o is = e

shut : {s : System} {limit : ℕ} {at after : Standing} {b : Branch} {calls : List Call} {answers : List Answer} {outcome : Outcome} → WorksFrom s limit at b calls answers outcome after → Clear s at b → (w o : ℕ) → outcome ≡ Outcome.Open w o → ⊥
shut {s} {limit} (finished at b answer outcome past is answered) clear w o e =
    let a : Open w o ≡ answer = same_Some (Open w o) answer (ap verdict_of (sym e) ∙ is) in
    never_open s at b clear past w o (subst (λ z. Answered s limit at Verdict z at) (sym a) answered).1
shut {s} {limit} (passed at after b mark calls answers outcome is other rest) clear w o e = shut rest (clear_passed s at b mark clear is other) w o e
shut {s} {limit} (settled at mid after_all end b made calls given answers outcome took offered rest) clear w o e =
    let closes = offered_closes offered b (offers_on s b (length at.rows)) refl in
    let paired = paired_offered s limit (paired_answered s limit at (Take b) (Taken b) mid clear.paired took) offered in
    shut rest (clear_settled s at mid b took.2 clear.paired after_all closes paired clear took.0) w o e
shut {s} {limit} (stopped at mid after b made given fault outcome took offered gave ends) clear w o e = ends_shut b fault outcome ends w o e

opening_mark : (s : System) (x : Branch) (k : Mark) → mark_of (opening s) x ≡ Some k → (x.row ≡ 0) × (k ≡ Waiting) × (x.number < branches s)
opening_mark s x k e = by x.row refl (or_none_some (slice_get (opening s).marks x.row) (λ ms. slice_get ms x.number) k e)
  where
    by : (r : ℕ) → x.row ≡ r → (ms : List Mark) × (slice_get (all_waiting s ∷ []) x.row ≡ Some ms) × (slice_get ms x.number ≡ Some k) → (x.row ≡ 0) × (k ≡ Waiting) × (x.number < branches s)
    by zero is w =
        let first : all_waiting s ≡ w.0 = same_Some (all_waiting s) w.0 (ap (slice_get (all_waiting s ∷ [])) (sym is) ∙ w.1) in
        let there : slice_get (all_waiting s) x.number ≡ Some k = ap (λ (l : List Mark). slice_get l x.number) first ∙ w.2 in
        (is, get_of_replicate (branches s) Waiting x.number k there, subst (λ n. x.number < n) (length-replicate (branches s) Waiting) (slice_get_within (all_waiting s) x.number k there))
    by (suc r) is w = absurd (none-some w.0 (ap (slice_get (all_waiting s ∷ [])) (sym is) ∙ w.1))

opening_clear : (s : System) → Clear s (opening s) first_branch
opening_clear s =
    record {
      paired = refl;
      some = omega arith;
      inside = λ x k e. (let w = opening_mark s x k e in (omega (arith, w.0), w.2));
      none_out = λ x e. waiting_out (sym (opening_mark s x Out e).1);
      before = λ x h e. none x h;
    }
  where
    none : (x : Branch) → Before x first_branch → ⊥
    none x (inl lt) = to_absurd (omega (arith, lt))
    none x (inr w) = to_absurd (omega (arith, w.1))

pub work_settles : WorkSettles
work_settles s limit calls answers outcome after work w o = shut work (opening_clear s) w o
