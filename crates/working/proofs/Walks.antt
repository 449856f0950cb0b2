-- The work from branch to branch and from row to row, as far as it has come.
use Rattle.std.proofs.Common.{◌≡◌, ◌≢◌, ℕ, zero, suc, ◌+◌, ◌<◌, ◌≤◌, Bool, true, false, List, [], ◌∷◌, ◌++◌, length, Some, None, Option, sym, refl, ap, ◌∙◌, subst, inl, inr, arith, nat_lt, pow_pos}
use Rattle.std.specs.List.{slice_get}
use Rattle.std.specs.Prelude.{if◌then◌else◌, slice_set, IsSome}
use Rattle.std.proofs.lemmas.Bool.{lt-ltb, le-ltb}
use Rattle.std.proofs.lemmas.List.{length-append}
use Rattle.std.proofs.lemmas.Option.{none-some}
use Rattle.fault.specs.declared.TableFault.{TableFault}
use Rattle.sheet.specs.System.{System}
use Rattle.forms.specs.Candidate.{or_none}
use Rattle.rules.specs.declared.Answer.{Answer}
use Rattle.rules.specs.declared.Answer.TheVariants.{Taken, Done, Refused}
use Rattle.rules.specs.declared.Branch.{Branch}
use Rattle.rules.specs.declared.Call.{Call}
use Rattle.rules.specs.declared.Call.TheVariants.{Take, GiveBack, Strike, Merge, Keep, Verdict}
use Rattle.rules.specs.declared.Mark.{Mark}
use Rattle.rules.specs.declared.Mark.TheVariants.{Waiting, Out, Struck, Merged, Kept}
use Rattle.rules.specs.declared.Outcome.{Outcome}
use Rattle.rules.specs.Calls.{Turn}
use Rattle.rules.specs.Promises.{Answered}
use Rattle.rules.specs.Rules.{IsOut}
use Rattle.rules.specs.Standing.{Standing, branches, mark_of, marked, marks_with, is_waiting}
use Rattle.rules.specs.Working.{first_branch, following, offers, Offered, verdict_of}
use Rattle.rules.specs.Working.Offered.{accepted, refused, last}
use Rattle.rules.specs.Working.WorksFrom.{finished, passed, settled, stopped}
use Rattle.rules.proofs.Accounts.{turn}
use Rattle.rules.proofs.Marking.{or_none_some}
use Rattle.rules.proofs.Outcomes.{one_outcome}
use Rattle.table.specs.declared.table.Table.{Table}
use Rattle.table.specs.Standing.{Stands, rows_of}
use Rattle.table.proofs.Always.{always_stands}
use Rattle.table.proofs.Marking.{rows_many}
use Rattle.working.specs.Work.{Advances, Made, Reached, Ended, Worked, RowWorked, ending, first_of, waits_in}
use Rattle.working.proofs.Offers.{stays_refused, offers_end}

-- no call takes rows away
rows_grow_by : (s : System) (limit : ℕ) (at : Standing) (c : Call) (after : Standing) → Turn s limit at c after → length at.rows ≤ length after.rows
rows_grow_by s limit at (Take b) after (inl w) = let e = ap (λ (z : Standing). length z.rows) w.1 in omega (arith, e)
rows_grow_by s limit at (GiveBack b) after (inl w) = let e = ap (λ (z : Standing). length z.rows) w.1 in omega (arith, e)
rows_grow_by s limit at (Strike b) after (inl w) = let e = ap (λ (z : Standing). length z.rows) w.1 in omega (arith, e)
rows_grow_by s limit at (Merge b target h) after (inl w) = let e = ap (λ (z : Standing). length z.rows) w.1 in omega (arith, e)
rows_grow_by s limit at (Keep b h) after (inl w) =
    let e = ap (λ (z : Standing). length z.rows) w.1.3 in
    let l = length-append at.rows (w.1.0 ∷ []) in
    omega (arith, e, l)
rows_grow_by s limit at Verdict after (inl w) = let e = ap (λ (z : Standing). length z.rows) w.1 in omega (arith, e)
rows_grow_by s limit at c after (inr w) = let e = ap (λ (z : Standing). length z.rows) w.1 in omega (arith, e)

offered_grows : {s : System} {limit : ℕ} {at after : Standing} {offs made : List Call} {given : List Answer} {end : Option TableFault} → Offered s limit at offs made given end after → length at.rows ≤ length after.rows
offered_grows {s} {limit} {at} (accepted offer later answer after answered ok) = rows_grow_by s limit at offer after (turn s limit at offer answer after answered)
offered_grows (refused offer later calls answers fault end after answered rest) = offered_grows rest
offered_grows {s} {limit} {at} (last offer fault answered) = omega arith

module _ (s : System) (limit : ℕ) where
  pub advances_here : (at : Standing) (b : Branch) → Advances s limit at b at b
  advances_here at b calls answers outcome after works = (calls, answers, works)

  pub advances_on : (at mid end : Standing) (b next later : Branch) → Advances s limit at b mid next → Advances s limit mid next end later → Advances s limit at b end later
  advances_on at mid end b next later one two calls answers outcome after works =
      let w = two calls answers outcome after works in
      one w.0 w.1 outcome after w.2

  -- a branch that does not wait is passed
  pub advances_past : (at : Standing) (b : Branch) (mark : Mark) → mark_of at b ≡ Some mark → mark ≢ Waiting → Advances s limit at b at (following s b)
  advances_past at b mark is other calls answers outcome after works = (calls, answers, passed at after b mark calls answers outcome is other works)

  -- one that waits is settled
  pub advances_settled : (at mid end : Standing) (b : Branch) (made : List Call) (given : List Answer) → Answered s limit at (Take b) (Taken b) mid → Offered s limit mid (offers s b (length at.rows)) made given None end → Advances s limit at b end (following s b)
  advances_settled at mid end b made given took offered calls answers outcome after works =
      (Take b ∷ (made ++ calls), Taken b ∷ (given ++ answers), settled at mid end after b made calls given answers outcome took offered works)

  -- what was reached, and from there on
  pub worked_on : (at : Standing) (b next later : Branch) (old new : Table) (result : Option Outcome) (r : Reached s limit at b next old) → Worked s limit r.mid next later result new → Worked s limit at b later result new
  worked_on at b next later old new None r w =
      record { mid = w.mid; advances = advances_on at r.mid w.mid b next later r.advances w.advances; more = (let x = r.more in let y = w.more in omega (arith, x, y)); stands = w.stands }
  worked_on at b next later old new (Some outcome) r w =
      let all = r.advances w.calls w.answers outcome w.after w.works in
      record { calls = all.0; answers = all.1; after = w.after; works = all.2; stands = w.stands }

-- the branch of a row with a number, and behind the last one the next row's first
abbrev pub place_of : System → ℕ → ℕ → Branch
place_of s row k = if nat_lt k (branches s) then record { row = row; number = k } else first_of (row + 1)

abbrev choose : Branch → Branch → Bool → Branch
choose a b c = if c then a else b

pub place_within : (s : System) (row k : ℕ) → k < branches s → place_of s row k ≡ record { row = row; number = k }
place_within s row k lt = ap (choose (record { row = row; number = k }) (first_of (row + 1))) (lt-ltb k (branches s) lt)

pub place_past : (s : System) (row k : ℕ) → branches s ≤ k → place_of s row k ≡ first_of (row + 1)
place_past s row k le = ap (choose (record { row = row; number = k }) (first_of (row + 1))) (le-ltb k (branches s) le)

pub place_first : (s : System) (row : ℕ) → place_of s row 0 ≡ first_of row
place_first s row = place_within s row 0 (pow_pos (length s.questions))

pub place_next : (s : System) (row k : ℕ) → following s (record { row = row; number = k }) ≡ place_of s row (k + 1)
place_next s row k = refl

-- an element that was changed is the new one
changed_here : {X : Type 0} (xs : List X) (i : ℕ) (x y : X) → slice_get xs i ≡ Some y → slice_get (slice_set xs i x) i ≡ Some x
changed_here {X} [] i x y e = absurd (none-some y e)
changed_here (z ∷ xs) zero x y e = refl
changed_here (z ∷ xs) (suc i) x y e = changed_here xs i x y e

mark_changed : (at : Standing) (b : Branch) (m k : Mark) → mark_of at b ≡ Some k → mark_of (marked at b m) b ≡ Some m
mark_changed at b m k is = by (or_none_some (slice_get at.marks b.row) (λ ms. slice_get ms b.number) k is)
  where
    by : (ms : List Mark) × (slice_get at.marks b.row ≡ Some ms) × (slice_get ms b.number ≡ Some k) → mark_of (marked at b m) b ≡ Some m
    by (ms, row, number) =
        ap (λ (o : Option (List Mark)). or_none (slice_get (marks_with at.marks b m o) b.row) (λ ms. slice_get ms b.number)) row
        ∙ (ap (λ (o : Option (List Mark)). or_none o (λ ms. slice_get ms b.number)) (changed_here at.marks b.row (slice_set ms b.number m) ms row) ∙ changed_here ms b.number m k number)

module _ (s : System) (limit : ℕ) (at : Standing) (b : Branch) where
  -- a branch that waits is not refused
  pub taken_never_refused : {X : Type 0} (e : TableFault) (after : Standing) → mark_of at b ≡ Some Waiting → Answered s limit at (Take b) (Refused e) after → X
  taken_never_refused {X} e after waits answered = absurd (none-some e (one_outcome s limit at (Take b) None (Some e) waits answered.0))

  -- what is taken is out, by a ticket for it
  pub record TakenOut (ticket : Branch) (out : Standing) : Type 0 where
    pub named : ticket ≡ b
    pub is_out : IsOut out b
    pub rows : length out.rows ≡ length at.rows

  pub taken_out : (ticket : Branch) (out : Standing) → Answered s limit at (Take b) (Taken ticket) out → TakenOut ticket out
  taken_out ticket out answered =
      record {
        named = answered.1;
        is_out = subst (λ (z : Standing). IsOut z b) (sym answered.2) (mark_changed at b Out Waiting answered.0);
        rows = ap (λ (z : Standing). length z.rows) answered.2;
      }

  -- the work on a branch that was taken, and settled
  pub branch_settled : (ticket : Branch) (out : Standing) (new : Table) → Answered s limit at (Take b) (Taken ticket) out → Made s limit out (offers s b (length out.rows)) None new → Reached s limit at b (following s b) new
  branch_settled ticket out new took m =
      let t = taken_out ticket out took in
      let here : Answered s limit at (Take b) (Taken b) out = subst (λ (x : Branch). Answered s limit at (Take b) (Taken x) out) t.named took in
      let offered : Offered s limit out (offers s b (length at.rows)) m.made m.given None m.after = subst (λ n. Offered s limit out (offers s b n) m.made m.given None m.after) t.rows m.offered in
      record {
        mid = m.after;
        advances = advances_settled s limit at out m.after b m.made m.given here offered;
        more = (let r = t.rows in let g = offered_grows offered in omega (arith, r, g));
        stands = m.stands;
      }

  -- and of one that was given back
  pub branch_stopped : (bound : ℕ) → s.bound ≡ Some bound → (ticket : Branch) (out after : Standing) (fault : TableFault) (mid new : Table) → Answered s limit at (Take b) (Taken ticket) out → Made s limit out (offers s b (length out.rows)) (Some fault) mid → Answered s limit out (GiveBack b) Done after → Stands s limit new after → Ended s limit at b (ending b fault) new
  branch_stopped bound is ticket out after fault mid new took m gave stands =
      let t = taken_out ticket out took in
      let here : Answered s limit at (Take b) (Taken b) out = subst (λ (x : Branch). Answered s limit at (Take b) (Taken x) out) t.named took in
      let same' : m.after ≡ out = stays_refused m.offered fault refl in
      let all : Offered s limit out (offers s b (length out.rows)) m.made m.given (Some fault) out = subst (λ (z : Standing). Offered s limit out (offers s b (length out.rows)) m.made m.given (Some fault) z) same' m.offered in
      let offered : Offered s limit out (offers s b (length at.rows)) m.made m.given (Some fault) out = subst (λ n. Offered s limit out (offers s b n) m.made m.given (Some fault) out) t.rows all in
      let ends = offers_end s limit bound out out b (length out.rows) m.made m.given fault is t.is_out all in
      record {
        calls = Take b ∷ (m.made ++ GiveBack b ∷ []);
        answers = Taken b ∷ (m.given ++ Done ∷ []);
        after = after;
        works = stopped at out after b m.made m.given fault (ending b fault) here offered gave ends;
        stands = stands;
      }

  -- a branch that is out is given back
  pub given_never_refused : {X : Type 0} (e : TableFault) (after : Standing) → IsOut at b → Answered s limit at (GiveBack b) (Refused e) after → X
  given_never_refused {X} e after out answered = absurd (none-some e (one_outcome s limit at (GiveBack b) None (Some e) out answered.0))

module _ (s : System) (limit : ℕ) (at : Standing) (row k : ℕ) (few : k < branches s) where
  abbrev here : Branch
  here = record { row = row; number = k }

  -- the work on one branch of a row, where it came to this one
  pub row_on : (old new : Table) (result : Option Outcome) (r : Reached s limit at (first_of row) (place_of s row k) old) → Worked s limit r.mid here (following s here) result new → Worked s limit at (first_of row) (place_of s row (k + 1)) result new
  row_on old new result r w =
      worked_on s limit at (first_of row) (place_of s row k) (place_of s row (k + 1)) old new result r
      (subst (λ (b : Branch). Worked s limit r.mid b (place_of s row (k + 1)) result new) (sym (place_within s row k few)) w)

  -- a branch that does not wait
  pub row_past : (t : Table) (r : Reached s limit at (first_of row) (place_of s row k) t) (mark : Mark) → mark_of r.mid here ≡ Some mark → mark ≢ Waiting → Reached s limit at (first_of row) (place_of s row (k + 1)) t
  row_past t r mark is other =
      row_on t t None r (record { mid = r.mid; advances = advances_past s limit r.mid here mark is other; more = omega arith; stands = r.stands })

-- a row that was worked to its end
pub row_done : (s : System) (limit : ℕ) (at : Standing) (row k : ℕ) (t : Table) → branches s ≤ k → Reached s limit at (first_of row) (place_of s row k) t → Reached s limit at (first_of row) (first_of (row + 1)) t
row_done s limit at row k t le r = subst (λ (b : Branch). Reached s limit at (first_of row) b t) (place_past s row k le) r

pub row_begun : (s : System) (limit : ℕ) (at : Standing) (row : ℕ) (t : Table) → Stands s limit t at → Reached s limit at (first_of row) (place_of s row 0) t
row_begun s limit at row t stands =
    subst (λ (b : Branch). Reached s limit at (first_of row) b t) (sym (place_first s row))
    (record { mid = at; advances = advances_here s limit at (first_of row); more = omega arith; stands = stands })

-- what a test of a mark tells
pub waits_true : (o : Option Mark) → waits_in o ≡ true → o ≡ Some Waiting
waits_true None e = let z : ◌≡◌ {A = ℕ} 0 1 = cc in absurd (omega arith)
waits_true (Some Waiting) e = refl
waits_true (Some Out) e = let z : ◌≡◌ {A = ℕ} 0 1 = cc in absurd (omega arith)
waits_true (Some Struck) e = let z : ◌≡◌ {A = ℕ} 0 1 = cc in absurd (omega arith)
waits_true (Some Merged) e = let z : ◌≡◌ {A = ℕ} 0 1 = cc in absurd (omega arith)
waits_true (Some Kept) e = let z : ◌≡◌ {A = ℕ} 0 1 = cc in absurd (omega arith)

pub record AnotherMark (o : Option Mark) : Type 0 where
  pub mark : Mark
  pub is : o ≡ Some mark
  pub other : mark ≢ Waiting

pub waits_false : (o : Option Mark) → IsSome o → waits_in o ≡ false → AnotherMark o
waits_false None some e = let z : ◌≡◌ {A = ℕ} 0 1 = cc in absurd (omega arith)
waits_false (Some mark) some e = record { mark = mark; is = refl; other = λ w. (let f : true ≡ false = ap is_waiting (sym w) ∙ e in let z : ◌≡◌ {A = ℕ} 0 1 = cc in absurd (omega arith)) }

-- a row that was worked to its end takes no row away
pub row_grows : (old new : Table) (row : ℕ) → row < rows_of old → RowWorked old row new None → rows_of old ≤ rows_of new
row_grows old new row lt worked =
    let there = always_stands old in
    let before = rows_many old there.0 there.1 there.2 there.3 in
    let r = worked there.0 there.1 there.2 there.3 (omega (arith, before, lt)) in
    let after = rows_many new there.0 there.1 r.mid r.stands in
    let g = r.more in
    omega (arith, before, after, g)

module _ (s : System) (limit : ℕ) (at : Standing) (row given : ℕ) (same : given ≡ row) (old new : Table) (lt : row < rows_of old) (r : Reached s limit at first_branch (first_of row) old) where
  -- the work on the next row
  pub rows_on : (result : Option Outcome) → RowWorked old given new result → Worked s limit at first_branch (first_of (row + 1)) result new
  rows_on result worked =
      let many = rows_many old s limit r.mid r.stands in
      let w : Worked s limit r.mid (first_of given) (first_of (given + 1)) result new = worked s limit r.mid r.stands (omega (arith, many, lt, same)) in
      worked_on s limit at first_branch (first_of row) (first_of (row + 1)) old new result r
      (subst (λ (k : ℕ). Worked s limit r.mid (first_of k) (first_of (k + 1)) result new) same w)

-- behind the last row the verdict ends the work
pub rows_end : (s : System) (limit : ℕ) (at : Standing) (row : ℕ) (t : Table) (answer : Answer) (outcome : Outcome) → rows_of t ≤ row → (r : Reached s limit at first_branch (first_of row) t) → verdict_of outcome ≡ Some answer → Answered s limit r.mid Verdict answer r.mid → Ended s limit at first_branch outcome t
rows_end s limit at row t answer outcome le r is answered =
    let many = rows_many t s limit r.mid r.stands in
    let end = r.advances (Verdict ∷ []) (answer ∷ []) outcome r.mid (finished r.mid (first_of row) answer outcome (omega (arith, many, le)) is answered) in
    record { calls = end.0; answers = end.1; after = r.mid; works = end.2; stands = r.stands }
