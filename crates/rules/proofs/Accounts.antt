-- Accounting: each call's step keeps the sums, and so do all of them.
use Rattle.std.proofs.Common.{◌≡◌, ℕ, ◌+◌, ◌*◌, ◌⊎◌, Bool, true, false, cond, ◌&&◌, List, [], ◌∷◌, ◌++◌, length, get_or, set, map, replicate, sum, Some, None, Option, sym, refl, ap, subst, inl, inr, arith}
use Rattle.std.specs.List.{count_by, zip, slice_get}
use Rattle.std.proofs.lemmas.Option.{none-some, slice_get_within, get_or_from_slice_get}
use Rattle.std.proofs.lemmas.List.Sums.{sum-map, sum_by-set, sum_by-cons, sum_by_push}
use Rattle.std.proofs.lemmas.List.Folds.{sum_by-replicate}
use Rattle.std.proofs.lemmas.List.{length-append}
use Rattle.fault.specs.declared.TableFault.{TableFault}
use Rattle.sheet.specs.System.{System}
use Rattle.terms.specs.Terms.{Term}
use Rattle.forms.specs.Rows.{Row}
use Rattle.forms.specs.Candidate.{or_none}
use Rattle.rules.specs.declared.Answer.{Answer}
use Rattle.rules.specs.declared.Answer.TheVariants.{Taken, Done, Joined, Holds, Open, Refused}
use Rattle.rules.specs.declared.Branch.{Branch}
use Rattle.rules.specs.declared.Call.{Call}
use Rattle.rules.specs.declared.Call.TheVariants.{Take, GiveBack, Strike, Merge, Keep, Verdict}
use Rattle.rules.specs.declared.Mark.{Mark}
use Rattle.rules.specs.declared.Mark.TheVariants.{Waiting, Out, Struck, Merged, Kept}
use Rattle.rules.specs.Standing.{Standing, branches, all_waiting, opening, mark_of, marks_with, marked, is_waiting, is_out, waiting, out}
use Rattle.rules.specs.Calls.{Borne, RefusedBy, Makes, Turn}
use Rattle.rules.specs.Promises.{Suits, Answered, accepted, is_accepted, is_keep, is_merge, is_strike}
use Rattle.rules.specs.Laws.{Played, Accounting, PlayedTurns}

-- an answer says that the call was accepted, or that it was refused
abbrev pub WasAccepted : System → ℕ → Standing → Call → Answer → Standing → Type 0
WasAccepted s limit at c a after = (is_accepted a ≡ true) × Borne s limit at c × Suits s at c a × Makes s limit at c after

abbrev pub WasRefused : System → ℕ → Standing → Call → Answer → Standing → Type 0
WasRefused s limit at c a after = (e : TableFault) × (a ≡ Refused e) × RefusedBy s limit at c e × (after ≡ at)

pub ways : (s : System) (limit : ℕ) (at : Standing) (c : Call) (a : Answer) (after : Standing) → Answered s limit at c a after → WasAccepted s limit at c a after ⊎ WasRefused s limit at c a after
ways s limit at c (Refused e) after h = inr (e, refl, h.0, h.1)
ways s limit at c (Taken t) after h = inl (refl, h.0, h.1, h.2)
ways s limit at c Done after h = inl (refl, h.0, h.1, h.2)
ways s limit at c (Joined n) after h = inl (refl, h.0, h.1, h.2)
ways s limit at c Holds after h = inl (refl, h.0, h.1, h.2)
ways s limit at c (Open w o) after h = inl (refl, h.0, h.1, h.2)

pub turn : (s : System) (limit : ℕ) (at : Standing) (c : Call) (a : Answer) (after : Standing) → Answered s limit at c a after → Turn s limit at c after
turn s limit at c a after h = by (ways s limit at c a after h)
  where
    by : WasAccepted s limit at c a after ⊎ WasRefused s limit at c a after → Turn s limit at c after
    by (inl w) = inl (w.1, w.3)
    by (inr w) = inr ((w.0, w.2), w.3)

pub played_turns : PlayedTurns
played_turns s limit [] [] from at h = h
played_turns s limit (c ∷ cs) (a ∷ ans) from at h = (h.0, turn s limit from c a h.0 h.1, played_turns s limit cs ans h.0 at h.2)
played_turns s limit [] (a ∷ ans) from at h = absurd h
played_turns s limit (c ∷ cs) [] from at h = absurd h

-- the marks of all rows that pass a test
abbrev pub counted : (Mark → Bool) → List (List Mark) → ℕ
counted p marks = sum (map (count_by p) marks)

abbrev pub one : Bool → ℕ
one b = cond b 1 0

-- one mark is changed
in_row : (p : Mark → Bool) (ms : List Mark) (n : ℕ) (old m : Mark) → slice_get ms n ≡ Some old → count_by p (set ms n m) + one (p old) ≡ count_by p ms + one (p m)
in_row p ms n old m is =
    let e = get_or_from_slice_get ms n old old is in
    rw e at (sum_by-set (λ x. cond (p x) 1 0) ms n m old (slice_get_within ms n old is))

changed : (p : Mark → Bool) (marks : List (List Mark)) (b : Branch) (old m : Mark) (row : Option (List Mark)) → slice_get marks b.row ≡ row → or_none row (λ ms. slice_get ms b.number) ≡ Some old → counted p (marks_with marks b m row) + one (p old) ≡ counted p marks + one (p m)
changed p marks b old m None is mark = absurd (none-some old mark)
changed p marks b old m (Some ms) is mark =
    let e : get_or marks b.row ms ≡ ms = get_or_from_slice_get marks b.row ms ms is in
    let outer = rw e at (sum_by-set (count_by p) marks b.row (set ms b.number m) ms (slice_get_within marks b.row ms is)) in
    let inner = in_row p ms b.number old m mark in
    let before = sum-map (count_by p) marks in
    let after = sum-map (count_by p) (set marks b.row (set ms b.number m)) in
    omega arith

pub moved : (p : Mark → Bool) (at : Standing) (b : Branch) (old m : Mark) → mark_of at b ≡ Some old → counted p (marked at b m).marks + one (p old) ≡ counted p at.marks + one (p m)
moved p at b old m mark = changed p at.marks b old m (slice_get at.marks b.row) refl mark

pub added : (p : Mark → Bool) (marks : List (List Mark)) (n : ℕ) → counted p (marks ++ replicate n Waiting ∷ []) ≡ counted p marks + n * one (p Waiting)
added p marks n =
    let before = sum-map (count_by p) marks in
    let after = sum-map (count_by p) (marks ++ replicate n Waiting ∷ []) in
    let push = sum_by_push (count_by p) marks (replicate n Waiting) in
    let new = sum_by-replicate (λ x. cond (p x) 1 0) n Waiting in
    omega arith

-- a call that was accepted, of a kind
abbrev pub of : (Call → Bool) → Call → Answer → ℕ
of p c a = one (p c && is_accepted a)

pub counts_on : (p : Call → Bool) (c : Call) (a : Answer) (cs : List Call) (ans : List Answer) → accepted p (c ∷ cs) (a ∷ ans) ≡ of p c a + accepted p cs ans
counts_on p c a cs ans = sum_by-cons (λ (x : Call × Answer). cond (p x.0 && is_accepted x.1) 1 0) (c, a) (zip cs ans)

abbrev closed : Call → Answer → ℕ
closed c a = (of is_keep c a + of is_merge c a) + of is_strike c a

-- one call keeps the sums
record Step (s : System) (at : Standing) (c : Call) (a : Answer) (after : Standing) : Type 0 where
  sums : (n : ℕ) → length at.rows * branches s ≡ n + (waiting at + out at) → length after.rows * branches s ≡ (n + closed c a) + (waiting after + out after)
  rows : length after.rows ≡ length at.rows + of is_keep c a

-- how many of waiting and out a mark is
abbrev live : Mark → ℕ
live m = one (is_waiting m) + one (is_out m)

-- k branches fewer are waiting or out
re_marked : (s : System) (at : Standing) (b : Branch) (old m : Mark) (k : ℕ) → mark_of at b ≡ Some old → live old ≡ k + live m → (n : ℕ) → length at.rows * branches s ≡ n + (waiting at + out at) → length at.rows * branches s ≡ (n + k) + (waiting (marked at b m) + out (marked at b m))
re_marked s at b old m k is less n add =
    let w = moved is_waiting at b old m is in
    let o = moved is_out at b old m is in
    omega arith

abbrev with_row : System → Standing → Branch → Row → List Term → Standing
with_row s at b form seen = record { rows = at.rows ++ form ∷ []; marks = (marked at b Kept).marks ++ all_waiting s ∷ []; terms = seen }

row_added : (s : System) (at : Standing) (b : Branch) (form : Row) (seen : List Term) → mark_of at b ≡ Some Out → (n : ℕ) → length at.rows * branches s ≡ n + (waiting at + out at) → length (with_row s at b form seen).rows * branches s ≡ (n + 1) + (waiting (with_row s at b form seen) + out (with_row s at b form seen))
row_added s at b form seen is n add =
    let w = moved is_waiting at b Out Kept is in
    let o = moved is_out at b Out Kept is in
    let w' = added is_waiting (marked at b Kept).marks (branches s) in
    let o' = added is_out (marked at b Kept).marks (branches s) in
    let r = ap (λ x. x * branches s) (length-append at.rows (form ∷ [])) in
    omega arith

pub counted_one : (a : Answer) → is_accepted a ≡ true → one (is_accepted a) ≡ 1
counted_one a ok = ap one ok

step_on : (s : System) (limit : ℕ) (at : Standing) (c : Call) (a : Answer) (after : Standing) → WasAccepted s limit at c a after → Step s at c a after
step_on s limit at (Take b) a after h =
    subst (λ z. Step s at (Take b) a z) (sym h.3) (record { sums = re_marked s at b Waiting Out 0 h.1 refl; rows = omega arith })
step_on s limit at (GiveBack b) a after h =
    subst (λ z. Step s at (GiveBack b) a z) (sym h.3) (record { sums = re_marked s at b Out Waiting 0 h.1 refl; rows = omega arith })
step_on s limit at (Strike b) a after h =
    let one_more = counted_one a h.0 in
    subst (λ z. Step s at (Strike b) a z) (sym h.3) (record { sums = λ n add. (let new = re_marked s at b Out Struck 1 h.1.0 refl n add in omega arith); rows = omega arith })
step_on s limit at (Merge b t height) a after h =
    let one_more = counted_one a h.0 in
    subst (λ z. Step s at (Merge b t height) a z) (sym h.3) (record { sums = λ n add. (let new = re_marked s at b Out Merged 1 h.1.0 refl n add in omega arith); rows = omega arith })
step_on s limit at (Keep b height) a after h =
    let one_more = counted_one a h.0 in
    let form = h.3.0 in
    let seen = h.3.1 in
    subst (λ z. Step s at (Keep b height) a z) (sym h.3.3) (record { sums = λ n add. (let new = row_added s at b form seen h.1.0 n add in omega arith); rows = omega (arith, length-append at.rows (form ∷ [])) })
step_on s limit at Verdict a after h =
    subst (λ z. Step s at Verdict a z) (sym h.3) (record { sums = λ n add. omega arith; rows = omega arith })

pub none_of : (x : Bool) → one (x && false) ≡ 0
none_of true = refl
none_of false = refl

step_off : (s : System) (limit : ℕ) (at : Standing) (c : Call) (a : Answer) (after : Standing) → WasRefused s limit at c a after → Step s at c a after
step_off s limit at c a after h =
    let k = none_of (is_keep c) in
    let m = none_of (is_merge c) in
    let t = none_of (is_strike c) in
    subst (λ z. Step s at c a z) (sym h.3) (subst (λ z. Step s at c z at) (sym h.1) (record { sums = λ n add. omega arith; rows = omega arith }))

step : (s : System) (limit : ℕ) (at : Standing) (c : Call) (a : Answer) (after : Standing) → Answered s limit at c a after → Step s at c a after
step s limit at c a after h = by (ways s limit at c a after h)
  where
    by : WasAccepted s limit at c a after ⊎ WasRefused s limit at c a after → Step s at c a after
    by (inl w) = step_on s limit at c a after w
    by (inr w) = step_off s limit at c a after w

abbrev all_closed : List Call → List Answer → ℕ
all_closed cs ans = (accepted is_keep cs ans + accepted is_merge cs ans) + accepted is_strike cs ans

-- and so do many
record Steps (s : System) (at : Standing) (cs : List Call) (ans : List Answer) (after : Standing) : Type 0 where
  sums : (n : ℕ) → length at.rows * branches s ≡ n + (waiting at + out at) → length after.rows * branches s ≡ (n + all_closed cs ans) + (waiting after + out after)
  rows : length after.rows ≡ length at.rows + accepted is_keep cs ans

steps : (s : System) (limit : ℕ) (cs : List Call) (ans : List Answer) (at after : Standing) → Played s limit at cs ans after → Steps s at cs ans after
steps s limit [] [] at after h = subst (λ z. Steps s at [] [] z) (sym h) (record { sums = λ n add. omega arith; rows = omega arith })
steps s limit (c ∷ cs) (a ∷ ans) at after h =
    let first = step s limit at c a h.0 h.1 in
    let rest = steps s limit cs ans h.0 after h.2 in
    let k = counts_on is_keep c a cs ans in
    let m = counts_on is_merge c a cs ans in
    let t = counts_on is_strike c a cs ans in
    record { sums = λ n add. (let mid = first.sums n add in let end = rest.sums (n + closed c a) mid in omega arith); rows = (let r = first.rows in let r' = rest.rows in omega arith) }
steps s limit [] (a ∷ ans) at after h = absurd h
steps s limit (c ∷ cs) [] at after h = absurd h

pub accounting : Accounting
accounting s limit calls answers at h =
    let all = steps s limit calls answers (opening s) at h in
    let w = sum_by-replicate (λ x. cond (is_waiting x) 1 0) (branches s) Waiting in
    let o = sum_by-replicate (λ x. cond (is_out x) 1 0) (branches s) Waiting in
    let add = all.sums 0 (omega arith) in
    let rows = all.rows in
    record { branches_add = omega arith; rows_add = omega arith }
