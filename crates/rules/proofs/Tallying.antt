-- Each accepted keep, merge and strike leaves a mark of its name, which stays.
use Rattle.std.proofs.Common.{◌≡◌, ℕ, ◌+◌, ◌*◌, ◌⊎◌, Bool, cond, List, [], ◌∷◌, sym, refl, subst, inl, inr, arith}
use Rattle.std.specs.List.{count_by}
use Rattle.std.proofs.lemmas.List.Folds.{sum_by-replicate}
use Rattle.std.proofs.lemmas.List.Sums.{sum-map}
use Rattle.sheet.specs.System.{System}
use Rattle.rules.specs.declared.Answer.{Answer}
use Rattle.rules.specs.declared.Call.{Call}
use Rattle.rules.specs.declared.Call.TheVariants.{Take, GiveBack, Strike, Merge, Keep, Verdict}
use Rattle.rules.specs.declared.Mark.{Mark}
use Rattle.rules.specs.declared.Mark.TheVariants.{Waiting, Out, Struck, Merged, Kept}
use Rattle.rules.specs.Laws.{Played, Counting}
use Rattle.rules.specs.Promises.{Answered, accepted, is_keep, is_merge, is_strike}
use Rattle.rules.specs.Standing.{Standing, branches, marked, opening, is_kept, is_merged, is_struck}
use Rattle.rules.proofs.Accounts.{WasAccepted, WasRefused, ways, counted, one, of, moved, added, counted_one, counts_on, none_of}

-- one call adds its own mark and no other
record Tallied (at : Standing) (c : Call) (a : Answer) (after : Standing) : Type 0 where
  kept : counted is_kept after.marks ≡ counted is_kept at.marks + of is_keep c a
  merged : counted is_merged after.marks ≡ counted is_merged at.marks + of is_merge c a
  struck : counted is_struck after.marks ≡ counted is_struck at.marks + of is_strike c a

tallied_on : (s : System) (limit : ℕ) (at : Standing) (c : Call) (a : Answer) (after : Standing) → WasAccepted s limit at c a after → Tallied at c a after
tallied_on s limit at (Take b) a after h =
    let k = moved is_kept at b Waiting Out h.1 in
    let m = moved is_merged at b Waiting Out h.1 in
    let t = moved is_struck at b Waiting Out h.1 in
    subst (λ z. Tallied at (Take b) a z) (sym h.3) (record { kept = omega (arith, k); merged = omega (arith, m); struck = omega (arith, t) })
tallied_on s limit at (GiveBack b) a after h =
    let k = moved is_kept at b Out Waiting h.1 in
    let m = moved is_merged at b Out Waiting h.1 in
    let t = moved is_struck at b Out Waiting h.1 in
    subst (λ z. Tallied at (GiveBack b) a z) (sym h.3) (record { kept = omega (arith, k); merged = omega (arith, m); struck = omega (arith, t) })
tallied_on s limit at (Strike b) a after h =
    let more = counted_one a h.0 in
    let k = moved is_kept at b Out Struck h.1.0 in
    let m = moved is_merged at b Out Struck h.1.0 in
    let t = moved is_struck at b Out Struck h.1.0 in
    subst (λ z. Tallied at (Strike b) a z) (sym h.3) (record { kept = omega (arith, k); merged = omega (arith, m); struck = omega (arith, t, more) })
tallied_on s limit at (Merge b target height) a after h =
    let more = counted_one a h.0 in
    let k = moved is_kept at b Out Merged h.1.0 in
    let m = moved is_merged at b Out Merged h.1.0 in
    let t = moved is_struck at b Out Merged h.1.0 in
    subst (λ z. Tallied at (Merge b target height) a z) (sym h.3) (record { kept = omega (arith, k); merged = omega (arith, m, more); struck = omega (arith, t) })
tallied_on s limit at (Keep b height) a after h =
    let more = counted_one a h.0 in
    let k = moved is_kept at b Out Kept h.1.0 in
    let m = moved is_merged at b Out Kept h.1.0 in
    let t = moved is_struck at b Out Kept h.1.0 in
    let k' = added is_kept (marked at b Kept).marks (branches s) in
    let m' = added is_merged (marked at b Kept).marks (branches s) in
    let t' = added is_struck (marked at b Kept).marks (branches s) in
    subst (λ z. Tallied at (Keep b height) a z) (sym h.3.3) (record { kept = omega (arith, k, k', more); merged = omega (arith, m, m'); struck = omega (arith, t, t') })
tallied_on s limit at Verdict a after h =
    subst (λ z. Tallied at Verdict a z) (sym h.3) (record { kept = omega arith; merged = omega arith; struck = omega arith })

tallied_off : (s : System) (limit : ℕ) (at : Standing) (c : Call) (a : Answer) (after : Standing) → WasRefused s limit at c a after → Tallied at c a after
tallied_off s limit at c a after h =
    let k = none_of (is_keep c) in
    let m = none_of (is_merge c) in
    let t = none_of (is_strike c) in
    subst (λ z. Tallied at c a z) (sym h.3) (subst (λ z. Tallied at c z at) (sym h.1) (record { kept = omega (arith, k); merged = omega (arith, m); struck = omega (arith, t) }))

tallied : (s : System) (limit : ℕ) (at : Standing) (c : Call) (a : Answer) (after : Standing) → Answered s limit at c a after → Tallied at c a after
tallied s limit at c a after h = by (ways s limit at c a after h)
  where
    by : WasAccepted s limit at c a after ⊎ WasRefused s limit at c a after → Tallied at c a after
    by (inl w) = tallied_on s limit at c a after w
    by (inr w) = tallied_off s limit at c a after w

-- and so do many
record AllTallied (at : Standing) (cs : List Call) (ans : List Answer) (after : Standing) : Type 0 where
  kept : counted is_kept after.marks ≡ counted is_kept at.marks + accepted is_keep cs ans
  merged : counted is_merged after.marks ≡ counted is_merged at.marks + accepted is_merge cs ans
  struck : counted is_struck after.marks ≡ counted is_struck at.marks + accepted is_strike cs ans

all_tallied : (s : System) (limit : ℕ) (cs : List Call) (ans : List Answer) (at after : Standing) → Played s limit at cs ans after → AllTallied at cs ans after
all_tallied s limit [] [] at after h = subst (λ z. AllTallied at [] [] z) (sym h) (record { kept = omega arith; merged = omega arith; struck = omega arith })
all_tallied s limit (c ∷ cs) (a ∷ ans) at after h =
    let first = tallied s limit at c a h.0 h.1 in
    let rest = all_tallied s limit cs ans h.0 after h.2 in
    let k = counts_on is_keep c a cs ans in
    let m = counts_on is_merge c a cs ans in
    let t = counts_on is_strike c a cs ans in
    record { kept = omega (arith, first.kept, rest.kept, k); merged = omega (arith, first.merged, rest.merged, m); struck = omega (arith, first.struck, rest.struck, t) }
all_tallied s limit [] (a ∷ ans) at after h = absurd h
all_tallied s limit (c ∷ cs) [] at after h = absurd h

pub counting : Counting
counting s limit calls answers at h =
    let all = all_tallied s limit calls answers (opening s) at h in
    let k = added is_kept [] (branches s) in
    let m = added is_merged [] (branches s) in
    let t = added is_struck [] (branches s) in
    record { kept = omega (arith, all.kept, k); merged = omega (arith, all.merged, m); struck = omega (arith, all.struck, t) }
