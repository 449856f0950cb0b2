-- A call that no fault refuses is borne.
use Rattle.std.proofs.Common.{◌≡◌, ℕ, zero, suc, ◌<◌, ◌≤◌, ◌⊎◌, true, false, List, [], ◌∷◌, ◌++◌, length, get_or, set, Some, None, Option, sym, refl, ap, ◌∙◌, subst, inl, inr, arith}
use Rattle.std.specs.List.{AllByRecursion as All, slice_get}
use Rattle.std.proofs.Math.ListN.{length-set}
use Rattle.std.proofs.lemmas.Bool.{cases_Bool, cases_lt}
use Rattle.std.proofs.lemmas.List.{length-append}
use Rattle.std.proofs.lemmas.Option.{none-some, same_Some, slice_get_within, slice_get_cases}
use Rattle.fault.specs.declared.TableFault.{TableFault}
use Rattle.fault.specs.declared.TableFault.TheVariants.{NoSuchBranch, NotWaiting, NotOut, HeightAboveBound, NamesExhausted, TermsExhausted, Satisfiable, NoRenaming, UnsafeForm, RowLimit}
use Rattle.sheet.specs.Runs.{invariant_holds}
use Rattle.sheet.specs.System.{System}
use Rattle.terms.specs.Terms.{Term}
use Rattle.banks.specs.Room.{Roomy, Crowded}
use Rattle.forms.specs.Rows.{Row}
use Rattle.forms.specs.Candidate.{or_none, candidate}
use Rattle.forms.specs.Counted.{Built, made, nameless, crowded, sides_of, FitsVector, renamed_sides, claim_terms}
use Rattle.forms.specs.Safety.{Safe}
use Rattle.forms.proofs.Counting.{counted_form}
use Rattle.forms.proofs.Shaping.{one_form}
use Rattle.folding.specs.Matched.{Closed}
use Rattle.rules.specs.declared.Branch.{Branch}
use Rattle.rules.specs.declared.Call.{Call}
use Rattle.rules.specs.declared.Call.TheVariants.{Take, GiveBack, Strike, Merge, Keep, Verdict}
use Rattle.rules.specs.declared.Mark.{Mark}
use Rattle.rules.specs.declared.Mark.TheVariants.{Waiting, Out, Struck, Merged, Kept}
use Rattle.rules.specs.Standing.{Standing, all_waiting, opening, mark_of, marks_with, marked, is_waiting, is_out}
use Rattle.rules.specs.Rules.{IsOut, IsHigh, IsWithin, Continues, Builds, Strikes}
use Rattle.rules.specs.Calls.{Borne, RefusedBy, Makes, Turn, Turns}
use Rattle.rules.specs.Laws.{HasBound, Bears}
use Rattle.rules.proofs.Outcomes.{one_outcome}
use Rattle.rules.proofs.Rooms.{all_append, room, built}
use Rattle.rules.proofs.Settling.{settled}

-- each list of marks has its row
abbrev pub Paired : Standing → Type 0
Paired at = length at.marks ≡ length at.rows

pub marks_long : (marks : List (List Mark)) (b : Branch) (m : Mark) (o : Option (List Mark)) → length (marks_with marks b m o) ≡ length marks
marks_long marks b m None = refl
marks_long marks b m (Some ms) = length-set marks b.row (set ms b.number m)

paired_marked : (at : Standing) (b : Branch) (m : Mark) (after : Standing) → Paired at → after ≡ marked at b m → Paired after
paired_marked at b m after p e = subst Paired (sym e) (marks_long at.marks b m (slice_get at.marks b.row) ∙ p)

paired_makes : (s : System) (limit : ℕ) (at : Standing) (call : Call) (after : Standing) → Paired at → Makes s limit at call after → Paired after
paired_makes s limit at (Take b) after p m = paired_marked at b Out after p m
paired_makes s limit at (GiveBack b) after p m = paired_marked at b Waiting after p m
paired_makes s limit at (Strike b) after p m = paired_marked at b Struck after p m
paired_makes s limit at (Merge b t h) after p m = paired_marked at b Merged after p m
paired_makes s limit at (Keep b h) after p m =
    let marks = length-append (marked at b Kept).marks (all_waiting s ∷ []) in
    let long = marks_long at.marks b Kept (slice_get at.marks b.row) in
    let rows = length-append at.rows (m.0 ∷ []) in
    subst Paired (sym m.3) (omega arith)
paired_makes s limit at Verdict after p m = subst Paired (sym m) p

pub paired_turn : (s : System) (limit : ℕ) (at : Standing) (call : Call) (after : Standing) → Paired at → Turn s limit at call after → Paired after
paired_turn s limit at call after p (inl t) = paired_makes s limit at call after p t.1
paired_turn s limit at call after p (inr t) = subst Paired (sym t.1) p

paired : (s : System) (limit : ℕ) (calls : List Call) (from at : Standing) → Paired from → Turns s limit from calls at → Paired at
paired s limit [] from at p t = subst Paired (sym t) p
paired s limit (c ∷ cs) from at p t = paired s limit cs t.0 at (paired_turn s limit from c t.0 p t.1) t.2

-- each row's conditions name only what stands in its vector
abbrev AllClosed : Standing → Type 0
AllClosed at = All Closed at.rows

closed_at : (rows : List Row) (k : ℕ) (row : Row) → All Closed rows → slice_get rows k ≡ Some row → Closed row
closed_at [] k row all is = absurd (none-some row is)
closed_at (r ∷ rs) zero row all is = subst Closed (same_Some r row is) all.0
closed_at (r ∷ rs) (suc k) row all is = closed_at rs k row all.1 is

nameless_not : (form : Row) (seen : List Term) → made form seen ≡ nameless → ⊥
nameless_not form seen e = let z : ◌≡◌ {A = ℕ} 0 1 = cc in absurd (omega arith)

crowded_not : (form : Row) (seen : List Term) → made form seen ≡ crowded → ⊥
crowded_not form seen e = let z : ◌≡◌ {A = ℕ} 0 1 = cc in absurd (omega arith)

closed_form : (h : ℕ) (begun : Built) (form : Row) (seen : List Term) → Continues h begun (made form seen) → Closed form
closed_form h (made next seen') form seen c = ((one_form h next).formed form ((counted_form h seen' next).made form seen c)).named
closed_form h nameless form seen c = absurd (nameless_not form seen c)
closed_form h crowded form seen c = absurd (crowded_not form seen c)

closed_makes : (s : System) (limit : ℕ) (at : Standing) (call : Call) (after : Standing) → AllClosed at → Makes s limit at call after → AllClosed after
closed_makes s limit at (Take b) after p m = subst AllClosed (sym m) p
closed_makes s limit at (GiveBack b) after p m = subst AllClosed (sym m) p
closed_makes s limit at (Strike b) after p m = subst AllClosed (sym m) p
closed_makes s limit at (Merge b t h) after p m = subst AllClosed (sym m) p
closed_makes s limit at (Keep b h) after p m =
    let built' = m.2.built in
    subst AllClosed (sym m.3) (all_append Closed at.rows (m.0 ∷ []) p (closed_form h built'.2.0 m.0 m.1 built'.2.2, tt))
closed_makes s limit at Verdict after p m = subst AllClosed (sym m) p

closed_turn : (s : System) (limit : ℕ) (at : Standing) (call : Call) (after : Standing) → AllClosed at → Turn s limit at call after → AllClosed after
closed_turn s limit at call after p (inl t) = closed_makes s limit at call after p t.1
closed_turn s limit at call after p (inr t) = subst AllClosed (sym t.1) p

closed : (s : System) (limit : ℕ) (calls : List Call) (from at : Standing) → AllClosed from → Turns s limit from calls at → AllClosed at
closed s limit [] from at p t = subst AllClosed (sym t) p
closed s limit (c ∷ cs) from at p t = closed s limit cs t.0 at (closed_turn s limit from c t.0 p t.1) t.2

false_true : false ≡ true → ⊥
false_true e = let z : ◌≡◌ {A = ℕ} 0 1 = cc in absurd (omega arith)

out_or_not : (m : Mark) → (m ≡ Out) ⊎ (m ≡ Out → ⊥)
out_or_not Waiting = inr (λ e. false_true (ap is_out e))
out_or_not Out = inl refl
out_or_not Struck = inr (λ e. false_true (ap is_out e))
out_or_not Merged = inr (λ e. false_true (ap is_out e))
out_or_not Kept = inr (λ e. false_true (ap is_out e))

waiting_or_not : (m : Mark) → (m ≡ Waiting) ⊎ (m ≡ Waiting → ⊥)
waiting_or_not Waiting = inl refl
waiting_or_not Out = inr (λ e. false_true (ap is_waiting e))
waiting_or_not Struck = inr (λ e. false_true (ap is_waiting e))
waiting_or_not Merged = inr (λ e. false_true (ap is_waiting e))
waiting_or_not Kept = inr (λ e. false_true (ap is_waiting e))

module _ (s : System) (limit : ℕ) (at : Standing) where
  abbrev NotRefused : Call → Type 0
  NotRefused call = (e : TableFault) → RefusedBy s limit at call e → ⊥

  is_out_or_not : (b : Branch) → IsOut at b ⊎ (IsOut at b → ⊥)
  is_out_or_not b = by (mark_of at b) refl
    where
      by : (o : Option Mark) → mark_of at b ≡ o → IsOut at b ⊎ (IsOut at b → ⊥)
      by None e = inr (λ h. none-some Out (sym e ∙ h))
      by (Some m) e = told (out_or_not m)
        where
          told : (m ≡ Out) ⊎ (m ≡ Out → ⊥) → IsOut at b ⊎ (IsOut at b → ⊥)
          told (inl is) = inl (e ∙ ap Some is)
          told (inr not) = inr (λ h. not (same_Some m Out (sym e ∙ h)))

  -- a call that wants its branch out
  out_of : (b : Branch) → ((IsOut at b → ⊥) → ⊥) → IsOut at b
  out_of b none = by (is_out_or_not b)
    where
      by : IsOut at b ⊎ (IsOut at b → ⊥) → IsOut at b
      by (inl h) = h
      by (inr not) = absurd (none not)

  take_borne : (b : Branch) → NotRefused (Take b) → Borne s limit at (Take b)
  take_borne b none = by (mark_of at b) refl
    where
      by : (o : Option Mark) → mark_of at b ≡ o → mark_of at b ≡ Some Waiting
      by None e = absurd (none NoSuchBranch e)
      by (Some m) e = told (waiting_or_not m)
        where
          told : (m ≡ Waiting) ⊎ (m ≡ Waiting → ⊥) → mark_of at b ≡ Some Waiting
          told (inl is) = e ∙ ap Some is
          told (inr not) = absurd (none NotWaiting ((λ h. none-some m (sym h ∙ e)), (λ h. not (same_Some m Waiting (sym e ∙ h)))))

  -- the row of a branch that is out
  row_of : Paired at → (b : Branch) → IsOut at b → (row : Row) × (slice_get at.rows b.row ≡ Some row)
  row_of p b is = by (slice_get at.marks b.row) refl is
    where
      found : b.row < length at.rows → (((x : Row) × (b.row < length at.rows) × (slice_get at.rows b.row ≡ Some x) × (get_or at.rows b.row x ≡ x)) ⊎ ((length at.rows ≤ b.row) × (slice_get at.rows b.row ≡ None))) → (row : Row) × (slice_get at.rows b.row ≡ Some row)
      found lt (inl w) = (w.0, w.2)
      found lt (inr w) = let past = w.0 in absurd (omega arith)

      by : (o : Option (List Mark)) → slice_get at.marks b.row ≡ o → or_none o (λ ms. slice_get ms b.number) ≡ Some Out → (row : Row) × (slice_get at.rows b.row ≡ Some row)
      by None e h = absurd (none-some Out h)
      by (Some ms) e h = let lt = slice_get_within at.marks b.row ms e in found (omega arith) (slice_get_cases at.rows b.row).1

  strike_borne : Paired at → (b : Branch) → NotRefused (Strike b) → Borne s limit at (Strike b)
  strike_borne p b none = from (out_of b (none NotOut))
    where
      from : IsOut at b → IsOut at b × Strikes s at b
      from is = by (row_of p b is)
        where
          by : (row : Row) × (slice_get at.rows b.row ≡ Some row) → IsOut at b × Strikes s at b
          by (row, at_row) = next (candidate s row b.number) refl
            where
              next : (o : Option Row) → candidate s row b.number ≡ o → IsOut at b × Strikes s at b
              next None e = absurd (none NamesExhausted (is, (row, at_row, e)))
              next (Some n) e = told (room (at.terms ++ sides_of n.conditions))
                where
                  told : Roomy (at.terms ++ sides_of n.conditions) ⊎ Crowded (at.terms ++ sides_of n.conditions) → IsOut at b × Strikes s at b
                  told (inl few) = (is, (row, at_row, (n.conditions, (n, e, refl, few), λ sat. none Satisfiable (is, (row, at_row, (n.conditions, (n, e, refl, few), sat))))))
                  told (inr many) = absurd (none TermsExhausted (is, (row, at_row, (n, e, many))))

  -- the height, against the sheet's bound
  within : (h : ℕ) → HasBound s → (IsHigh s h → ⊥) → IsWithin s h
  within h bound none = by (cases_lt bound.0 h)
    where
      by : (bound.0 < h) ⊎ (h ≤ bound.0) → IsWithin s h
      by (inl high) = absurd (none (bound.0, bound.1, high))
      by (inr low) = (bound.0, bound.1, low)

  -- what building comes to
  builds : Paired at → (b : Branch) → IsOut at b → (h : ℕ) → (end : Built) × Builds s at b h end
  builds p b is h = let r = row_of p b is in let w = built s r.0 b.number at.terms h in (w.0, (r.0, r.1, w.1))

  keep_borne : HasBound s → Paired at → (b : Branch) (h : ℕ) → NotRefused (Keep b h) → Borne s limit at (Keep b h)
  keep_borne bound p b h none = from (out_of b (none NotOut))
    where
      from : IsOut at b → Borne s limit at (Keep b h)
      from is = by (within h bound (λ high. none HeightAboveBound (is, high))) (builds p b is h).0 (builds p b is h).1
        where
          by : IsWithin s h → (end : Built) → Builds s at b h end → Borne s limit at (Keep b h)
          by low nameless built' = absurd (none NamesExhausted (is, low, built'))
          by low crowded built' = absurd (none TermsExhausted (is, low, inl built'))
          by low (made form seen) built' = told (room (seen ++ claim_terms s form))
            where
              told : Roomy (seen ++ claim_terms s form) ⊎ Crowded (seen ++ claim_terms s form) → Borne s limit at (Keep b h)
              told (inr many) = absurd (none TermsExhausted (is, low, inr (form, seen, built', many)))
              told (inl few) = free (cases_lt (length at.rows) limit)
                where
                  safe : Safe s form
                  safe m c covers = holds (cases_Bool (invariant_holds m s c))
                    where
                      holds : (invariant_holds m s c ≡ true) ⊎ (invariant_holds m s c ≡ false) → invariant_holds m s c ≡ true
                      holds (inl yes') = yes'
                      holds (inr no') = absurd (none UnsafeForm (is, low, (form, seen, built', few, record { meaning = m; configuration = c; covers = covers; broken = no' })))

                  free : (length at.rows < limit) ⊎ (limit ≤ length at.rows) → Borne s limit at (Keep b h)
                  free (inl less) = (is, (form, seen, record { within = low; built = built'; roomy = few; safe = safe; free = less }))
                  free (inr full) = absurd (none RowLimit (is, low, (form, seen, built', few, safe, full)))

  merge_borne : HasBound s → Paired at → (b : Branch) (t h : ℕ) → AllClosed at → NotRefused (Merge b t h) → Borne s limit at (Merge b t h)
  merge_borne bound p b t h all none = from (out_of b (none NotOut))
    where
      from : IsOut at b → Borne s limit at (Merge b t h)
      from is = target (slice_get at.rows t) refl
        where
          target : (o : Option Row) → slice_get at.rows t ≡ o → Borne s limit at (Merge b t h)
          target None e = absurd (none NoSuchBranch (is, e))
          target (Some older) e = by (within h bound (λ high. none HeightAboveBound (is, (λ n. none-some older (sym n ∙ e)), high))) (builds p b is h).0 (builds p b is h).1
            where
              by : IsWithin s h → (end : Built) → Builds s at b h end → Borne s limit at (Merge b t h)
              by low nameless built' = absurd (none NamesExhausted (older, (is, e, low), built'))
              by low crowded built' = absurd (none TermsExhausted (older, (is, e, low), inl built'))
              by low (made form seen) built' =
                  (is, record { older = older; is_row = e; within = low; form = form; seen = seen; built = built'; roomy = roomy; takes = settled older form (closed_at at.rows t older all e) (λ not. none NoRenaming (older, (is, e, low), (form, seen, built', roomy, not))) })
                where
                  roomy : (to : ℕ → ℕ) → FitsVector to older form → Roomy (seen ++ renamed_sides to older)
                  roomy to fits = told (room (seen ++ renamed_sides to older))
                    where
                      told : Roomy (seen ++ renamed_sides to older) ⊎ Crowded (seen ++ renamed_sides to older) → Roomy (seen ++ renamed_sides to older)
                      told (inl few) = few
                      told (inr many) = absurd (none TermsExhausted (older, (is, e, low), inr (form, seen, built', (to, fits, many))))

  borne : HasBound s → Paired at → AllClosed at → (call : Call) → NotRefused call → Borne s limit at call
  borne bound p all (Take b) none = take_borne b none
  borne bound p all (GiveBack b) none = out_of b (none NotOut)
  borne bound p all (Strike b) none = strike_borne p b none
  borne bound p all (Merge b t h) none = merge_borne bound p b t h all none
  borne bound p all (Keep b h) none = keep_borne bound p b h none
  borne bound p all Verdict none = tt

pub bears : Bears
bears s limit bound calls at comes call =
    ((λ yes' e refused. none-some e (one_outcome s limit at call None (Some e) yes' refused)), (λ none. borne s limit at bound (paired s limit calls (opening s) at refl comes) (closed s limit calls (opening s) at (tt, tt) comes) call none))
