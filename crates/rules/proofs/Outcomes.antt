-- The rules give a call one outcome, and calls come to one thing.
use Rattle.std.proofs.Common.{◌≡◌, ◌≢◌, ℕ, ◌<◌, ◌≤◌, ◌⊎◌, true, false, List, [], ◌∷◌, ◌++◌, length, Some, None, Option, sym, refl, ap, ◌∙◌, subst, inl, inr, arith}
use Rattle.std.specs.List.{slice_get}
use Rattle.std.proofs.lemmas.Option.{none-some, same_Some}
use Rattle.fault.specs.declared.TableFault.{TableFault}
use Rattle.fault.specs.declared.TableFault.TheVariants.{NoSuchBranch, NotWaiting, NotOut, HeightAboveBound, NamesExhausted, TermsExhausted, Satisfiable, NoRenaming, UnsafeForm, RowLimit}
use Rattle.sheet.specs.System.{System}
use Rattle.terms.specs.Terms.{Term, Sat}
use Rattle.banks.specs.Room.{Roomy, Crowded}
use Rattle.forms.specs.Rows.{Row}
use Rattle.forms.specs.Candidate.{candidate}
use Rattle.forms.specs.Counted.{Built, made, nameless, crowded, sides_of, terms_in, CandidateIn, FitsVector, renamed_sides, claim_terms}
use Rattle.forms.specs.Matching.{Takes}
use Rattle.forms.specs.Safety.{Safe, Unsafe}
use Rattle.forms.proofs.Counting.{not-both, counted_form}
use Rattle.rules.specs.declared.Branch.{Branch}
use Rattle.rules.specs.declared.Call.{Call}
use Rattle.rules.specs.declared.Call.TheVariants.{Take, GiveBack, Strike, Merge, Keep, Verdict}
use Rattle.rules.specs.declared.Mark.TheVariants.{Waiting}
use Rattle.rules.specs.Standing.{Standing, mark_of}
use Rattle.rules.specs.Rules.{IsOut, IsHigh, IsWithin, Continues, Builds}
use Rattle.rules.specs.Calls.{Makes, Turn, Turns}
use Rattle.rules.specs.Laws.{Outcome, OneOutcome, Alone}

-- two that took the same of two ways that exclude each other
level : {A B P Q P' Q' X : Type 0} → (A → B → ⊥) → (A × P) ⊎ (B × Q) → (A × P') ⊎ (B × Q') → (P → P' → X) → (Q → Q' → X) → X
level not (inl w) (inl w') first second = first w.1 w'.1
level not (inl w) (inr w') first second = absurd (not w.0 w'.0)
level not (inr w) (inl w') first second = absurd (not w'.0 w.0)
level not (inr w) (inr w') first second = second w.1 w'.1

-- two of one value
joined : {A : Type 0} {a b c : A} → a ≡ c → b ≡ c → a ≡ b
joined p q = p ∙ sym q

-- the candidate of a branch, or none
abbrev Next : System → Standing → Branch → Option Row → Type 0
Next s at b o = (row : Row) × (slice_get at.rows b.row ≡ Some row) × (candidate s row b.number ≡ o)

next_once : (s : System) (at : Standing) (b : Branch) (o o' : Option Row) → Next s at b o → Next s at b o' → o ≡ o'
next_once s at b o o' n n' =
    let e = same_Some n.0 n'.0 (sym n.1 ∙ n'.1) in
    sym n.2 ∙ (ap (λ r. candidate s r b.number) e ∙ n'.2)

candidate_once : (s : System) (row : Row) (b : ℕ) (seen : List Term) (a a' : Built) → CandidateIn s row b seen a → CandidateIn s row b seen a' → a ≡ a'
candidate_once s row b seen (made n t) (made n' t') h h' =
    let e = same_Some n n' (sym h.0 ∙ h'.0) in
    let e' : t ≡ t' = h.1 ∙ (ap (λ r. seen ++ terms_in r) e ∙ sym h'.1) in
    cc
candidate_once s row b seen (made n t) nameless h h' = absurd (none-some n (sym h' ∙ h.0))
candidate_once s row b seen (made n t) crowded h h' =
    absurd (not-both t h.2 (subst Crowded (ap (λ r. seen ++ terms_in r) (same_Some h'.0 n (sym h'.1 ∙ h.0)) ∙ sym h.1) h'.2))
candidate_once s row b seen nameless (made n t) h h' = absurd (none-some n (sym h ∙ h'.0))
candidate_once s row b seen nameless nameless h h' = refl
candidate_once s row b seen nameless crowded h h' = absurd (none-some h'.0 (sym h ∙ h'.1))
candidate_once s row b seen crowded (made n t) h h' =
    absurd (not-both t h'.2 (subst Crowded (ap (λ r. seen ++ terms_in r) (same_Some h.0 n (sym h.1 ∙ h'.0)) ∙ sym h'.1) h.2))
candidate_once s row b seen crowded nameless h h' = absurd (none-some h.0 (sym h' ∙ h.1))
candidate_once s row b seen crowded crowded h h' = refl

continues_once : (h : ℕ) (begun end end' : Built) → Continues h begun end → Continues h begun end' → end ≡ end'
continues_once h (made next seen) end end' c c' = (counted_form h seen next).once end end' c c'
continues_once h nameless end end' c c' = joined c c'
continues_once h crowded end end' c c' = joined c c'

built_once : (s : System) (at : Standing) (b : Branch) (h : ℕ) (end end' : Built) → Builds s at b h end → Builds s at b h end' → end ≡ end'
built_once s at b h end end' n n' =
    let e = same_Some n'.0 n.0 (sym n'.1 ∙ n.1) in
    let from = subst (λ r. CandidateIn s r b.number at.terms n'.2.0) e n'.2.1 in
    let begun = candidate_once s n.0 b.number at.terms n'.2.0 n.2.0 from n.2.1 in
    continues_once h n.2.0 end end' n.2.2 (subst (λ x. Continues h x end') begun n'.2.2)

made_form : {form form' : Row} {seen seen' : List Term} → made form seen ≡ made form' seen' → form ≡ form'
made_form e = cc

made_seen : {form form' : Row} {seen seen' : List Term} → made form seen ≡ made form' seen' → seen ≡ seen'
made_seen e = cc

within_not : (s : System) (h : ℕ) → IsHigh s h → IsWithin s h → ⊥
within_not s h high low = let e = same_Some high.0 low.0 (sym high.1 ∙ low.1) in let a = high.2 in let c = low.2 in omega arith

module _ (s : System) (limit : ℕ) (at : Standing) where
  -- take
  abbrev TakeWays : Branch → Option TableFault → Type 0
  TakeWays b o =
      ((mark_of at b ≡ None) × (o ≡ Some NoSuchBranch))
      ⊎ ((mark_of at b ≢ None) × (((mark_of at b ≢ Some Waiting) × (o ≡ Some NotWaiting)) ⊎ ((mark_of at b ≡ Some Waiting) × (o ≡ None))))

  take_ways : (b : Branch) (o : Option TableFault) → Outcome s limit at (Take b) o → TakeWays b o
  take_ways b None h = inr ((λ e. none-some Waiting (sym e ∙ h)), inr (h, refl))
  take_ways b (Some NoSuchBranch) h = inl (h, refl)
  take_ways b (Some NotWaiting) h = inr (h.0, inl (h.1, refl))
  take_ways b (Some _) h = absurd h

  take_once : (b : Branch) (o o' : Option TableFault) → TakeWays b o → TakeWays b o' → o ≡ o'
  take_once b o o' w w' = level (λ a n. n a) w w' joined (λ v v'. level (λ n a. n a) v v' joined joined)

  -- give back
  abbrev BackWays : Branch → Option TableFault → Type 0
  BackWays b o = ((IsOut at b → ⊥) × (o ≡ Some NotOut)) ⊎ (IsOut at b × (o ≡ None))

  back_ways : (b : Branch) (o : Option TableFault) → Outcome s limit at (GiveBack b) o → BackWays b o
  back_ways b None h = inr (h, refl)
  back_ways b (Some NotOut) h = inl (h, refl)
  back_ways b (Some _) h = absurd h

  back_once : (b : Branch) (o o' : Option TableFault) → BackWays b o → BackWays b o' → o ≡ o'
  back_once b o o' w w' = level (λ n a. n a) w w' joined joined

  -- strike: the candidate, its terms, its conditions
  abbrev Judged : Option Row → Option TableFault → Type 0
  Judged None o = o ≡ Some NamesExhausted
  Judged (Some next) o =
      (Crowded (at.terms ++ sides_of next.conditions) × (o ≡ Some TermsExhausted))
      ⊎ (Roomy (at.terms ++ sides_of next.conditions) × ((Sat next.conditions × (o ≡ Some Satisfiable)) ⊎ ((Sat next.conditions → ⊥) × (o ≡ None))))

  judged_once : (n : Option Row) (o o' : Option TableFault) → Judged n o → Judged n o' → o ≡ o'
  judged_once None o o' w w' = joined w w'
  judged_once (Some next) o o' w w' =
      level (λ c r. not-both (at.terms ++ sides_of next.conditions) r c) w w' joined (λ v v'. level (λ a n. n a) v v' joined joined)

  abbrev StrikeWays : Branch → Option TableFault → Type 0
  StrikeWays b o = ((IsOut at b → ⊥) × (o ≡ Some NotOut)) ⊎ (IsOut at b × ((n : Option Row) × Next s at b n × Judged n o))

  strike_ways : (b : Branch) (o : Option TableFault) → Outcome s limit at (Strike b) o → StrikeWays b o
  strike_ways b None h = inr (h.0, (let k = h.1.2.1 in (Some k.0, (h.1.0, h.1.1, k.1), inr (subst (λ cs. Roomy (at.terms ++ sides_of cs)) k.2 k.3, inr (subst (λ cs. Sat cs → ⊥) k.2 h.1.2.2, refl)))))
  strike_ways b (Some NotOut) h = inl (h, refl)
  strike_ways b (Some NamesExhausted) h = inr (h.0, (None, h.1, refl))
  strike_ways b (Some TermsExhausted) h = inr (h.0, (Some h.1.2.0, (h.1.0, h.1.1, h.1.2.1), inl (h.1.2.2, refl)))
  strike_ways b (Some Satisfiable) h = inr (h.0, (let k = h.1.2.1 in (Some k.0, (h.1.0, h.1.1, k.1), inr (subst (λ cs. Roomy (at.terms ++ sides_of cs)) k.2 k.3, inl (subst Sat k.2 h.1.2.2, refl)))))
  strike_ways b (Some _) h = absurd h

  strike_once : (b : Branch) (o o' : Option TableFault) → StrikeWays b o → StrikeWays b o' → o ≡ o'
  strike_once b o o' w w' =
      level (λ n a. n a) w w' joined (λ v v'. judged_once v.0 o o' v.2 (subst (λ n. Judged n o') (next_once s at b v'.0 v.0 v'.1 v.1) v'.2))

  -- merge
  abbrev Folded : Row → Built → Option TableFault → Type 0
  Folded older nameless o = o ≡ Some NamesExhausted
  Folded older crowded o = o ≡ Some TermsExhausted
  Folded older (made form seen) o =
      (((to : ℕ → ℕ) × FitsVector to older form × Crowded (seen ++ renamed_sides to older)) × (o ≡ Some TermsExhausted))
      ⊎ (((to : ℕ → ℕ) → FitsVector to older form → Roomy (seen ++ renamed_sides to older)) × (((Takes older form → ⊥) × (o ≡ Some NoRenaming)) ⊎ (Takes older form × (o ≡ None))))

  folded_once : (older : Row) (end : Built) (o o' : Option TableFault) → Folded older end o → Folded older end o' → o ≡ o'
  folded_once older nameless o o' w w' = joined w w'
  folded_once older crowded o o' w w' = joined w w'
  folded_once older (made form seen) o o' w w' =
      level (λ c r. not-both (seen ++ renamed_sides c.0 older) (r c.0 c.1) c.2) w w' joined (λ v v'. level (λ n a. n a) v v' joined joined)

  abbrev MergeWays : Branch → ℕ → ℕ → Option TableFault → Type 0
  MergeWays b t h o =
      ((IsOut at b → ⊥) × (o ≡ Some NotOut))
      ⊎ (IsOut at b × (((slice_get at.rows t ≡ None) × (o ≡ Some NoSuchBranch))
      ⊎ ((slice_get at.rows t ≢ None) × ((IsHigh s h × (o ≡ Some HeightAboveBound))
      ⊎ (IsWithin s h × ((older : Row) × (slice_get at.rows t ≡ Some older) × ((end : Built) × Builds s at b h end × Folded older end o)))))))

  -- past the branch, the target and the height
  begun : (b : Branch) (t h : ℕ) (o : Option TableFault) (older : Row) → IsOut at b → slice_get at.rows t ≡ Some older → IsWithin s h → (end : Built) → Builds s at b h end → Folded older end o → MergeWays b t h o
  begun b t h o older is_out is low end built rest = inr (is_out, inr ((λ e. none-some older (sym e ∙ is)), inr (low, (older, is, (end, built, rest)))))

  merge_ways : (b : Branch) (t h : ℕ) (o : Option TableFault) → Outcome s limit at (Merge b t h) o → MergeWays b t h o
  merge_ways b t h None w =
      let m = w.1 in begun b t h None m.older w.0 m.is_row m.within (made m.form m.seen) m.built (inr (m.roomy, inr (m.takes, refl)))
  merge_ways b t h (Some NotOut) w = inl (w, refl)
  merge_ways b t h (Some NoSuchBranch) w = inr (w.0, inl (w.1, refl))
  merge_ways b t h (Some HeightAboveBound) w = inr (w.0, inr (w.1, inl (w.2, refl)))
  merge_ways b t h (Some NamesExhausted) w = begun b t h (Some NamesExhausted) w.0 w.1.0 w.1.1 w.1.2 nameless w.2 refl
  merge_ways b t h (Some TermsExhausted) w = by w.2
    where
      by : Builds s at b h crowded ⊎ ((form : Row) × (seen : List Term) × Builds s at b h (made form seen) × ((to : ℕ → ℕ) × FitsVector to w.0 form × Crowded (seen ++ renamed_sides to w.0))) → MergeWays b t h (Some TermsExhausted)
      by (inl c) = begun b t h (Some TermsExhausted) w.0 w.1.0 w.1.1 w.1.2 crowded c refl
      by (inr c) = begun b t h (Some TermsExhausted) w.0 w.1.0 w.1.1 w.1.2 (made c.0 c.1) c.2 (inl (c.3, refl))
  merge_ways b t h (Some NoRenaming) w =
      begun b t h (Some NoRenaming) w.0 w.1.0 w.1.1 w.1.2 (made w.2.0 w.2.1) w.2.2 (inr (w.2.3, inl (w.2.4, refl)))
  merge_ways b t h (Some _) w = absurd w

  merge_once : (b : Branch) (t h : ℕ) (o o' : Option TableFault) → MergeWays b t h o → MergeWays b t h o' → o ≡ o'
  merge_once b t h o o' w w' =
      level (λ n a. n a) w w' joined
      (λ v v'. level (λ a n. n a) v v' joined
      (λ u u'. level (within_not s h) u u' joined
      (λ x x'. folded_once x.0 x.2.0 o o' x.2.2
      (subst (λ r. Folded r x.2.0 o') (same_Some x'.0 x.0 (sym x'.1 ∙ x.1)) (subst (λ end. Folded x'.0 end o') (built_once s at b h x'.2.0 x.2.0 x'.2.1 x.2.1) x'.2.2)))))

  -- keep
  abbrev Tried : Built → Option TableFault → Type 0
  Tried nameless o = o ≡ Some NamesExhausted
  Tried crowded o = o ≡ Some TermsExhausted
  Tried (made form seen) o =
      (Crowded (seen ++ claim_terms s form) × (o ≡ Some TermsExhausted))
      ⊎ (Roomy (seen ++ claim_terms s form) × ((Unsafe s form × (o ≡ Some UnsafeForm))
      ⊎ (Safe s form × (((limit ≤ length at.rows) × (o ≡ Some RowLimit)) ⊎ ((length at.rows < limit) × (o ≡ None))))))

  unsafe_not : (form : Row) → Unsafe s form → Safe s form → ⊥
  unsafe_not form u safe = let e : true ≡ false = sym (safe u.meaning u.configuration u.covers) ∙ u.broken in let z : ◌≡◌ {A = ℕ} 0 1 = cc in absurd (omega arith)

  full_not : limit ≤ length at.rows → length at.rows < limit → ⊥
  full_not a c = omega arith

  tried_once : (end : Built) (o o' : Option TableFault) → Tried end o → Tried end o' → o ≡ o'
  tried_once nameless o o' w w' = joined w w'
  tried_once crowded o o' w w' = joined w w'
  tried_once (made form seen) o o' w w' =
      level (λ c r. not-both (seen ++ claim_terms s form) r c) w w' joined
      (λ v v'. level (unsafe_not form) v v' joined
      (λ u u'. level full_not u u' joined joined))

  abbrev KeepWays : Branch → ℕ → Option TableFault → Type 0
  KeepWays b h o =
      ((IsOut at b → ⊥) × (o ≡ Some NotOut))
      ⊎ (IsOut at b × ((IsHigh s h × (o ≡ Some HeightAboveBound))
      ⊎ (IsWithin s h × ((end : Built) × Builds s at b h end × Tried end o))))

  keep_ways : (b : Branch) (h : ℕ) (o : Option TableFault) → Outcome s limit at (Keep b h) o → KeepWays b h o
  keep_ways b h None w = let k = w.1.2 in inr (w.0, inr (k.within, (made w.1.0 w.1.1, k.built, inr (k.roomy, inr (k.safe, inr (k.free, refl))))))
  keep_ways b h (Some NotOut) w = inl (w, refl)
  keep_ways b h (Some HeightAboveBound) w = inr (w.0, inl (w.1, refl))
  keep_ways b h (Some NamesExhausted) w = inr (w.0, inr (w.1, (nameless, w.2, refl)))
  keep_ways b h (Some TermsExhausted) w = by w.2
    where
      by : Builds s at b h crowded ⊎ ((form : Row) × (seen : List Term) × Builds s at b h (made form seen) × Crowded (seen ++ claim_terms s form)) → KeepWays b h (Some TermsExhausted)
      by (inl c) = inr (w.0, inr (w.1, (crowded, c, refl)))
      by (inr c) = inr (w.0, inr (w.1, (made c.0 c.1, c.2, inl (c.3, refl))))
  keep_ways b h (Some UnsafeForm) w = inr (w.0, inr (w.1, (made w.2.0 w.2.1, w.2.2, inr (w.2.3, inl (w.2.4, refl)))))
  keep_ways b h (Some RowLimit) w = inr (w.0, inr (w.1, (made w.2.0 w.2.1, w.2.2, inr (w.2.3, inr (w.2.4, inl (w.2.5, refl))))))
  keep_ways b h (Some _) w = absurd w

  keep_once : (b : Branch) (h : ℕ) (o o' : Option TableFault) → KeepWays b h o → KeepWays b h o' → o ≡ o'
  keep_once b h o o' w w' =
      level (λ n a. n a) w w' joined
      (λ v v'. level (within_not s h) v v' joined
      (λ x x'. tried_once x.0 o o' x.2 (subst (λ end. Tried end o') (built_once s at b h x'.0 x.0 x'.1 x.1) x'.2)))

  verdict_borne : (o : Option TableFault) → Outcome s limit at Verdict o → o ≡ None
  verdict_borne None w = refl
  verdict_borne (Some e) w = absurd w

pub one_outcome : OneOutcome
one_outcome s limit at (Take b) o o' h h' = take_once s limit at b o o' (take_ways s limit at b o h) (take_ways s limit at b o' h')
one_outcome s limit at (GiveBack b) o o' h h' = back_once s limit at b o o' (back_ways s limit at b o h) (back_ways s limit at b o' h')
one_outcome s limit at (Strike b) o o' h h' = strike_once s limit at b o o' (strike_ways s limit at b o h) (strike_ways s limit at b o' h')
one_outcome s limit at (Merge b t height) o o' h h' = merge_once s limit at b t height o o' (merge_ways s limit at b t height o h) (merge_ways s limit at b t height o' h')
one_outcome s limit at (Keep b height) o o' h h' = keep_once s limit at b height o o' (keep_ways s limit at b height o h) (keep_ways s limit at b height o' h')
one_outcome s limit at Verdict o o' h h' = joined (verdict_borne s limit at o h) (verdict_borne s limit at o' h')

makes_once : (s : System) (limit : ℕ) (at : Standing) (call : Call) (one other : Standing) → Makes s limit at call one → Makes s limit at call other → one ≡ other
makes_once s limit at (Take b) one other m m' = joined m m'
makes_once s limit at (GiveBack b) one other m m' = joined m m'
makes_once s limit at (Strike b) one other m m' = joined m m'
makes_once s limit at (Merge b t h) one other m m' = joined m m'
makes_once s limit at (Keep b h) one other m m' =
    let e = built_once s at b h (made m.0 m.1) (made m'.0 m'.1) m.2.built m'.2.built in
    let form = made_form e in
    let seen = made_seen e in
    let a = m.3 in
    let c = m'.3 in
    cc
makes_once s limit at Verdict one other m m' = joined m m'

pub turn_once : (s : System) (limit : ℕ) (at : Standing) (call : Call) (one other : Standing) → Turn s limit at call one → Turn s limit at call other → one ≡ other
turn_once s limit at call one other (inl t) (inl t') = makes_once s limit at call one other t.1 t'.1
turn_once s limit at call one other (inl t) (inr t') = absurd (none-some t'.0.0 (one_outcome s limit at call None (Some t'.0.0) t.0 t'.0.1))
turn_once s limit at call one other (inr t) (inl t') = absurd (none-some t.0.0 (one_outcome s limit at call None (Some t.0.0) t'.0 t.0.1))
turn_once s limit at call one other (inr t) (inr t') = joined t.1 t'.1

pub alone : Alone
alone s limit [] from one other h h' = joined h h'
alone s limit (c ∷ cs) from one other h h' =
    alone s limit cs h.0 one other h.2 (subst (λ mid. Turns s limit mid cs other) (turn_once s limit from c h'.0 h.0 h'.1 h.1) h'.2)
