-- Working through: its calls are answered by the rules, and there is one list of them.
use Rattle.std.proofs.Common.{◌≡◌, ◌≢◌, ℕ, zero, suc, ◌+◌, ◌<◌, ◌≤◌, ◌⊎◌, Bool, true, List, [], ◌∷◌, ◌++◌, length, Some, None, Option, sym, refl, ap, ap₂, ◌∙◌, subst, inl, inr, arith, append_assoc}
use Rattle.std.specs.List.{slice_get}
use Rattle.std.proofs.lemmas.Option.{none-some, same_Some, slice_get_within}
use Rattle.fault.specs.declared.TableFault.{TableFault}
use Rattle.fault.specs.declared.TableFault.TheVariants.{BadMemory, UnsafeStart, NoSuchBranch, NotWaiting, NotOut, HeightAboveBound, NamesExhausted, TermsExhausted, Satisfiable, NoRenaming, UnsafeForm, RowLimit}
use Rattle.sheet.specs.System.{System}
use Rattle.rules.specs.declared.Answer.{Answer}
use Rattle.rules.specs.declared.Answer.TheVariants.{Taken, Done, Joined, Holds, Open, Refused}
use Rattle.rules.specs.declared.Branch.{Branch}
use Rattle.rules.specs.declared.Call.{Call}
use Rattle.rules.specs.declared.Call.TheVariants.{Take, GiveBack, Strike, Merge, Keep, Verdict}
use Rattle.rules.specs.declared.Mark.{Mark}
use Rattle.rules.specs.declared.Mark.TheVariants.{Waiting}
use Rattle.rules.specs.declared.Outcome.{Outcome}
use Rattle.rules.specs.Calls.{Borne, RefusedBy, Turn}
use Rattle.rules.specs.Laws.{Played}
use Rattle.rules.specs.Promises.{Answered, Suits, is_accepted}
use Rattle.rules.specs.Standing.{Standing, branches, mark_of, opening, waiting, out}
use Rattle.rules.specs.Working.{following, offers, Offered, EndsAs, verdict_of, WorksFrom, WorkPlayed, SameWork, OneWork, first_branch}
use Rattle.rules.specs.Working.Offered.{accepted, refused, last}
use Rattle.rules.specs.Working.WorksFrom.{finished, passed, settled, stopped}
use Rattle.rules.proofs.Accounts.{WasAccepted, WasRefused, ways, turn}
use Rattle.rules.proofs.Bearing.{Paired, paired_turn}
use Rattle.rules.proofs.Marking.{or_none_some}
use Rattle.rules.proofs.Outcomes.{one_outcome, turn_once}

absurd_some : {A X : Type 0} {a : A} → None ≡ Some a → X
absurd_some {A} {X} {a} e = absurd (none-some a e)

-- calls after calls
played_append : (s : System) (limit : ℕ) (calls more : List Call) (answers further : List Answer) (from mid after : Standing) → Played s limit from calls answers mid → Played s limit mid more further after → Played s limit from (calls ++ more) (answers ++ further) after
played_append s limit [] more [] further from mid after h rest = subst (λ z. Played s limit z more further after) h rest
played_append s limit (c ∷ cs) more (a ∷ as') further from mid after h rest = (h.0, h.1, played_append s limit cs more as' further h.0 mid after h.2 rest)
played_append s limit [] more (a ∷ as') further from mid after h rest = absurd h
played_append s limit (c ∷ cs) more [] further from mid after h rest = absurd h

offered_played : {s : System} {limit : ℕ} {at after : Standing} {offs made : List Call} {given : List Answer} {end : Option TableFault} → Offered s limit at offs made given end after → Played s limit at made given after
offered_played {s} {limit} {at} {after} (accepted offer later answer after' answered ok) = (after', answered, refl)
offered_played {s} {limit} {at} {after} (refused offer later calls answers fault end after' answered rest) = (at, answered, offered_played rest)
offered_played {s} {limit} {at} {after} (last offer fault answered) = (at, answered, refl)

works_played : {s : System} {limit : ℕ} {at after : Standing} {b : Branch} {calls : List Call} {answers : List Answer} {outcome : Outcome} → WorksFrom s limit at b calls answers outcome after → Played s limit at calls answers after
works_played (finished at b answer outcome past is answered) = (at, answered, refl)
works_played (passed at after b mark calls answers outcome is not rest) = works_played rest
works_played {s} {limit} (settled at out mid after b made calls given answers outcome took offered rest) =
    (out, took, played_append s limit made calls given answers out mid after (offered_played offered) (works_played rest))
works_played {s} {limit} (stopped at out after b made given fault outcome took offered gave ends) =
    (out, took, played_append s limit made (GiveBack b ∷ []) given (Done ∷ []) out out after (offered_played offered) (after, gave, refl))

pub work_played : WorkPlayed
work_played s limit at after calls answers outcome work = works_played work

head_is : {A : Type 0} {x y : A} {xs ys : List A} → x ∷ xs ≡ y ∷ ys → x ≡ y
head_is e = cc

tail_is : {A : Type 0} {x y : A} {xs ys : List A} → x ∷ xs ≡ y ∷ ys → xs ≡ ys
tail_is e = cc

nil_is : {A X : Type 0} {y : A} {ys : List A} → [] ≡ y ∷ ys → X
nil_is {A} {X} e = let z : ◌≡◌ {A = ℕ} 0 1 = cc in absurd (omega arith)

false_is : {X : Type 0} → Bool.false ≡ true → X
false_is {X} e = let z : ◌≡◌ {A = ℕ} 0 1 = cc in absurd (omega arith)

-- an answer that is accepted is no refusal
borne_by : (s : System) (limit : ℕ) (at : Standing) (c : Call) (a : Answer) (after : Standing) → is_accepted a ≡ true → Answered s limit at c a after → Borne s limit at c
borne_by s limit at c a after ok answered = by (ways s limit at c a after answered)
  where
    by : WasAccepted s limit at c a after ⊎ WasRefused s limit at c a after → Borne s limit at c
    by (inl w) = w.1
    by (inr w) = false_is (sym (ap is_accepted w.1) ∙ ok)

-- a call that is borne is not refused, one fault is the first, and there is one standing after it
clash : {X : Type 0} (s : System) (limit : ℕ) (at : Standing) (c : Call) (e : TableFault) → Borne s limit at c → RefusedBy s limit at c e → X
clash s limit at c e borne r = absurd_some (one_outcome s limit at c None (Some e) borne r)

one_fault : (s : System) (limit : ℕ) (at : Standing) (c : Call) (e e' : TableFault) → RefusedBy s limit at c e → RefusedBy s limit at c e' → e ≡ e'
one_fault s limit at c e e' r r' = same_Some e e' (one_outcome s limit at c (Some e) (Some e') r r')

one_after : (s : System) (limit : ℕ) (at : Standing) (c : Call) (a a' : Answer) (after after' : Standing) → Answered s limit at c a after → Answered s limit at c a' after' → after ≡ after'
one_after s limit at c a a' after after' w w' = turn_once s limit at c after after' (turn s limit at c a after w) (turn s limit at c a' after' w')

module _ (s : System) (limit : ℕ) where
  -- how offers end, by their lists
  record Accepts (at : Standing) (offs made : List Call) (end : Option TableFault) (after : Standing) : Type 0 where
    offer : Call
    later : List Call
    answer : Answer
    offs_is : offs ≡ offer ∷ later
    made_is : made ≡ offer ∷ []
    end_is : end ≡ None
    answered : Answered s limit at offer answer after
    ok : is_accepted answer ≡ true

  record Refuses (at : Standing) (offs made : List Call) (end : Option TableFault) (after : Standing) : Type 0 where
    offer : Call
    later : List Call
    calls : List Call
    answers : List Answer
    fault : TableFault
    offs_is : offs ≡ offer ∷ later
    made_is : made ≡ offer ∷ calls
    answered : Answered s limit at offer (Refused fault) at
    rest : Offered s limit at later calls answers end after

  record Lasts (at : Standing) (offs made : List Call) (end : Option TableFault) (after : Standing) : Type 0 where
    offer : Call
    fault : TableFault
    offs_is : offs ≡ offer ∷ []
    made_is : made ≡ offer ∷ []
    end_is : end ≡ Some fault
    after_is : after ≡ at
    answered : Answered s limit at offer (Refused fault) at

  abbrev Ways : Standing → List Call → List Call → Option TableFault → Standing → Type 0
  Ways at offs made end after = Accepts at offs made end after ⊎ (Refuses at offs made end after ⊎ Lasts at offs made end after)

  offered_ways : {at after : Standing} {offs made : List Call} {given : List Answer} {end : Option TableFault} → Offered s limit at offs made given end after → Ways at offs made end after
  offered_ways (accepted offer later answer after answered ok) = inl (record { offer = offer; later = later; answer = answer; offs_is = refl; made_is = refl; end_is = refl; answered = answered; ok = ok })
  offered_ways (refused offer later calls answers fault end after answered rest) = inr (inl (record { offer = offer; later = later; calls = calls; answers = answers; fault = fault; offs_is = refl; made_is = refl; answered = answered; rest = rest }))
  offered_ways (last offer fault answered) = inr (inr (record { offer = offer; fault = fault; offs_is = refl; made_is = refl; end_is = refl; after_is = refl; answered = answered }))

  none_left : {X : Type 0} {at after : Standing} {made : List Call} {end : Option TableFault} → Ways at [] made end after → X
  none_left (inl w) = nil_is w.offs_is
  none_left (inr (inl w)) = nil_is w.offs_is
  none_left (inr (inr w)) = nil_is w.offs_is

  record SameOffers (made made' : List Call) (end end' : Option TableFault) (after after' : Standing) : Type 0 where
    same_made : made ≡ made'
    same_end : end ≡ end'
    same_after : after ≡ after'

  offered_once : {at after : Standing} {offs made : List Call} {given : List Answer} {end : Option TableFault} → Offered s limit at offs made given end after → (made' : List Call) (given' : List Answer) (end' : Option TableFault) (after' : Standing) → Offered s limit at offs made' given' end' after' → SameOffers made made' end end' after after'
  offered_once {at} (accepted offer later answer after answered ok) made' given' end' after' other = by (offered_ways other)
    where
      borne : Borne s limit at offer
      borne = borne_by s limit at offer answer after ok answered

      by : Ways at (offer ∷ later) made' end' after' → SameOffers (offer ∷ []) made' None end' after after'
      by (inl w) =
          let e : w.offer ≡ offer = sym (head_is w.offs_is) in
          let there : Answered s limit at offer w.answer after' = subst (λ c. Answered s limit at c w.answer after') e w.answered in
          record { same_made = sym (w.made_is ∙ ap (λ c. c ∷ []) e); same_end = sym w.end_is; same_after = one_after s limit at offer answer w.answer after after' answered there }
      by (inr (inl w)) = clash s limit at offer w.fault borne (subst (λ c. RefusedBy s limit at c w.fault) (sym (head_is w.offs_is)) w.answered.0)
      by (inr (inr w)) = clash s limit at offer w.fault borne (subst (λ c. RefusedBy s limit at c w.fault) (sym (head_is w.offs_is)) w.answered.0)
  offered_once {at} (refused offer later calls answers fault end after answered rest) made' given' end' after' other = by (λ m g e a o. offered_once rest m g e a o) (offered_ways other)
    where
      by : ((m : List Call) (g : List Answer) (e : Option TableFault) (a : Standing) → Offered s limit at later m g e a → SameOffers calls m end e after a) → Ways at (offer ∷ later) made' end' after' → SameOffers (offer ∷ calls) made' end end' after after'
      by more (inl w) =
          let there : Answered s limit at offer w.answer after' = subst (λ c. Answered s limit at c w.answer after') (sym (head_is w.offs_is)) w.answered in
          clash s limit at offer fault (borne_by s limit at offer w.answer after' w.ok there) answered.0
      by more (inr (inl w)) =
          let it = more w.calls w.answers end' after' (subst (λ l. Offered s limit at l w.calls w.answers end' after') (sym (tail_is w.offs_is)) w.rest) in
          let e = head_is w.offs_is in
          let f = it.same_made in
          let g = w.made_is in
          record { same_made = cc; same_end = it.same_end; same_after = it.same_after }
      by more (inr (inr w)) = none_left (subst (λ l. Ways at l calls end after) (tail_is w.offs_is) (offered_ways rest))
  offered_once {at} (last offer fault answered) made' given' end' after' other = by (offered_ways other)
    where
      by : Ways at (offer ∷ []) made' end' after' → SameOffers (offer ∷ []) made' (Some fault) end' at after'
      by (inl w) =
          let there : Answered s limit at offer w.answer after' = subst (λ c. Answered s limit at c w.answer after') (sym (head_is w.offs_is)) w.answered in
          clash s limit at offer fault (borne_by s limit at offer w.answer after' w.ok there) answered.0
      by (inr (inl w)) = none_left (subst (λ l. Ways at l w.calls end' after') (sym (tail_is w.offs_is)) (offered_ways w.rest))
      by (inr (inr w)) =
          let e : w.offer ≡ offer = sym (head_is w.offs_is) in
          let one = one_fault s limit at offer fault w.fault answered.0 (subst (λ c. RefusedBy s limit at c w.fault) e w.answered.0) in
          record { same_made = sym (w.made_is ∙ ap (λ c. c ∷ []) e); same_end = ap Some one ∙ sym w.end_is; same_after = sym w.after_is }

  -- how work goes on from a branch
  record Finishes (at : Standing) (b : Branch) (calls : List Call) (outcome : Outcome) (after : Standing) : Type 0 where
    answer : Answer
    past : length at.rows ≤ b.row
    is : verdict_of outcome ≡ Some answer
    calls_is : calls ≡ Verdict ∷ []
    after_is : after ≡ at
    answered : Answered s limit at Verdict answer at

  record Passes (at : Standing) (b : Branch) (calls : List Call) (outcome : Outcome) (after : Standing) : Type 0 where
    mark : Mark
    answers : List Answer
    marked : mark_of at b ≡ Some mark
    other : mark ≢ Waiting
    rest : WorksFrom s limit at (following s b) calls answers outcome after

  record Settles (at : Standing) (b : Branch) (calls : List Call) (outcome : Outcome) (after : Standing) : Type 0 where
    out : Standing
    mid : Standing
    made : List Call
    more : List Call
    given : List Answer
    answers : List Answer
    calls_is : calls ≡ Take b ∷ (made ++ more)
    took : Answered s limit at (Take b) (Taken b) out
    offered : Offered s limit out (offers s b (length at.rows)) made given None mid
    rest : WorksFrom s limit mid (following s b) more answers outcome after

  record Stops (at : Standing) (b : Branch) (calls : List Call) (outcome : Outcome) (after : Standing) : Type 0 where
    out : Standing
    made : List Call
    given : List Answer
    fault : TableFault
    calls_is : calls ≡ Take b ∷ (made ++ GiveBack b ∷ [])
    took : Answered s limit at (Take b) (Taken b) out
    offered : Offered s limit out (offers s b (length at.rows)) made given (Some fault) out
    gave : Answered s limit out (GiveBack b) Done after
    ends : EndsAs b fault outcome

  abbrev Goes : Standing → Branch → List Call → Outcome → Standing → Type 0
  Goes at b calls outcome after = (Finishes at b calls outcome after ⊎ Passes at b calls outcome after) ⊎ (Settles at b calls outcome after ⊎ Stops at b calls outcome after)

  works_go : {at after : Standing} {b : Branch} {calls : List Call} {answers : List Answer} {outcome : Outcome} → WorksFrom s limit at b calls answers outcome after → Goes at b calls outcome after
  works_go (finished at b answer outcome past is answered) = inl (inl (record { answer = answer; past = past; is = is; calls_is = refl; after_is = refl; answered = answered }))
  works_go (passed at after b mark calls answers outcome is not rest) = inl (inr (record { mark = mark; answers = answers; marked = is; other = not; rest = rest }))
  works_go (settled at out mid after b made calls given answers outcome took offered rest) = inr (inl (record { out = out; mid = mid; made = made; more = calls; given = given; answers = answers; calls_is = refl; took = took; offered = offered; rest = rest }))
  works_go (stopped at out after b made given fault outcome took offered gave ends) = inr (inr (record { out = out; made = made; given = given; fault = fault; calls_is = refl; took = took; offered = offered; gave = gave; ends = ends }))

  -- a branch with a mark is a row's
  marked_within : (at : Standing) (b : Branch) (mark : Mark) → Paired at → mark_of at b ≡ Some mark → b.row < length at.rows
  marked_within at b mark paired is =
      let w = or_none_some (slice_get at.marks b.row) (λ ms. slice_get ms b.number) mark is in
      let z : b.row < length at.marks = slice_get_within at.marks b.row w.0 w.1 in
      omega (arith, z, paired)

  past_not : {X : Type 0} (at : Standing) (b : Branch) (mark : Mark) → Paired at → length at.rows ≤ b.row → mark_of at b ≡ Some mark → X
  past_not {X} at b mark paired past is = let z = marked_within at b mark paired is in absurd (omega (arith, z, past))

  mark_same : (at : Standing) (b : Branch) (one other : Mark) → mark_of at b ≡ Some one → mark_of at b ≡ Some other → one ≡ other
  mark_same at b one other e e' = same_Some one other (sym e ∙ e')

  -- a verdict's answer is the only one, and tells the outcome
  holds_open : {X : Type 0} (at : Standing) (w o : ℕ) → Suits s at Verdict Holds → Suits s at Verdict (Open w o) → X
  holds_open {X} at w o h (wi, oi, inl none) = absurd (omega (arith, h.0, none))
  holds_open {X} at w o h (wi, oi, inr some) = absurd (omega (arith, h.1, wi, oi, some))

  outcome_once : (at : Standing) (one other : Outcome) (a a' : Answer) → verdict_of one ≡ Some a → verdict_of other ≡ Some a' → Answered s limit at Verdict a at → Answered s limit at Verdict a' at → one ≡ other
  outcome_once at Outcome.Holds Outcome.Holds a a' is is' w w' = refl
  outcome_once at Outcome.Holds (Outcome.Open x y) a a' is is' w w' =
      holds_open at x y (subst (λ z. Answered s limit at Verdict z at) (sym (same_Some Holds a is)) w).1 (subst (λ z. Answered s limit at Verdict z at) (sym (same_Some (Open x y) a' is')) w').1
  outcome_once at (Outcome.Open x y) Outcome.Holds a a' is is' w w' =
      holds_open at x y (subst (λ z. Answered s limit at Verdict z at) (sym (same_Some Holds a' is')) w').1 (subst (λ z. Answered s limit at Verdict z at) (sym (same_Some (Open x y) a is)) w).1
  outcome_once at (Outcome.Open x y) (Outcome.Open x' y') a a' is is' w w' =
      let one = (subst (λ z. Answered s limit at Verdict z at) (sym (same_Some (Open x y) a is)) w).1 in
      let two = (subst (λ z. Answered s limit at Verdict z at) (sym (same_Some (Open x' y') a' is')) w').1 in
      ap₂ Outcome.Open (one.0 ∙ sym two.0) (one.1 ∙ sym two.1)
  outcome_once at (Outcome.Unknown b) other a a' is is' w w' = absurd_some is
  outcome_once at (Outcome.Full b) other a a' is is' w w' = absurd_some is
  outcome_once at Outcome.Holds (Outcome.Unknown b) a a' is is' w w' = absurd_some is'
  outcome_once at Outcome.Holds (Outcome.Full b) a a' is is' w w' = absurd_some is'
  outcome_once at (Outcome.Open x y) (Outcome.Unknown b) a a' is is' w w' = absurd_some is'
  outcome_once at (Outcome.Open x y) (Outcome.Full b) a a' is is' w w' = absurd_some is'

  ends_once : (b : Branch) (fault : TableFault) (one other : Outcome) → EndsAs b fault one → EndsAs b fault other → one ≡ other
  ends_once b UnsafeForm one other e e' = e ∙ sym e'
  ends_once b NamesExhausted one other e e' = e ∙ sym e'
  ends_once b TermsExhausted one other e e' = e ∙ sym e'
  ends_once b RowLimit one other e e' = e ∙ sym e'
  ends_once b BadMemory one other e e' = absurd e
  ends_once b UnsafeStart one other e e' = absurd e
  ends_once b NoSuchBranch one other e e' = absurd e
  ends_once b NotWaiting one other e e' = absurd e
  ends_once b NotOut one other e e' = absurd e
  ends_once b HeightAboveBound one other e e' = absurd e
  ends_once b Satisfiable one other e e' = absurd e
  ends_once b NoRenaming one other e e' = absurd e

  pub paired_answered : (at : Standing) (c : Call) (a : Answer) (after : Standing) → Paired at → Answered s limit at c a after → Paired after
  paired_answered at c a after p w = paired_turn s limit at c after p (turn s limit at c a after w)

  pub paired_offered : {at after : Standing} {offs made : List Call} {given : List Answer} {end : Option TableFault} → Paired at → Offered s limit at offs made given end after → Paired after
  paired_offered {at} p (accepted offer later answer after answered ok) = paired_answered at offer answer after p answered
  paired_offered {at} p (refused offer later calls answers fault end after answered rest) = paired_offered p rest
  paired_offered {at} p (last offer fault answered) = p

  -- the same branch taken, and the same offers made on it
  abbrev OffersOn : Standing → Branch → List Call → Option TableFault → Standing → Type 0
  OffersOn at b made end mid = (out : Standing) × (given : List Answer) × Answered s limit at (Take b) (Taken b) out × Offered s limit out (offers s b (length at.rows)) made given end mid

  offers_same : (at : Standing) (b : Branch) (made made' : List Call) (end end' : Option TableFault) (mid mid' : Standing) → OffersOn at b made end mid → OffersOn at b made' end' mid' → SameOffers made made' end end' mid mid'
  offers_same at b made made' end end' mid mid' one other =
      let same' : other.0 ≡ one.0 = one_after s limit at (Take b) (Taken b) (Taken b) other.0 one.0 other.2 one.2 in
      offered_once one.3 made' other.1 end' mid' (subst (λ z. Offered s limit z (offers s b (length at.rows)) made' other.1 end' mid') same' other.3)

  works_once : {at after : Standing} {b : Branch} {calls : List Call} {answers : List Answer} {outcome : Outcome} → WorksFrom s limit at b calls answers outcome after → Paired at → (calls' : List Call) (answers' : List Answer) (outcome' : Outcome) (after' : Standing) → WorksFrom s limit at b calls' answers' outcome' after' → SameWork calls calls' outcome outcome' after after'
  works_once (finished at b answer outcome past is answered) paired calls' answers' outcome' after' other = by (works_go other)
    where
      by : Goes at b calls' outcome' after' → SameWork (Verdict ∷ []) calls' outcome outcome' at after'
      by (inl (inl w)) = record { one_list = sym w.calls_is; one_outcome = outcome_once at outcome outcome' answer w.answer is w.is answered w.answered; one_standing = sym w.after_is }
      by (inl (inr w)) = past_not at b w.mark paired past w.marked
      by (inr (inl w)) = past_not at b Waiting paired past w.took.0
      by (inr (inr w)) = past_not at b Waiting paired past w.took.0
  works_once (passed at after b mark calls answers outcome is not rest) paired calls' answers' outcome' after' other = by (λ c a o f w. works_once rest paired c a o f w) (works_go other)
    where
      by : ((c : List Call) (a : List Answer) (o : Outcome) (f : Standing) → WorksFrom s limit at (following s b) c a o f → SameWork calls c outcome o after f) → Goes at b calls' outcome' after' → SameWork calls calls' outcome outcome' after after'
      by more (inl (inl w)) = past_not at b mark paired w.past is
      by more (inl (inr w)) = more calls' w.answers outcome' after' w.rest
      by more (inr (inl w)) = absurd (not (mark_same at b mark Waiting is w.took.0))
      by more (inr (inr w)) = absurd (not (mark_same at b mark Waiting is w.took.0))
  works_once (settled at out mid after b made calls given answers outcome took offered rest) paired calls' answers' outcome' after' other = by (λ c a o f w. works_once rest (paired_offered (paired_answered at (Take b) (Taken b) out paired took) offered) c a o f w) (works_go other)
    where
      by : ((c : List Call) (a : List Answer) (o : Outcome) (f : Standing) → WorksFrom s limit mid (following s b) c a o f → SameWork calls c outcome o after f) → Goes at b calls' outcome' after' → SameWork (Take b ∷ (made ++ calls)) calls' outcome outcome' after after'
      by more (inl (inl w)) = past_not at b Waiting paired w.past took.0
      by more (inl (inr w)) = absurd (w.other (mark_same at b w.mark Waiting w.marked took.0))
      by more (inr (inl w)) =
          let one = offers_same at b made w.made None None mid w.mid (out, given, took, offered) (w.out, w.given, w.took, w.offered) in
          let it = more w.more w.answers outcome' after' (subst (λ z. WorksFrom s limit z (following s b) w.more w.answers outcome' after') (sym one.same_after) w.rest) in
          record { one_list = ap₂ (λ (m n : List Call). Take b ∷ (m ++ n)) one.same_made it.one_list ∙ sym w.calls_is; one_outcome = it.one_outcome; one_standing = it.one_standing }
      by more (inr (inr w)) = absurd_some (offers_same at b made w.made None (Some w.fault) mid w.out (out, given, took, offered) (w.out, w.given, w.took, w.offered)).same_end
  works_once (stopped at out after b made given fault outcome took offered gave ends) paired calls' answers' outcome' after' other = by (works_go other)
    where
      by : Goes at b calls' outcome' after' → SameWork (Take b ∷ (made ++ GiveBack b ∷ [])) calls' outcome outcome' after after'
      by (inl (inl w)) = past_not at b Waiting paired w.past took.0
      by (inl (inr w)) = absurd (w.other (mark_same at b w.mark Waiting w.marked took.0))
      by (inr (inl w)) = absurd_some (sym (offers_same at b made w.made (Some fault) None out w.mid (out, given, took, offered) (w.out, w.given, w.took, w.offered)).same_end)
      by (inr (inr w)) =
          let one = offers_same at b made w.made (Some fault) (Some w.fault) out w.out (out, given, took, offered) (w.out, w.given, w.took, w.offered) in
          let back : Answered s limit out (GiveBack b) Done after' = subst (λ z. Answered s limit z (GiveBack b) Done after') (sym one.same_after) w.gave in
          let f : fault ≡ w.fault = same_Some fault w.fault one.same_end in
          record {
            one_list = ap (λ (m : List Call). Take b ∷ (m ++ GiveBack b ∷ [])) one.same_made ∙ sym w.calls_is;
            one_outcome = ends_once b fault outcome outcome' ends (subst (λ e. EndsAs b e outcome') (sym f) w.ends);
            one_standing = one_after s limit out (GiveBack b) Done Done after after' gave back;
          }

pub one_work : OneWork
one_work s limit calls calls' answers answers' outcome outcome' after after' work other = works_once s limit work refl calls' answers' outcome' after' other
