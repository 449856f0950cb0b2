-- What is promised of calls and answers follows from each answer's own contract.
use Rattle.std.proofs.Common.{◌≡◌, ◌↔◌, ℕ, zero, suc, ◌⊎◌, true, false, List, [], ◌∷◌, ◌++◌, length, take, Some, None, Option, is_none, sym, refl, ap, ◌∙◌, subst, inl, inr, arith}
use Rattle.std.specs.List.{slice_get}
use Rattle.std.proofs.lemmas.Option.{none-some, same_Some}
use Rattle.fault.specs.declared.TableFault.{TableFault}
use Rattle.sheet.specs.System.{System}
use Rattle.rules.specs.declared.Answer.{Answer}
use Rattle.rules.specs.declared.Call.{Call}
use Rattle.rules.specs.Standing.{Standing, opening}
use Rattle.rules.specs.Calls.{Borne, RefusedBy, ComesTo}
use Rattle.rules.specs.Promises.{Answered, Exact, number_in, number_of}
use Rattle.rules.specs.Laws.{Played, AnsweredPromises}
use Rattle.rules.proofs.Accounts.{WasAccepted, WasRefused, ways, played_turns, accounting}
use Rattle.rules.proofs.Outcomes.{one_outcome, alone}

none_from : (o : Option ℕ) → is_none o ≡ true → o ≡ None
none_from None e = refl
none_from (Some n) e = let z : ◌≡◌ {A = ℕ} 0 1 = cc in absurd (omega arith)

false_true : false ≡ true → ⊥
false_true e = let z : ◌≡◌ {A = ℕ} 0 1 = cc in absurd (omega arith)

module _ (s : System) (limit : ℕ) (at : Standing) (call : Call) where
  -- a call that is borne has no fault
  not_both : Borne s limit at call → (e : TableFault) → RefusedBy s limit at call e → ⊥
  not_both borne e refused = none-some e (one_outcome s limit at call None (Some e) borne refused)

  -- and one that is refused has one
  one_fault : (e e' : TableFault) → RefusedBy s limit at call e → RefusedBy s limit at call e' → e ≡ e'
  one_fault e e' refused refused' = same_Some e e' (one_outcome s limit at call (Some e) (Some e') refused refused')

  exact_of : (answer : Answer) (after : Standing) → WasAccepted s limit at call answer after ⊎ WasRefused s limit at call answer after → Exact s limit at call answer
  exact_of answer after (inl w) =
      record {
        borne = ((λ ok. w.1), (λ borne. w.0));
        bears = (not_both, (λ not. w.1));
        refused = λ number. ((λ is. absurd (none-some number (sym (none_from (number_in answer) w.0) ∙ is))), (λ n. absurd (not_both w.1 n.0 n.1)));
        suits = λ ok. w.2;
      }
  exact_of answer after (inr w) =
      record {
        borne = ((λ ok. absurd (false_true (sym (ap (λ a. is_none (number_in a)) w.1) ∙ ok))), (λ borne. absurd (not_both borne w.0 w.2)));
        bears = (not_both, (λ not. absurd (not w.0 w.2)));
        refused = λ number. ((λ is. (w.0, w.2, sym (same_Some (number_of w.0) number (sym (ap number_in w.1) ∙ is)))), (λ n. ap number_in w.1 ∙ ap Some (ap number_of (one_fault w.0 n.0 w.2 n.1) ∙ sym n.2)));
        suits = λ ok. absurd (false_true (sym (ap (λ a. is_none (number_in a)) w.1) ∙ ok));
      }

-- as many answers as calls
played_long : (s : System) (limit : ℕ) (calls : List Call) (answers : List Answer) (from at : Standing) → Played s limit from calls answers at → length answers ≡ length calls
played_long s limit [] [] from at h = refl
played_long s limit (c ∷ cs) (a ∷ ans) from at h = ap suc (played_long s limit cs ans h.0 at h.2)
played_long s limit [] (a ∷ ans) from at h = absurd h
played_long s limit (c ∷ cs) [] from at h = absurd h

-- the first k
played_take : (s : System) (limit : ℕ) (k : ℕ) (calls : List Call) (answers : List Answer) (from at : Standing) → Played s limit from calls answers at → (mid : Standing) × Played s limit from (take k calls) (take k answers) mid
played_take s limit zero calls answers from at h = (from, refl)
played_take s limit (suc k) [] [] from at h = (from, refl)
played_take s limit (suc k) (c ∷ cs) (a ∷ ans) from at h = let rest = played_take s limit k cs ans h.0 at h.2 in (rest.0, (h.0, h.1, rest.1))
played_take s limit (suc k) [] (a ∷ ans) from at h = absurd h
played_take s limit (suc k) (c ∷ cs) [] from at h = absurd h

-- call k is answered where the first k calls have come to
abbrev AtCall : System → ℕ → Standing → ℕ → List Call → List Answer → Call → Answer → Type 0
AtCall s limit from k calls answers call answer = (mid : Standing) × (next : Standing) × Played s limit from (take k calls) (take k answers) mid × Answered s limit mid call answer next

at_call : (s : System) (limit : ℕ) (k : ℕ) (calls : List Call) (answers : List Answer) (from at : Standing) → Played s limit from calls answers at → (call : Call) (answer : Answer) → slice_get calls k ≡ Some call → slice_get answers k ≡ Some answer → AtCall s limit from k calls answers call answer
at_call s limit zero (c ∷ cs) (a ∷ ans) from at h call answer is is' =
    let e = same_Some c call is in
    let e' = same_Some a answer is' in
    (from, h.0, refl, subst (λ z. Answered s limit from z answer h.0) e (subst (λ z. Answered s limit from c z h.0) e' h.1))
at_call s limit (suc k) (c ∷ cs) (a ∷ ans) from at h call answer is is' =
    let w = at_call s limit k cs ans h.0 at h.2 call answer is is' in
    (w.0, w.1, (h.0, h.1, w.2), w.3)
at_call s limit zero [] ans from at h call answer is is' = absurd (none-some call is)
at_call s limit (suc k) [] ans from at h call answer is is' = absurd (none-some call is)
at_call s limit k (c ∷ cs) [] from at h call answer is is' = absurd h

-- one call more
pub played_more : (s : System) (limit : ℕ) (calls : List Call) (answers : List Answer) (from mid after : Standing) (call : Call) (answer : Answer) → Played s limit from calls answers mid → Answered s limit mid call answer after → Played s limit from (calls ++ call ∷ []) (answers ++ answer ∷ []) after
played_more s limit [] [] from mid after call answer h w = (after, subst (λ z. Answered s limit z call answer after) h w, refl)
played_more s limit (c ∷ cs) (a ∷ ans) from mid after call answer h w = (h.0, h.1, played_more s limit cs ans h.0 mid after call answer h.2 w)
played_more s limit [] (a ∷ ans) from mid after call answer h w = absurd h
played_more s limit (c ∷ cs) [] from mid after call answer h w = absurd h

-- the calls come to what they were answered to come to, and to nothing else
pub played_alone : (s : System) (limit : ℕ) (calls : List Call) (answers : List Answer) (at other : Standing) → Played s limit (opening s) calls answers at → ComesTo s limit calls other → at ≡ other
played_alone s limit calls answers at other h t = alone s limit calls (opening s) at other (played_turns s limit calls answers (opening s) at h) t

pub answered_promises : AnsweredPromises
answered_promises s limit calls answers at h safe =
    record {
      long = played_long s limit calls answers (opening s) at h;
      leads = λ k. (let p = played_take s limit k calls answers (opening s) at h in (p.0, played_turns s limit (take k calls) (take k answers) (opening s) p.0 p.1));
      alone = λ k one other t t'. alone s limit (take k calls) (opening s) one other t t';
      safe = safe;
      exact = λ k here call answer t is is'. (let w = where_at k here call answer t is is' in exact_of s limit here call answer w.0 (ways s limit here call answer w.0 w.1));
      adds = λ k here t. (let p = played_take s limit k calls answers (opening s) at h in let same' = alone s limit (take k calls) (opening s) p.0 here (played_turns s limit (take k calls) (take k answers) (opening s) p.0 p.1) t in accounting s limit (take k calls) (take k answers) here (subst (λ z. Played s limit (opening s) (take k calls) (take k answers) z) same' p.1));
    }
  where
    where_at : (k : ℕ) (here : Standing) (call : Call) (answer : Answer) → ComesTo s limit (take k calls) here → slice_get calls k ≡ Some call → slice_get answers k ≡ Some answer → (next : Standing) × Answered s limit here call answer next
    where_at k here call answer t is is' =
        let w = at_call s limit k calls answers (opening s) at h call answer is is' in
        let same' = alone s limit (take k calls) (opening s) w.0 here (played_turns s limit (take k calls) (take k answers) (opening s) w.0 w.2) t in
        (w.1, subst (λ z. Answered s limit z call answer w.1) same' w.3)
