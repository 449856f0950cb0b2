-- Offers made one after another, as far as they have come.
use Rattle.std.proofs.Common.{◌≡◌, ℕ, zero, suc, ◌+◌, ◌-◌, ◌<◌, ◌≤◌, ◌⊎◌, List, [], ◌∷◌, ◌++◌, length, Some, None, Option, Result, Ok, Err, sym, refl, ap, ◌∙◌, subst, inl, inr, arith, unwrap_or}
use Rattle.std.proofs.lemmas.Bool.{cases_lt}
use Rattle.std.proofs.lemmas.Option.{none-some, same_Some}
use Rattle.fault.specs.declared.TableFault.{TableFault}
use Rattle.fault.specs.declared.TableFault.TheVariants.{BadMemory, UnsafeStart, NoSuchBranch, NotWaiting, NotOut, HeightAboveBound, NamesExhausted, TermsExhausted, Satisfiable, NoRenaming, UnsafeForm, RowLimit}
use Rattle.sheet.specs.declared.sheet.Sheet.{Sheet}
use Rattle.sheet.specs.System.{System}
use Rattle.terms.specs.declared.TermRecord.{TermRecord}
use Rattle.rows.specs.declared.row.RowRecord.{RowRecord}
use Rattle.rules.specs.declared.Answer.{Answer}
use Rattle.rules.specs.declared.Answer.TheVariants.{Done, Joined, Refused}
use Rattle.rules.specs.declared.Branch.{Branch}
use Rattle.rules.specs.declared.Call.{Call}
use Rattle.rules.specs.declared.Call.TheVariants.{Strike, Merge, Keep}
use Rattle.rules.specs.declared.Mark.{Mark}
use Rattle.rules.specs.Calls.{RefusedBy}
use Rattle.rules.specs.Promises.{Answered}
use Rattle.rules.specs.Rules.{IsOut}
use Rattle.rules.specs.Standing.{Standing, mark_of}
use Rattle.rules.specs.Working.{bound_of, merges_from, offers, Offered, EndsAs}
use Rattle.rules.specs.Working.Offered.{accepted, refused, last}
use Rattle.table.specs.declared.table.Table.{Table}
use Rattle.table.specs.declared.ticket.Refusal.{Refusal}
use Rattle.table.specs.Answers.{answer_of_offer}
use Rattle.table.specs.Memory.{FitsIfOpen}
use Rattle.table.specs.Standing.{IsOpenWith, Stands}
use Rattle.table.proofs.Marking.{mark_absent, rows_many}
use Rattle.working.specs.Work.{merges_and_keep, ending, fault_of, Made}

-- where the rest of the offers is made, all are
abbrev pub Onward : System → ℕ → Standing → List Call → List Call → Type 0
Onward s limit at offs rest =
    (made : List Call) (given : List Answer) (end : Option TableFault) (after : Standing) → Offered s limit at rest made given end after
    → (made' : List Call) × (given' : List Answer) × Offered s limit at offs made' given' end after

pub onward_first : (s : System) (limit : ℕ) (at : Standing) (offs : List Call) → Onward s limit at offs offs
onward_first s limit at offs made given end after offered = (made, given, offered)

-- one more is refused
pub onward_next : (s : System) (limit : ℕ) (at : Standing) (offs later : List Call) (offer : Call) (fault : TableFault) → Answered s limit at offer (Refused fault) at → Onward s limit at offs (offer ∷ later) → Onward s limit at offs later
onward_next s limit at offs later offer fault answered onward made given end after offered =
    onward (offer ∷ made) (Refused fault ∷ given) end after (refused offer later made given fault end after answered offered)

less_none : (n : ℕ) → n - 0 ≡ n
less_none n = omega arith

module _ (s : System) (b : Branch) where
  pub merges_step : (t n : ℕ) → t < n → merges_and_keep s b t n ≡ Merge b t (bound_of s) ∷ merges_and_keep s b (t + 1) n
  merges_step t n lt =
      let one : n - t ≡ suc (n - (t + 1)) = omega arith in
      let two : suc t ≡ t + 1 = omega arith in
      ap (λ k. merges_from b (bound_of s) t k ++ Keep b (bound_of s) ∷ []) one
      ∙ ap (λ u. Merge b t (bound_of s) ∷ (merges_from b (bound_of s) u (n - (t + 1)) ++ Keep b (bound_of s) ∷ [])) two

  pub merges_done : (t n : ℕ) → n ≤ t → merges_and_keep s b t n ≡ Keep b (bound_of s) ∷ []
  merges_done t n le =
      let none : n - t ≡ 0 = omega arith in
      ap (λ k. merges_from b (bound_of s) t k ++ Keep b (bound_of s) ∷ []) none

  pub all_offers : (n : ℕ) → Strike b ∷ merges_and_keep s b 0 n ≡ offers s b n
  all_offers n = ap (λ k. Strike b ∷ (merges_from b (bound_of s) 0 k ++ Keep b (bound_of s) ∷ [])) (less_none n)

-- the last call of a list
abbrev pub last_of : Call → List Call → Call
last_of c [] = c
last_of c (d ∷ ds) = last_of d ds

last_keeps : (s : System) (b : Branch) (c : Call) (t n : ℕ) → last_of c (merges_from b (bound_of s) t n ++ Keep b (bound_of s) ∷ []) ≡ Keep b (bound_of s)
last_keeps s b c t zero = refl
last_keeps s b c t (suc n) = last_keeps s b (Merge b t (bound_of s)) (suc t) n

-- where no offer is accepted, the last is refused
pub last_refused : {s : System} {limit : ℕ} {at after : Standing} {offs made : List Call} {given : List Answer} {end : Option TableFault} → Offered s limit at offs made given end after → (c : Call) (fault : TableFault) → end ≡ Some fault → RefusedBy s limit at (last_of c offs) fault
last_refused (accepted offer later answer after answered ok) c fault e = absurd (none-some fault e)
last_refused (refused offer later calls answers fault' end after answered rest) c fault e = last_refused rest offer fault e
last_refused {s} {limit} {at} (last offer fault' answered) c fault e = subst (λ f. RefusedBy s limit at offer f) (same_Some fault' fault e) answered.0

-- and nothing has changed
pub stays_refused : {s : System} {limit : ℕ} {at after : Standing} {offs made : List Call} {given : List Answer} {end : Option TableFault} → Offered s limit at offs made given end after → (fault : TableFault) → end ≡ Some fault → after ≡ at
stays_refused (accepted offer later answer after answered ok) fault e = absurd (none-some fault e)
stays_refused (refused offer later calls answers fault' end after answered rest) fault e = stays_refused rest fault e
stays_refused (last offer fault' answered) fault e = refl

-- a keep at the bound, of a branch that is out, is refused in one of four ways
keep_ends : (s : System) (limit bound : ℕ) (at : Standing) (b : Branch) (fault : TableFault) → s.bound ≡ Some bound → IsOut at b → RefusedBy s limit at (Keep b (bound_of s)) fault → EndsAs b fault (ending b fault)
keep_ends s limit bound at b NotOut is out r = absurd (r out)
keep_ends s limit bound at b HeightAboveBound is out r =
    let same' : r.1.0 ≡ bound = same_Some r.1.0 bound (sym r.1.1 ∙ is) in
    let high : bound_of s ≡ bound = ap (λ (o : Option ℕ). unwrap_or o 0) is in
    let above = r.1.2 in
    absurd (omega (arith, same', high, above))
keep_ends s limit bound at b NamesExhausted is out r = refl
keep_ends s limit bound at b TermsExhausted is out r = refl
keep_ends s limit bound at b UnsafeForm is out r = refl
keep_ends s limit bound at b RowLimit is out r = refl
keep_ends s limit bound at b BadMemory is out r = absurd r
keep_ends s limit bound at b UnsafeStart is out r = absurd r
keep_ends s limit bound at b NoSuchBranch is out r = absurd r
keep_ends s limit bound at b NotWaiting is out r = absurd r
keep_ends s limit bound at b Satisfiable is out r = absurd r
keep_ends s limit bound at b NoRenaming is out r = absurd r

pub offers_end : (s : System) (limit bound : ℕ) (at after : Standing) (b : Branch) (n : ℕ) (made : List Call) (given : List Answer) (fault : TableFault) → s.bound ≡ Some bound → IsOut at b → Offered s limit at (offers s b n) made given (Some fault) after → EndsAs b fault (ending b fault)
offers_end s limit bound at after b n made given fault is out offered =
    keep_ends s limit bound at b fault is out
    (subst (λ c. RefusedBy s limit at c fault) (last_keeps s b (Strike b) 0 n) (last_refused offered (Strike b) fault refl))

absurd_less : ⊥ → ⊥
absurd_less h = h

-- a branch with a mark is one of the table's rows
pub marked_row : (t : Table) (s : System) (limit : ℕ) (at : Standing) (stands : Stands s limit t at) (b : Branch) (m : Mark) → mark_of at b ≡ Some m → b.row < length at.rows
marked_row t s limit at stands b m is = by (cases_lt b.row (length at.rows))
  where
    by : (b.row < length at.rows) ⊎ (length at.rows ≤ b.row) → b.row < length at.rows
    by (inl lt) = lt
    by (inr past) =
        let many = rows_many t s limit at stands in
        absurd (none-some m (sym (mark_absent t s limit at stands b (λ there. (let r = there.row in absurd_less (omega (arith, r, many, past))))) ∙ is))

pub bound_is : (s : System) (h : ℕ) → s.bound ≡ Some h → bound_of s ≡ h
bound_is s h is = ap (λ (o : Option ℕ). unwrap_or o 0) is

module _ (s : System) (limit : ℕ) (at : Standing) (b : Branch) (n h : ℕ) (bound : s.bound ≡ Some h) where
  abbrev All : List Call
  All = merges_and_keep s b 0 n

  at_bound : (P : ℕ → Type 0) → P h → P (bound_of s)
  at_bound P p = subst P (sym (bound_is s h bound)) p

  -- a merge is accepted
  pub merge_accepted : (t : ℕ) (after : Standing) (new : Table) → t < n → Answered s limit at (Merge b t h) Done after → Onward s limit at All (merges_and_keep s b t n) → Stands s limit new after → Made s limit at All None new
  merge_accepted t after new lt answered onward stands =
      let here : Answered s limit at (Merge b t (bound_of s)) Done after = at_bound (λ k. Answered s limit at (Merge b t k) Done after) answered in
      let rest : Offered s limit at (merges_and_keep s b t n) (Merge b t (bound_of s) ∷ []) (Done ∷ []) None after =
      subst (λ (offs : List Call). Offered s limit at offs (Merge b t (bound_of s) ∷ []) (Done ∷ []) None after) (sym (merges_step s b t n lt)) (accepted (Merge b t (bound_of s)) (merges_and_keep s b (t + 1) n) Done after here refl) in
      let all = onward _ _ None after rest in
      record { made = all.0; given = all.1; after = after; offered = all.2; stands = stands }

  -- a merge is refused, and the next is due
  pub merge_refused : (t : ℕ) (fault : TableFault) (after : Standing) (new : Table) → t < n → Answered s limit at (Merge b t h) (Refused fault) after → Onward s limit at All (merges_and_keep s b t n) → Stands s limit new after → Stands s limit new at × Onward s limit at All (merges_and_keep s b (t + 1) n)
  merge_refused t fault after new lt answered onward stands =
      let here : Answered s limit at (Merge b t (bound_of s)) (Refused fault) at = at_bound (λ k. Answered s limit at (Merge b t k) (Refused fault) at) (answered.0, refl) in (
        subst (λ (z : Standing). Stands s limit new z) answered.1 stands,
        onward_next s limit at All (merges_and_keep s b (t + 1) n) (Merge b t (bound_of s)) fault here (subst (Onward s limit at All) (merges_step s b t n lt) onward),
      )

  -- a keep ends the offers
  pub keep_made : (t : ℕ) (result : Result Unit Refusal) (after : Standing) (new : Table) → n ≤ t → Answered s limit at (Keep b h) (answer_of_offer result) after → Onward s limit at All (merges_and_keep s b t n) → Stands s limit new after → Made s limit at All (fault_of result) new
  keep_made t (Ok done) after new le answered onward stands =
      let here : Answered s limit at (Keep b (bound_of s)) Done after = at_bound (λ k. Answered s limit at (Keep b k) Done after) answered in
      let rest = subst (λ (offs : List Call). Offered s limit at offs (Keep b (bound_of s) ∷ []) (Done ∷ []) None after) (sym (merges_done s b t n le)) (accepted (Keep b (bound_of s)) [] Done after here refl) in
      let all = onward _ _ None after rest in
      record { made = all.0; given = all.1; after = after; offered = all.2; stands = stands }
  keep_made t (Err refusal) after new le answered onward stands =
      let here : Answered s limit at (Keep b (bound_of s)) (Refused refusal.fault) at = at_bound (λ k. Answered s limit at (Keep b k) (Refused refusal.fault) at) (answered.0, refl) in
      let rest = subst (λ (offs : List Call). Offered s limit at offs (Keep b (bound_of s) ∷ []) (Refused refusal.fault ∷ []) (Some refusal.fault) at) (sym (merges_done s b t n le)) (last (Keep b (bound_of s)) refusal.fault here) in
      let all = onward _ _ (Some refusal.fault) at rest in
      record { made = all.0; given = all.1; after = at; offered = all.2; stands = subst (λ (z : Standing). Stands s limit new z) answered.1 stands }

-- a strike is accepted, or the merges and the keep are due
pub strike_accepted : (s : System) (limit : ℕ) (at : Standing) (b : Branch) (n joins : ℕ) (after : Standing) (new : Table) → Answered s limit at (Strike b) (Joined joins) after → Stands s limit new after → Made s limit at (offers s b n) None new
strike_accepted s limit at b n joins after new answered stands =
    record { made = Strike b ∷ []; given = Joined joins ∷ []; after = after; offered = accepted (Strike b) _ (Joined joins) after answered refl; stands = stands }

pub strike_refused : (s : System) (limit : ℕ) (at : Standing) (b : Branch) (n : ℕ) (fault : TableFault) (end : Option TableFault) (new : Table) → Answered s limit at (Strike b) (Refused fault) at → Made s limit at (merges_and_keep s b 0 n) end new → Made s limit at (offers s b n) end new
strike_refused s limit at b n fault end new answered m =
    record {
      made = Strike b ∷ m.made;
      given = Refused fault ∷ m.given;
      after = m.after;
      offered = subst (λ (offs : List Call). Offered s limit at offs (Strike b ∷ m.made) (Refused fault ∷ m.given) end m.after) (all_offers s b n) (refused (Strike b) (merges_and_keep s b 0 n) m.made m.given fault end m.after answered m.offered);
      stands = m.stands;
    }

bound_by : (o : Option Sheet) (s : System) (kept limit : ℕ) (rs : List TermRecord) (n : ℕ) (rows : List RowRecord) (used most : ℕ) (marks : List Mark) (work : List ℕ) → FitsIfOpen o rs n rows used most marks work → IsOpenWith o kept s limit → 0 < used → (bound : ℕ) × (s.bound ≡ Some bound)
bound_by None s kept limit rs n rows used most marks work fits opened some = absurd (omega (arith, fits.rows, some))
bound_by (Some sheet) s kept limit rs n rows used most marks work fits opened some = (sheet.bound, ap (λ (z : System). z.bound) (sym opened.0))

-- the sheet of a table with rows has a height bound
pub bound_there : (t : Table) (s : System) (limit : ℕ) (at : Standing) (stands : Stands s limit t at) → 0 < length at.rows → (bound : ℕ) × (s.bound ≡ Some bound)
bound_there t s limit at stands some =
    let many = rows_many t s limit at stands in
    bound_by t.sheet s t.limit limit t.bank.now t.count.terms t.rows.now t.used t.limit t.marks.now t.work.now t.fits stands.opened (omega (arith, many, some))
