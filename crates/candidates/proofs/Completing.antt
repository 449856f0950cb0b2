-- What is built over a sound row is its candidate.
use Rattle.std.proofs.Common.{◌≡◌, ℕ, ◌<◌, ◌≤◌, Bool, false, List, map, length, get_or, take, replicate, None, Ok, Err, Option, Result, sym, refl, ap₂, ◌∙◌, [], subst, arith, length-take}
use Rattle.std.proofs.Math.Path.{fun_ext}
use Rattle.std.proofs.lemmas.List.{get_or-take}
use Rattle.fault.specs.declared.TableFault.{TableFault}
use Rattle.sheet.specs.declared.syntax.Reading.{Reading}
use Rattle.sheet.specs.declared.syntax.TermEntry.{TermEntry}
use Rattle.sheet.specs.Runs.{numbered, or_kept}
use Rattle.sheet.specs.Stored.{term_in}
use Rattle.sheet.specs.Lawful.{Lawful}
use Rattle.sheet.specs.System.{System}
use Rattle.sheet.specs.Truth.{truths, chosen}
use Rattle.terms.specs.declared.Condition.{Condition}
use Rattle.terms.specs.declared.TermRecord.{TermRecord}
use Rattle.terms.specs.Terms.{Term, Literal}
use Rattle.terms.specs.Bank.{Extends}
use Rattle.terms.proofs.Filing.{extends_more}
use Rattle.closure.specs.Labels.{no_condition}
use Rattle.banks.specs.Gains.{Gained, Overfull}
use Rattle.rows.specs.declared.row.RowRecord.{RowRecord}
use Rattle.forms.specs.Rows.{Row}
use Rattle.forms.specs.Candidate.{no_term, branch_answers, terms_over, condition_of, next_term_of, candidate_with}
use Rattle.forms.specs.Counted.{sides_of, terms_in}
use Rattle.rows.specs.Records.{row_in, Between, Sound}
use Rattle.candidates.specs.declared.conditions.Conditions.{Conditions}
use Rattle.candidates.specs.Outcome.{Lists, StandsFor}
use Rattle.candidates.specs.Working.{Recalls, Started, Over, Added, Made, Vectored, Joined, WalksOver, next_over}
use Rattle.candidates.proofs.Walking.{over_later}
use Rattle.sheet.proofs.Fewness.{few_questions}
use Rattle.sheet.proofs.Numbering.{numbered-length}
use Rattle.candidates.proofs.Composing.{recalls_none, vectored_map, joined_lists, gained_both, overfull_both, overfull_first, overfull_second, gained_row, joined_later}

-- a sound row on a branch, and what its candidate is built from: the terms, the places, the answers and the inputs' names
pub record Building (s : System) (rs : List TermRecord) (n : ℕ) (row : RowRecord) (names : List ℕ) (b : ℕ) (entries : List TermEntry) (places : List ℕ) (answers : List Bool) (inputs : List ℕ) : Type 0 where
  pub sound : Sound s rs n 16 row
  pub few : length s.questions ≤ 6
  pub small : (k : ℕ) → get_or names k 0 < 32
  pub terms : map term_in entries ≡ s.terms
  pub vector : places ≡ take (length s.readings) row.vector
  pub replies : answers ≡ branch_answers (length s.questions) b
  pub named : inputs ≡ names

pub building : (s : System) → ∥ Lawful s ∥₁ → {rs : List TermRecord} {n : ℕ} {row : RowRecord} → Sound s rs n 16 row → (names : List ℕ) → ((k : ℕ) → get_or names k 0 < 32) → (b : ℕ) (entries : List TermEntry) → map term_in entries ≡ s.terms → {places : List ℕ} → places ≡ take (length s.readings) row.vector → {answers : List Bool} → answers ≡ branch_answers (length s.questions) b → {inputs : List ℕ} → inputs ≡ names → Building s rs n row names b entries places answers inputs
building s lawful sound names small b entries terms vector replies named =
    record { sound = sound; few = few_questions s lawful; small = small; terms = terms; vector = vector; replies = replies; named = named }

module _ {s : System} {rs : List TermRecord} {n : ℕ} {row : RowRecord} {names : List ℕ} {b : ℕ} {entries : List TermEntry} {places : List ℕ} {answers : List Bool} {inputs : List ℕ} (f : Building s rs n row names b entries places answers inputs) where
  abbrev old : Row
  old = row_in s rs row

  abbrev replies : List Bool
  replies = branch_answers (length s.questions) b

  abbrev over : List Term
  over = terms_over (row_in s rs row).vector names s.terms

  abbrev asked : List Literal
  asked = numbered (condition_of (terms_over (row_in s rs row).vector names s.terms) (branch_answers (length s.questions) b)) 0 s.questions

  abbrev own : List Condition
  own = take row.used row.conditions

  abbrev pub next : Row
  next = candidate_with s (row_in s rs row) names (branch_answers (length s.questions) b)

  own_long : length (take row.used row.conditions) ≡ row.used
  own_long = omega (arith, length-take row.used row.conditions, f.sound.row.stored)

  own_between : Between n (take row.used row.conditions) (length (take row.used row.conditions))
  own_between =
      record {
        lefts = λ k lt. (let lt' : k < row.used = omega (arith, own_long) in subst (λ (c : Condition). c.left < n) (sym (get_or-take row.used row.conditions k no_condition lt')) (f.sound.row.conditions.lefts k lt'));
        rights = λ k lt. (let lt' : k < row.used = omega (arith, own_long) in subst (λ (c : Condition). c.right < n) (sym (get_or-take row.used row.conditions k no_condition lt')) (f.sound.row.conditions.rights k lt'));
      }

  asked_few : length (numbered (condition_of (terms_over (row_in s rs row).vector names s.terms) (branch_answers (length s.questions) b)) 0 s.questions) ≤ 6
  asked_few = omega (arith, f.few, numbered-length (condition_of over replies) 0 s.questions)

  own_few : length (take row.used row.conditions) ≤ 16
  own_few = omega (arith, own_long, f.sound.row.few)

  row_over : Over (row_in s rs row).vector rs n (take (length s.readings) row.vector) names
  row_over =
      record {
        inside = λ k lt. (let lt' : k < length s.readings = omega (arith, length-take (length s.readings) row.vector, f.sound.row.readings) in subst (λ p. p < n) (sym (get_or-take (length s.readings) row.vector k 0 lt')) (f.sound.row.vector k lt'));
        terms = refl;
        small = f.small;
      }

  row_started : (values : List Term) → Started values rs n (replicate 64 None)
  row_started values = record { bank = f.sound.bank; long = omega (arith, f.sound.long); recalled = recalls_none values rs n 64 }

  given_over : Over (row_in s rs row).vector rs n places names
  given_over = subst (λ ps. Over (row_in s rs row).vector rs n ps names) (sym f.vector) row_over

  pub conditions_refused : Overfull rs n (sides_of asked) → Overfull rs n (terms_in next)
  conditions_refused over' = overfull_first rs n asked own own_between next.vector over'

  module _ (rs₁ : List TermRecord) (n₁ : ℕ) (known₁ : List (Option ℕ)) where
    pub conditions_joined : (mine : List Condition) → mine ≡ take row.used row.conditions → (r : Result Conditions TableFault)
        → WalksOver entries places inputs rs n (replicate 64 None) (λ v values. sides_of (numbered (condition_of values answers) 0 s.questions)) rs₁ n₁ known₁ (λ v values. Joined rs₁ n₁ (numbered (condition_of values answers) 0 s.questions) mine) r
        → Added rs n (sides_of asked) rs₁ n₁ (Made over rs₁ n₁ known₁ (Joined rs₁ n₁ asked own)) r
    conditions_joined mine e r walks =
        let walks' = subst (λ ns. WalksOver entries places ns rs n (replicate 64 None) (λ v values. sides_of (numbered (condition_of values answers) 0 s.questions)) rs₁ n₁ known₁ (λ v values. Joined rs₁ n₁ (numbered (condition_of values answers) 0 s.questions) mine) r) f.named walks in
        let x = walks' (row_in s rs row).vector given_over (row_started (terms_over (row_in s rs row).vector names (map term_in entries))) in
        subst (λ cs. Added rs n (sides_of asked) rs₁ n₁ (Made over rs₁ n₁ known₁ (Joined rs₁ n₁ asked cs)) r) e
        (subst (λ bs. Added rs n (sides_of (numbered (condition_of over bs) 0 s.questions)) rs₁ n₁ (Made over rs₁ n₁ known₁ (Joined rs₁ n₁ (numbered (condition_of over bs) 0 s.questions) mine)) r) f.replies
        (subst (λ ts. Added rs n (sides_of (numbered (condition_of (terms_over (row_in s rs row).vector names ts) answers) 0 s.questions)) rs₁ n₁ (Made (terms_over (row_in s rs row).vector names ts) rs₁ n₁ known₁ (Joined rs₁ n₁ (numbered (condition_of (terms_over (row_in s rs row).vector names ts) answers) 0 s.questions) mine)) r) f.terms x))

    pub conditions_built : (r : Result Conditions TableFault) → Added rs n (sides_of asked) rs₁ n₁ (Made over rs₁ n₁ known₁ (Joined rs₁ n₁ asked own)) r → Added rs n (sides_of next.conditions) rs₁ n₁ (Lists rs₁ n₁ next.conditions) r
    conditions_built (Ok c) x =
        (gained_both rs n asked own own_between rs₁ n₁ c x.1.made x.0, joined_lists rs n asked own own_between rs₁ n₁ x.0.extends c x.1.made asked_few own_few)
    conditions_built (Err e) x = (x.0, overfull_both rs n asked own own_between x.1, x.2)

    -- the vector, once the questions' terms are there
    module _ (g : Gained rs n (sides_of asked) rs₁ n₁) (recalled : Recalls over rs₁ n₁ known₁) (long : length rs₁ ≡ length rs) (rs₂ : List TermRecord) (n₂ : ℕ) (known₂ : List (Option ℕ)) where
      pub vector_placed : (before : List Bool) → before ≡ (row_in s rs row).bits → (picked : List ℕ) → ((k : ℕ) → get_or picked k 0 ≡ get_or (chosen (λ g. get_or (truths before answers [] s.formulas) g false) s.choices) k 0) → (readings : List Reading) → readings ≡ s.readings → (r : Result (List ℕ) TableFault)
          → WalksOver entries places inputs rs₁ n₁ known₁ (λ v values. numbered (λ m x. next_over picked v values m x.next) 0 readings) rs₂ n₂ known₂ (λ v values. Vectored rs₂ n₂ (numbered (λ m x. next_over picked v values m x.next) 0 readings) (length readings)) r
          → Added rs₁ n₁ next.vector rs₂ n₂ (Made over rs₂ n₂ known₂ (Vectored rs₂ n₂ next.vector (length s.readings))) r
      vector_placed before was picked right readings is r walks =
          let start : Started (terms_over (row_in s rs row).vector names (map term_in entries)) rs₁ n₁ known₁ = record { bank = g.extends.bank; long = omega (arith, f.sound.long); recalled = subst (λ ts. Recalls (terms_over (row_in s rs row).vector names ts) rs₁ n₁ known₁) (sym f.terms) recalled } in
          let walks' = subst (λ ns. WalksOver entries places ns rs₁ n₁ known₁ (λ v values. numbered (λ m x. next_over picked v values m x.next) 0 readings) rs₂ n₂ known₂ (λ v values. Vectored rs₂ n₂ (numbered (λ m x. next_over picked v values m x.next) 0 readings) (length readings)) r) f.named walks in
          let x = walks' (row_in s rs row).vector (over_later (row_in s rs row).vector rs rs₁ n n₁ places names g.extends given_over) start in
          subst (λ (pick : ℕ → ℕ). Added rs₁ n₁ (numbered (λ m y. or_kept (λ k. get_or over (pick k) no_term) (get_or (row_in s rs row).vector m no_term) y.next) 0 s.readings) rs₂ n₂ (Made over rs₂ n₂ known₂ (Vectored rs₂ n₂ (numbered (λ m y. or_kept (λ k. get_or over (pick k) no_term) (get_or (row_in s rs row).vector m no_term) y.next) 0 s.readings) (length s.readings))) r) (fun_ext (λ k. right k ∙ ap₂ (λ (bs rs' : List Bool). get_or (chosen (λ g. get_or (truths bs rs' [] s.formulas) g false) s.choices) k 0) was f.replies))
          (subst (λ (ys : List Reading). Added rs₁ n₁ (numbered (λ m y. next_over picked (row_in s rs row).vector over m y.next) 0 ys) rs₂ n₂ (Made over rs₂ n₂ known₂ (Vectored rs₂ n₂ (numbered (λ m y. next_over picked (row_in s rs row).vector over m y.next) 0 ys) (length ys))) r) is
          (subst (λ ts. Added rs₁ n₁ (numbered (λ m y. next_over picked (row_in s rs row).vector (terms_over (row_in s rs row).vector names ts) m y.next) 0 readings) rs₂ n₂ (Made (terms_over (row_in s rs row).vector names ts) rs₂ n₂ known₂ (Vectored rs₂ n₂ (numbered (λ m y. next_over picked (row_in s rs row).vector (terms_over (row_in s rs row).vector names ts) m y.next) 0 readings) (length readings))) r) f.terms x))

      pub row_built : (c : Conditions) (bits : List Bool) (vector : List ℕ) → Joined rs₁ n₁ asked own c → Gained rs₁ n₁ next.vector rs₂ n₂ → Vectored rs₂ n₂ next.vector (length s.readings) vector → take (length s.bits) bits ≡ next.bits → length s.bits ≤ length bits → length s.readings ≤ length vector
          → Gained rs n (terms_in next) rs₂ n₂ × StandsFor s rs₂ n₂ 22 next (record { bits = bits; vector = vector; conditions = c.list; used = c.used })
      row_built c bits vector j h placed is room room' =
          let j' = joined_later rs n asked own own_between next.vector rs₁ n₁ g rs₂ n₂ c j h.extends in
          let l = joined_lists rs n asked own own_between rs₂ n₂ (extends_more rs rs₁ rs₂ n n₁ n₂ g.extends h.extends) c j' asked_few own_few in
          let v = vectored_map rs₂ n₂ next.vector vector (length s.readings) (numbered-length (next_term_of s old names replies) 0 s.readings) room' placed in
          let cs = l.literals in (
            gained_row rs n asked own own_between next.vector rs₁ n₁ g rs₂ n₂ c j h,
            record {
              stands = λ i. record { bits = is i; vector = v i; conditions = cs i };
              inside = record { bits = room; readings = room'; vector = λ k lt. (placed k lt).0; few = l.few; stored = omega (arith, l.few, j.long); conditions = l.between };
            },
          )

      pub vector_refused : Overfull rs₁ n₁ next.vector → Extends rs₁ n₁ rs₂ n₂ → Overfull rs n (terms_in next) × Extends rs n rs₂ n₂
      vector_refused over' x =
          (overfull_second rs n asked own own_between next.vector rs₁ n₁ g rs₂ n₂ over', extends_more rs rs₁ rs₂ n n₁ n₂ g.extends x)

  -- the bits
  pub bits_built : (before : List Bool) → before ≡ (row_in s rs row).bits → (truth : List Bool) → ((g : ℕ) → get_or truth g false ≡ get_or (truths before answers [] s.formulas) g false) → (out : List Bool)
      → take (length s.bits) out ≡ numbered (λ m x. or_kept (λ f. get_or truth f false) (get_or before m false) x.next) 0 s.bits → take (length s.bits) out ≡ next.bits
  bits_built before was truth right out e =
      subst (λ (t : ℕ → Bool). take (length s.bits) out ≡ numbered (λ m x. or_kept t (get_or (row_in s rs row).bits m false) x.next) 0 s.bits) (fun_ext (λ g. right g ∙ ap₂ (λ (bs rs' : List Bool). get_or (truths bs rs' [] s.formulas) g false) was f.replies))
      (subst (λ (l : List Bool). take (length s.bits) out ≡ numbered (λ m x. or_kept (λ f. get_or truth f false) (get_or l m false) x.next) 0 s.bits) was e)
