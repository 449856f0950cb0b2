-- Cuts follow one another, and end in the form.
use Rattle.std.proofs.Common.{◌≡◌, ℕ, zero, suc, ◌<◌, Bool, cond, List, ◌++◌, Some, None, Option, sym, refl, ap, ◌∙◌, subst, inl, inr, arith}
use Rattle.fault.specs.declared.TableFault.{TableFault}
use Rattle.sheet.specs.System.{System}
use Rattle.terms.specs.declared.TermRecord.{TermRecord}
use Rattle.terms.specs.Terms.{Term, name}
use Rattle.terms.specs.Bank.{Bank, Extends, term_at}
use Rattle.terms.proofs.Filing.{extends_none, extends_more}
use Rattle.banks.specs.Room.{Holding}
use Rattle.banks.specs.Gains.{Gained}
use Rattle.banks.proofs.Gaining.{holding_own, holding_after, roomy_gained, crowded_overfull}
use Rattle.rows.specs.declared.row.RowRecord.{RowRecord}
use Rattle.forms.specs.Rows.{Row, stands, lowest_from, lowest_free}
use Rattle.forms.specs.Form.{first_higher, lowest, replaced_row, trimmed}
use Rattle.forms.specs.Counted.{terms_in, Built, made, nameless, crowded, CutIn, low, wanting, full, cut}
use Rattle.forms.specs.Laws.{IsLowest, CoveredBy}
use Rattle.rows.specs.Names.{is_in, NamesOfRow}
use Rattle.rows.specs.Records.{row_in, Inside, Sound}
use Rattle.forms.proofs.Counting.{counted_form}
use Rattle.forms.proofs.Cutting.{form_covers}
use Rattle.forms.proofs.Shrinking.{sizes, vector_smaller, cutting_rules}
use Rattle.folding.specs.declared.change.Change.TheVariants.{Replace}
use Rattle.folding.specs.Rewriting.{Refused}
use Rattle.folding.specs.Rewritten.{changed_row, RowChanged}
use Rattle.folding.specs.Outcome.{CutMade, CutRefused, Comes, CutsMade, CutsWant, CutsRefused, FormMade}

lowest-same : (f g : ℕ → Bool) → ((x : ℕ) → f x ≡ g x) → (k x : ℕ) → lowest_from f k x ≡ lowest_from g k x
lowest-same f g same zero x = refl
lowest-same f g same (suc k) x = ap (λ b. cond b (lowest_from f k (suc x)) (Some x)) (same x) ∙ ap (λ o. cond (g x) o (Some x)) (lowest-same f g same k (suc x))

-- the lowest name that is not in the row's set of names
pub free_is : (row : Row) (set : ℕ) (o : Option ℕ) → NamesOfRow set row → o ≡ lowest_free (is_in set) → lowest_free (stands row) ≡ o
free_is row set o names is = sym (is ∙ lowest-same (is_in set) (stands row) names 32 0)

pub free_small : (row : Row) (x : ℕ) → lowest_free (stands row) ≡ Some x → x < 32
free_small row x is = by (lowest_free (stands row)) (cutting_rules.names (stands row)) is
  where
    by : (o : Option ℕ) → IsLowest (stands row) o → o ≡ Some x → x < 32
    by None h e = let z : ◌≡◌ {A = ℕ} 0 1 = cc in absurd (omega arith)
    by (Some y) h e = let v : y ≡ x = cc in omega (arith, h.0, v)

module _ (s : System) (rs : List TermRecord) (n : ℕ) (row : RowRecord) (t : Term) (old x : ℕ) (is-old : term_at rs old ≡ lowest t) (free : lowest_free (stands (row_in s rs row)) ≡ Some x) (rs' : List TermRecord) (n' : ℕ) where
  pub cut_made : (next : RowRecord) → RowChanged s rs n (Replace old x) row rs' n' next → CutMade s rs n row t rs' n' next
  cut_made next c =
      let h = subst (λ o. (Gained rs n (terms_in (replaced_row o (name x) (row_in s rs row))) rs' n') × (row_in s rs' next ≡ replaced_row o (name x) (row_in s rs row))) is-old (c.gained, c.is) in
      record { given = x; free = free; gained = h.0; is = h.1; inside = c.inside }

  pub cut_refused : (e : TableFault) → Refused rs n (terms_in (changed_row rs (Replace old x) (row_in s rs row))) rs' n' e → CutRefused s rs n row t rs' n' e
  cut_refused e r = inr (x, free, subst (λ o. Refused rs n (terms_in (replaced_row o (name x) (row_in s rs row))) rs' n' e) is-old r)

-- where cutting stands: what is left of it comes to what all of it comes to
abbrev pub Ahead : ℕ → Row → List TermRecord → ℕ → Row → List Term → Type 0
Ahead h start rs n row seen = (seen' : List Term) × Holding rs n seen' × ((end : Built) → CutIn h seen' row end → CutIn h seen start end)

pub record Midway (s : System) (rs : List TermRecord) (n : ℕ) (row : RowRecord) (h : ℕ) (rs₁ : List TermRecord) (n₁ : ℕ) (now' : RowRecord) : Type 0 where
  pub extends : Extends rs n rs₁ n₁
  pub inside : Inside s n₁ 22 now'
  pub ahead : Comes rs n (Ahead h (row_in s rs row) rs₁ n₁ (row_in s rs₁ now'))

pub midway_none : (s : System) (rs : List TermRecord) (n : ℕ) (row : RowRecord) (h : ℕ) → Bank rs n → Inside s n 22 row → Midway s rs n row h rs n row
midway_none s rs n row h b inside = record { extends = extends_none rs n b; inside = inside; ahead = λ seen holds. (seen, holds, λ end c. c) }

module _ (s : System) (rs : List TermRecord) (n : ℕ) (row : RowRecord) (h : ℕ) (rs₁ : List TermRecord) (n₁ : ℕ) (now' : RowRecord) (m : Midway s rs n row h rs₁ n₁ now') where
  pub cuts_end : first_higher h (row_in s rs₁ now').vector ≡ None → CutsMade s rs n row h rs₁ n₁ now'
  cuts_end none =
      record {
        extends = m.extends;
        inside = m.inside;
        cut = λ seen holds. (let a = m.ahead seen holds in (a.0, a.1, a.2 (made (row_in s rs₁ now') a.0) (low a.0 (row_in s rs₁ now') none)));
      }

  module _ (t : Term) (first : first_higher h (row_in s rs₁ now').vector ≡ Some t) (rs₂ : List TermRecord) (n₂ : ℕ) where
    pub midway_more : (next : RowRecord) → CutMade s rs₁ n₁ now' t rs₂ n₂ next → Midway s rs n row h rs₂ n₂ next
    midway_more next c =
        record {
          extends = extends_more rs rs₁ rs₂ n n₁ n₂ m.extends c.gained.extends;
          inside = c.inside;
          ahead = λ seen holds. (let a = m.ahead seen holds in
              let new = replaced_row (lowest t) (name c.given) (row_in s rs₁ now') in (
                a.0 ++ terms_in new,
                holding_after rs₁ rs₂ n₁ n₂ (terms_in new) c.gained a.0 a.1,
                λ end w. a.2 end (cut a.0 (row_in s rs₁ now') t c.given end first c.free (roomy_gained rs₁ n₁ a.0 a.1 (terms_in new) rs₂ n₂ c.gained) (subst (λ r. CutIn h (a.0 ++ terms_in new) r end) c.is w)),
              ));
        }

    pub cut_smaller : (next : RowRecord) → CutMade s rs₁ n₁ now' t rs₂ n₂ next → sizes (row_in s rs₂ next).vector < sizes (row_in s rs₁ now').vector
    cut_smaller next c =
        subst (λ r. sizes r.vector < sizes (row_in s rs₁ now').vector) (sym c.is) (vector_smaller h c.given t (row_in s rs₁ now').vector first)

    pub midway_refused : (e : TableFault) → CutRefused s rs₁ n₁ now' t rs₂ n₂ e → CutsRefused s rs n row h rs₂ n₂ e
    midway_refused e (inl w) =
        record {
          extends = extends_more rs rs₁ rs₂ n n₁ n₂ m.extends w.2;
          want = subst (CutsWant s rs n row h) (sym w.0) (λ seen holds. (let a = m.ahead seen holds in a.2 nameless (wanting a.0 (row_in s rs₁ now') t first w.1)));
        }
    midway_refused e (inr w) =
        let x = w.0 in
        let r = w.2 in
        record {
          extends = extends_more rs rs₁ rs₂ n n₁ n₂ m.extends r.extends;
          want = subst (CutsWant s rs n row h) (sym r.fault)
              (λ seen holds. (let a = m.ahead seen holds in a.2 crowded (full a.0 (row_in s rs₁ now') t x first w.1 (crowded_overfull rs₁ n₁ a.0 a.1 (terms_in (replaced_row (lowest t) (name x) (row_in s rs₁ now'))) r.over))));
        }

-- the cuts, and the conditions that go, make the form
pub form_made : (s : System) (rs : List TermRecord) (n : ℕ) (row : RowRecord) (h : ℕ) (rs' : List TermRecord) (n' : ℕ) (end form : RowRecord) → Sound s rs n 22 row → CutsMade s rs n row h rs' n' end → row_in s rs' form ≡ trimmed h (row_in s rs' end) → Inside s n' 16 form → FormMade s rs n row h rs' n' form
form_made s rs n row h rs' n' end form sound c is inside =
    record { sound = sound; extends = c.extends; inside = inside; is = λ seen holds. (let a = c.cut seen holds in (a.0, a.1, (row_in s rs' end, a.2, is))) }

pub form_covers_all : (s : System) (rs : List TermRecord) (n : ℕ) (row : RowRecord) (h : ℕ) (rs' : List TermRecord) (n' : ℕ) (form : RowRecord) → FormMade s rs n row h rs' n' form → CoveredBy (row_in s rs row) (row_in s rs' form)
form_covers_all s rs n row h rs' n' form m =
    let own = holding_own rs n m.sound.bank in
    let a = m.is _ own in
    form_covers h (row_in s rs row) (row_in s rs' form) ((counted_form h _ (row_in s rs row)).made (row_in s rs' form) a.0 a.2)
