-- An empty bank has room for row 0 and for the terms of all claims over it; and what the first row and its judgement come to.
use Rattle.std.proofs.Common.{◌≡◌, ℕ, zero, suc, ◌+◌, ◌≤◌, Bool, true, List, [], ◌∷◌, ◌++◌, map, length, get_or, Ok, Err, ⊎_elim, refl, sym, ◌∙◌, subst, append-nil, arith}
use Rattle.std.specs.List.{ContainsAt as Has, AllByRecursion as All}
use Rattle.std.proofs.ByRecursion.{All-append}
use Rattle.std.proofs.lemmas.Bool.{leb-true}
use Rattle.std.proofs.lemmas.List.{length-map, length-append}
use Rattle.fault.specs.declared.TableFault.{TableFault}
use Rattle.fault.specs.declared.TableFault.TheVariants.{BadMemory, UnsafeStart, NoSuchBranch, NotWaiting, NotOut, HeightAboveBound, NamesExhausted, TermsExhausted, Satisfiable, NoRenaming, UnsafeForm, RowLimit}
use Rattle.sheet.specs.declared.syntax.Args.TheVariants.{Zero, One, Two, Three}
use Rattle.sheet.specs.declared.syntax.Equation.{Equation}
use Rattle.sheet.specs.declared.syntax.Reading.{Reading}
use Rattle.sheet.specs.declared.syntax.Start.{Start}
use Rattle.sheet.specs.declared.syntax.Term.{Term as SheetTerm}
use Rattle.sheet.specs.Grow.{grow}
use Rattle.sheet.specs.Lawful.{Lawful}
use Rattle.sheet.specs.Runs.{numbered}
use Rattle.sheet.specs.System.{System}
use Rattle.sheet.proofs.Fewness.{lawful_sheet, few_readings}
use Rattle.sheet.proofs.Growing.{grow-length}
use Rattle.terms.specs.Terms.{Term}
use Rattle.terms.specs.declared.TermRecord.{TermRecord}
use Rattle.terms.specs.Bank.{Bank}
use Rattle.terms.proofs.Filing.{bank_none}
use Rattle.banks.specs.Room.{Throughout, Roomy, Crowded, Holding}
use Rattle.banks.proofs.Gaining.{all_left}
use Rattle.forms.specs.Rows.{Row, start_term, start_of, first_row}
use Rattle.forms.specs.Candidate.{no_term, term_over, terms_over, condition_of, branch_answers}
use Rattle.forms.specs.Counted.{sides_of, claim_terms}
use Rattle.forms.specs.Safety.{Safe}
use Rattle.forms.proofs.Counting.{not-both}
use Rattle.rows.specs.declared.row.RowRecord.{RowRecord}
use Rattle.rows.specs.Records.{row_in}
use Rattle.candidates.specs.Outcome.{Kept, FirstRowMade, FirstRowCounted}
use Rattle.candidates.specs.Judged.{Judgeable, Judged}
use Rattle.folding.specs.Matched.{Closed}
use Rattle.table.specs.Offers.{Begun}
use Rattle.table.proofs.Staying.{row_stays, inside_more, holding_kept}

module _ {A : Type 0} where
  has_head : (x : A) (xs : List A) → Has (x ∷ xs) x
  has_head x xs = (0, omega arith, λ d. refl)

  has_tail : (x y : A) (xs : List A) → Has xs y → Has (x ∷ xs) y
  has_tail x y xs h = let lt = h.1 in (suc h.0, omega arith, λ d. h.2 d)

  has_left : (xs ys : List A) (y : A) → Has xs y → Has (xs ++ ys) y
  has_left [] ys y h = let lt = h.1 in absurd (omega arith)
  has_left (x ∷ xs) ys y (zero, lt, at) = (0, omega arith, at)
  has_left (x ∷ xs) ys y (suc k, lt, at) = has_tail x y (xs ++ ys) (has_left xs ys y (k, omega arith, λ d. at d))

  has_right : (xs ys : List A) (y : A) → Has ys y → Has (xs ++ ys) y
  has_right [] ys y h = h
  has_right (x ∷ xs) ys y h = has_tail x y (xs ++ ys) (has_right xs ys y h)

  -- each element of a list stands in a list that has all of them
  all_stand : (xs ys : List A) → ((x : A) → Has xs x → Has ys x) → All (Has ys) xs
  all_stand [] ys h = tt
  all_stand (x ∷ xs) ys h = (h x (has_head x xs), all_stand xs ys (λ y at. h y (has_tail x y xs at)))

  -- what is true of all, and past the end
  all_get : (P : A → Type 0) (xs : List A) (d : A) → All P xs → P d → (i : ℕ) → P (get_or xs i d)
  all_get P [] d h past i = past
  all_get P (x ∷ xs) d h past zero = h.0
  all_get P (x ∷ xs) d h past (suc i) = all_get P xs d h.1 past i

  -- what was there before a list grew is there after
  has_grown : {N : Type 0} (step : List A → N → A) (seen : List A) (xs : List N) (y : A) → Has seen y → Has (grow step seen xs) y
  has_grown step seen [] y h = h
  has_grown step seen (x ∷ xs) y h = has_grown step (seen ++ step seen x ∷ []) xs y (has_left seen (step seen x ∷ []) y h)

-- starts have no subterms
starts_throughout : (P : Term → Type 0) (ws : List Reading) → All P (map start_of ws) → All (Throughout P) (map start_of ws)
starts_throughout P [] h = tt
starts_throughout P (w ∷ ws) h = (one w.start h.0, starts_throughout P ws h.1)
  where
    one : (x : Start) → P (start_term x) → Throughout P (start_term x)
    one (Start.Name n) p = p
    one (Start.Constant f) p = p

-- a list that has the terms of a sheet over a vector has their subterms too, if it has the vector's and a term for what is past the end
module _ (P : Term → Type 0) (v : List Term) (past : P no_term) (vector : All (Throughout P) v) where
  term_throughout : (seen : List Term) → All (Throughout P) seen → (x : SheetTerm) → P (term_over v [] seen x) → Throughout P (term_over v [] seen x)
  term_throughout seen h (SheetTerm.Reading r) p = all_get (Throughout P) v no_term vector past r
  term_throughout seen h (SheetTerm.Input i) p = p
  term_throughout seen h (SheetTerm.Apply f Zero) p = p
  term_throughout seen h (SheetTerm.Apply f (One a)) p = (p, all_get (Throughout P) seen no_term h past a)
  term_throughout seen h (SheetTerm.Apply f (Two a b)) p = (p, all_get (Throughout P) seen no_term h past a, all_get (Throughout P) seen no_term h past b)
  term_throughout seen h (SheetTerm.Apply f (Three a b c)) p = (p, all_get (Throughout P) seen no_term h past a, all_get (Throughout P) seen no_term h past b, all_get (Throughout P) seen no_term h past c)

  terms_throughout : (seen : List Term) (xs : List SheetTerm) → All (Throughout P) seen → ((t : Term) → Has (grow (term_over v []) seen xs) t → P t) → All (Throughout P) (grow (term_over v []) seen xs)
  terms_throughout seen [] h each = h
  terms_throughout seen (x ∷ xs) h each =
      let t : Term = term_over v [] seen x in
      let p : P t = each t (has_grown (term_over v []) (seen ++ t ∷ []) xs t (has_right seen (t ∷ []) t (has_head t []))) in
      terms_throughout (seen ++ t ∷ []) xs (All-append (Throughout P) seen (t ∷ []) h (term_throughout seen h x p, tt)) each

  sides_throughout : (ts : List Term) → All (Throughout P) ts → (answers : List Bool) (k : ℕ) (es : List Equation) → All (Throughout P) (sides_of (numbered (condition_of ts answers) k es))
  sides_throughout ts h answers k [] = tt
  sides_throughout ts h answers k (e ∷ es) = (all_get (Throughout P) ts no_term h past e.left, (all_get (Throughout P) ts no_term h past e.right, sides_throughout ts h answers (suc k) es))

module _ (s : System) (lawful : ∥ Lawful s ∥₁) where
  abbrev vector : List Term
  vector = (first_row s).vector

  abbrev over : List Term
  over = terms_over vector [] s.terms

  abbrev all : List Term
  all = no_term ∷ (vector ++ over)

  -- row 0 and the terms of all claims over it have room
  pub first_roomy : Roomy (vector ++ claim_terms s (first_row s))
  first_roomy =
      let P : Term → Type 0 = Has all in
      let past : P no_term = has_head no_term (vector ++ over) in
      let stands : All P vector = all_stand vector all (λ t h. has_tail no_term t (vector ++ over) (has_left vector over t h)) in
      let first : All (Throughout P) vector = starts_throughout P s.readings stands in
      let terms : All (Throughout P) over = terms_throughout P vector past first [] s.terms tt (λ t h. has_tail no_term t (vector ++ over) (has_right vector over t h)) in
      let few_terms : length s.terms ≤ 64 = leb-true (length s.terms) 64 (lawful_sheet s lawful).few.terms in
      let few : length vector ≤ 6 = omega (arith, length-map s.readings start_of, few_readings s lawful) in
      let long = length-append vector over in
      let none : List Term = [] in
      let grown : length over ≡ length none + length s.terms = grow-length (term_over vector []) [] s.terms in
      (all, All-append (Throughout P) vector (claim_terms s (first_row s)) first (sides_throughout P vector past first over terms (branch_answers (length s.claims) 0) 0 s.claims), omega arith)

  -- and row 0 alone has
  row_roomy : Roomy (vector ++ sides_of [])
  row_roomy =
      let P : Term → Type 0 = Throughout (Has first_roomy.0) in
      (first_roomy.0, All-append P vector (sides_of []) (all_left P vector (claim_terms s (first_row s)) first_roomy.1) tt, first_roomy.2)

  -- an empty bank holds nothing
  holding_none : (rs : List TermRecord) (n : ℕ) → n ≡ 0 → Holding rs n []
  holding_none rs n is =
      let bank : Bank rs n = subst (Bank rs) (sym is) (bank_none rs) in
      record { bank = bank; has = tt; only = λ all h k p. absurd (omega arith) }

  module _ (rs rs₁ : List TermRecord) (n n₁ : ℕ) (empty : n ≡ 0) (long : length rs ≡ 512) where
    -- nothing refuses row 0 in an empty bank
    pub row_unrefused : (e : TableFault) → FirstRowMade s rs n rs₁ n₁ (Err e) → ((seen : List Term) → Holding rs n seen → FirstRowCounted s seen rs₁ n₁ (Err e)) → ⊥
    row_unrefused BadMemory m counted = m.0 long (subst (Bank rs) (sym empty) (bank_none rs))
    row_unrefused UnsafeStart m counted = m.0
    row_unrefused NoSuchBranch m counted = m.0
    row_unrefused NotWaiting m counted = m.0
    row_unrefused NotOut m counted = m.0
    row_unrefused HeightAboveBound m counted = m.0
    row_unrefused NamesExhausted m counted = m.0
    row_unrefused TermsExhausted m counted = not-both (vector ++ sides_of []) row_roomy (counted [] (holding_none rs n empty))
    row_unrefused Satisfiable m counted = m.0
    row_unrefused NoRenaming m counted = m.0
    row_unrefused UnsafeForm m counted = m.0
    row_unrefused RowLimit m counted = m.0

    module _ (r : RowRecord) (labels : List ℕ) (m : FirstRowMade s rs n rs₁ n₁ (Ok r)) (counted : (seen : List Term) → Holding rs n seen → FirstRowCounted s seen rs₁ n₁ (Ok r)) where
      -- the bank holds the row's vector
      held : Holding rs₁ n₁ vector
      held = subst (Holding rs₁ n₁) (append-nil vector) (counted [] (holding_none rs n empty)).1

      -- nor is it refused to judge it
      pub row_judged : length rs₁ ≡ length rs → length labels ≡ 512 → (e : TableFault) → Judged s rs₁ n₁ r labels (Err e) → ⊥
      row_judged longer labelled e j =
          let sound : Judgeable s rs₁ n₁ r labels = record { sound = record { bank = m.2.extends.bank; long = longer ∙ long; row = m.3.inside }; labelled = omega arith } in
          let many : (seen : List Term) → Holding rs₁ n₁ seen → Crowded (seen ++ claim_terms s (row_in s rs₁ r)) = ⊎_elim (λ no'. absurd (no'.1 sound)) (λ no'. no'.2) j in
          not-both (vector ++ claim_terms s (first_row s)) first_roomy (subst (λ (x : Row). Crowded (vector ++ claim_terms s x)) m.3.stands (many vector held))

      pub begun : (safe : Bool) → Judged s rs₁ n₁ r labels (Ok safe) → safe ≡ true → (rs₂ : List TermRecord) (n₂ : ℕ) → Kept rs₁ n₁ rs₂ n₂ → Begun s rs₂ n₂ (Ok r)
      begun safe j is rs₂ n₂ kept =
          let same : row_in s rs₂ r ≡ first_row s = row_stays s rs₁ rs₂ n₁ 16 r kept.records m.3.inside ∙ m.3.stands in
          let closed : Closed (row_in s rs₂ r) = subst Closed (sym same) tt in
          (same, subst (Safe s) m.3.stands (j.1.decided.0 is), holding_kept rs₁ rs₂ n₁ n₂ vector held kept, record { inside = inside_more s n₁ n₂ 16 r (omega (arith, kept.count)) m.3.inside; closed = closed })
