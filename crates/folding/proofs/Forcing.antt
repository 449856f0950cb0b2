-- A renaming is forced on the names of what it renames, so that all renamings that fit a vector agree on the
-- conditions whose names stand in it.
use Rattle.std.proofs.Common.{◌≡◌, ℕ, zero, suc, ◌<◌, Bool, true, ◌&&◌, ◌||◌, List, [], ◌∷◌, map, length, take, Some, None, Option, sym, refl, ap, ◌∙◌, ⊎_elim, arith, MatchOption}
use Rattle.std.proofs.lemmas.List.{length-take-le}
use Rattle.std.specs.List.{AllByRecursion as All}
use Rattle.std.proofs.lemmas.Bool.{eqb-true, and_parts, or_cases}
use Rattle.terms.specs.declared.TermRecord.{TermRecord}
use Rattle.terms.specs.Terms.{Term, name, constant, unary, binary, ternary, occurs, renamed, Literal}
use Rattle.terms.specs.Bank.{term_at}
use Rattle.sheet.specs.System.{System}
use Rattle.rows.specs.declared.row.RowRecord.{RowRecord}
use Rattle.rows.specs.Records.{Inside, row_in}
use Rattle.forms.specs.Rows.{Row, occurs_in_terms}
use Rattle.forms.specs.Form.{names_among, is_named}
use Rattle.forms.specs.Matching.{renamed_in, Fits}
use Rattle.forms.specs.Counted.{FitsVector}
use Rattle.folding.specs.Pairing.{RenamesEach}
use Rattle.folding.specs.declared.renaming.Renaming.{Renaming}
use Rattle.folding.specs.Matched.{sends, Closed}
use Rattle.folding.proofs.RowPasses.{literals_equal}

module _ (f g : ℕ → ℕ) where
  pub name_forced : (t : Term) → renamed f t ≡ renamed g t → (x : ℕ) → occurs x t ≡ true → f x ≡ g x
  name_forced (name y) e x here = let same = eqb-true x y here in let z : f y ≡ g y = cc in cc
  name_forced (constant s) e x here = let z : ◌≡◌ {A = ℕ} 0 1 = cc in absurd (omega arith)
  name_forced (unary s a) e x here = name_forced a (cc) x here
  name_forced (binary s a b) e x here = ⊎_elim (λ h. name_forced a (cc) x h) (λ h. name_forced b (cc) x h) (or_cases (occurs x a) (occurs x b) here)
  name_forced (ternary s a b c) e x here =
      ⊎_elim (λ h. name_forced a (cc) x h) (λ h. ⊎_elim (λ h. name_forced b (cc) x h) (λ h. name_forced c (cc) x h) (or_cases (occurs x b) (occurs x c) h))
      (or_cases (occurs x a) (occurs x b || occurs x c) here)

  pub names_forced : (ts : List Term) → map (renamed f) ts ≡ map (renamed g) ts → (x : ℕ) → occurs_in_terms x ts ≡ true → f x ≡ g x
  names_forced [] e x here = let z : ◌≡◌ {A = ℕ} 0 1 = cc in absurd (omega arith)
  names_forced (t ∷ ts) e x here =
      ⊎_elim (λ h. name_forced t (cc) x h) (λ h. names_forced ts (cc) x h) (or_cases (occurs x t) (occurs_in_terms x ts) here)

  module _ (among : ℕ → Bool) (agree : (x : ℕ) → among x ≡ true → f x ≡ g x) where
    renamed-same : (t : Term) → names_among among t ≡ true → renamed f t ≡ renamed g t
    renamed-same (name x) only = ap name (agree x only)
    renamed-same (constant s) only = refl
    renamed-same (unary s a) only = ap (unary s) (renamed-same a only)
    renamed-same (binary s a b) only =
        let w = and_parts (names_among among a) (names_among among b) only in
        let p = renamed-same a w.0 in
        let q = renamed-same b w.1 in
        cc
    renamed-same (ternary s a b c) only =
        let w = and_parts (names_among among a) (names_among among b && names_among among c) only in
        let v = and_parts (names_among among b) (names_among among c) w.1 in
        let p = renamed-same a w.0 in
        let q = renamed-same b v.0 in
        let r = renamed-same c v.1 in
        cc

  literal_same : (vector : List Term) → ((x : ℕ) → occurs_in_terms x vector ≡ true → f x ≡ g x) → (c : Literal) → is_named vector c ≡ true → renamed_in f c ≡ renamed_in g c
  literal_same vector agree c only =
      let w = and_parts (names_among (λ x. occurs_in_terms x vector) c.left) (names_among (λ x. occurs_in_terms x vector) c.right) only in
      literals_equal (renamed_in f c) (renamed_in g c) (renamed-same (λ x. occurs_in_terms x vector) agree c.left w.0) (renamed-same (λ x. occurs_in_terms x vector) agree c.right w.1) refl

  literals-same : (vector : List Term) → ((x : ℕ) → occurs_in_terms x vector ≡ true → f x ≡ g x) → (cs : List Literal) → All (λ c. is_named vector c ≡ true) cs → map (renamed_in f) cs ≡ map (renamed_in g) cs
  literals-same vector agree [] only = refl
  literals-same vector agree (c ∷ cs) only =
      let p = literal_same vector agree c only.0 in let q = literals-same vector agree cs only.1 in cc

  -- renamings that fit the vector make the same of the conditions
  pub conditions_same : (older form : Row) → Closed older → FitsVector f older form → FitsVector g older form → map (renamed_in f) older.conditions ≡ map (renamed_in g) older.conditions
  conditions_same older form closed p q =
      literals-same older.vector (names_forced older.vector (p.vector ∙ sym q.vector)) older.conditions closed

pub fits_vector : (to : ℕ → ℕ) (older form : Row) → Fits to older form → FitsVector to older form
fits_vector to older form h = record { names = h.names; bits = h.bits; vector = h.vector }

-- terms renamed one by one, as lists
pub vector_from_each : (rs : List TermRecord) (f : ℕ → ℕ) (older newer : List ℕ) → length older ≡ length newer → RenamesEach rs older newer (length older) f → map (renamed f) (map (term_at rs) older) ≡ map (term_at rs) newer
vector_from_each rs f [] [] same each = refl
vector_from_each rs f [] (j ∷ js) same each = absurd (omega arith)
vector_from_each rs f (i ∷ is) [] same each = absurd (omega arith)
vector_from_each rs f (i ∷ is) (j ∷ js) same each =
    let p = each 0 (omega arith) in let q = vector_from_each rs f is js (omega arith) (λ m lt. each (suc m) (omega arith)) in cc

pub each_from_vector : (rs : List TermRecord) (f : ℕ → ℕ) (older newer : List ℕ) → length older ≡ length newer → map (renamed f) (map (term_at rs) older) ≡ map (term_at rs) newer → RenamesEach rs older newer (length older) f
each_from_vector rs f [] newer same e m lt = absurd (omega arith)
each_from_vector rs f (i ∷ is) [] same e m lt = absurd (omega arith)
each_from_vector rs f (i ∷ is) (j ∷ js) same e zero lt = cc
each_from_vector rs f (i ∷ is) (j ∷ js) same e (suc m) lt = each_from_vector rs f is js (omega arith) (cc) m (omega arith)

pub bits_apart : (s : System) (rs : List TermRecord) (older form : RowRecord) (bits : ℕ) → bits ≡ length s.bits → (take bits older.bits ≡ take bits form.bits → ⊥) → (f : ℕ → ℕ) → FitsVector f (row_in s rs older) (row_in s rs form) → ⊥
bits_apart s rs older form bits b apart f h = apart (ap (λ k. take k older.bits) b ∙ (h.bits ∙ ap (λ k. take k form.bits) (sym b)))

-- the rows of two records, and what their bits and places say of them
module _ (s : System) (rs : List TermRecord) (n readings : ℕ) (older form : RowRecord) (r : readings ≡ length s.readings) (p : Inside s n 16 older) (q : Inside s n 16 form) where
  vectors_same : length (take readings older.vector) ≡ length (take readings form.vector)
  vectors_same =
      length-take-le readings older.vector (omega (arith, p.readings)) ∙ sym (length-take-le readings form.vector (omega (arith, q.readings)))

  pub fit_found : (bits : ℕ) → bits ≡ length s.bits → take bits older.bits ≡ take bits form.bits → (o : Option Renaming) → MatchOption o ((f : ℕ → ℕ) → RenamesEach rs (take readings older.vector) (take readings form.vector) (length (take readings older.vector)) f → ⊥) (λ found. RenamesEach rs (take readings older.vector) (take readings form.vector) (length (take readings older.vector)) (sends found) × ((x : ℕ) → sends found x < 32)) → MatchOption o ((f : ℕ → ℕ) → FitsVector f (row_in s rs older) (row_in s rs form) → ⊥) (λ found. FitsVector (sends found) (row_in s rs older) (row_in s rs form))
  fit_found bits b same None h = λ f fits. h f (each_from_vector rs f (take readings older.vector) (take readings form.vector) vectors_same (ap (λ k. map (renamed f) (map (term_at rs) (take k older.vector))) r ∙ (fits.vector ∙ ap (λ k. map (term_at rs) (take k form.vector)) (sym r))))
  fit_found bits b same (Some found) h =
      record {
        names = h.1;
        bits = ap (λ k. take k older.bits) (sym b) ∙ (same ∙ ap (λ k. take k form.bits) b);
        vector = ap (λ k. map (renamed (sends found)) (map (term_at rs) (take k older.vector))) (sym r) ∙ (vector_from_each rs (sends found) (take readings older.vector) (take readings form.vector) vectors_same h.0 ∙ ap (λ k. map (term_at rs) (take k form.vector)) r);
      }
