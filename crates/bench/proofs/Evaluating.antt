-- The values of terms, pass by pass.
use Rattle.std.proofs.Common.{◌≡◌, ℕ, suc, ◌+◌, ◌<◌, ◌≤◌, Bool, true, false, ◌||◌, eqb, ltb, List, [], ◌∷◌, map, length, get_or, take, set, vec_items, sym, refl, ap, ◌∙◌, ap₂, ⊎_elim, arith, length-set, length-take}
use mathlib.Core.Bool.{beq, Bool-set}
use mathlib.Core.Logic.{∥∥₁_elim}
use lib.ListN.{length-map}
use Rattle.std.proofs.lemmas.List.{get_or-set_same, get_or-set_other, get_or_past, get_or-take, get_or-map}
use Rattle.std.proofs.lemmas.Bool.Decides.{eqb_tells, leb_tells}
use Rattle.sheet.specs.declared.parts.Parts.{Parts}
use Rattle.sheet.specs.declared.syntax.Args.{Args}
use Rattle.sheet.specs.declared.syntax.Args.TheVariants.{Zero, One, Two, Three}
use Rattle.sheet.specs.declared.syntax.Term.{Term}
use Rattle.sheet.specs.declared.syntax.TermEntry.{TermEntry}
use Rattle.sheet.specs.declared.syntax.TermInfo.{TermInfo}
use Rattle.sheet.specs.Stored.{term_in, term_info_in, Informed}
use Rattle.sheet.specs.Rules.{no_info, input_at, args_info, term_info, term_infos}
use Rattle.sheet.specs.Truth.{Meaning, arg_values, term_value, term_values}
use Rattle.sheet.proofs.Arrays.{set_more}
use Rattle.sheet.proofs.Growing.{grow_at, grow-length}
use Rattle.bench.specs.Values.{Due, Known}

abbrev has_input_in : TermInfo → Bool
has_input_in i = i.has_input

-- what is stored with a term says whether an input stands in it
pub informed_at : (p : Parts) → ∥ Informed p ∥₁ → (k : ℕ) (e : TermEntry) → k < length (vec_items p.terms) → e ≡ get_or (vec_items p.terms) k e → e.info.has_input ≡ input_at (term_infos (map term_in (vec_items p.terms))) k
informed_at p h k e l got = ∥∥₁_elim h (Bool-set _ _) (λ i. ap (λ (x : TermEntry). x.info.has_input) got ∙ (ap has_input_in (sym (get_or-map term_info_in (vec_items p.terms) k e no_info l)) ∙ ap (λ x. input_at x k) i.terms))

pub unlike : {A : Type 0} → ◌≡◌ {A = Bool} false true → A
unlike e = let z : ◌≡◌ {A = ℕ} 0 1 = cc in absurd (omega arith)

-- what is due in a whole is due in its parts
due_left : (late x y : Bool) → Due late (x || y) → Due late x
due_left late true y h e = h refl
due_left late false y h e = unlike e

due_right : (late x y : Bool) → Due late (x || y) → Due late y
due_right late true y h e = h refl
due_right late false y h e = h e

module _ (late : Bool) (infos : List TermInfo) (s t : List ℕ) (agree : (a : ℕ) → Due late (input_at infos a) → get_or s a 0 ≡ get_or t a 0) where
  args_known : (args : Args) → Due late (args_info infos args).has_input → arg_values s args ≡ arg_values t args
  args_known Zero due = refl
  args_known (One a) due = ap (λ x. x ∷ []) (agree a due)
  args_known (Two a b) due =
      let p = agree a (due_left late (input_at infos a) (input_at infos b) due) in
      let q = agree b (due_right late (input_at infos a) (input_at infos b) due) in
      ap₂ (λ x y. x ∷ y ∷ []) p q
  args_known (Three a b c) due =
      let rest = due_right late (input_at infos a) (input_at infos b || input_at infos c) due in
      let p = agree a (due_left late (input_at infos a) (input_at infos b || input_at infos c) due) in
      let q = agree b (due_left late (input_at infos b) (input_at infos c) rest) in
      let r = agree c (due_right late (input_at infos b) (input_at infos c) rest) in
      ap₂ (λ (x : ℕ) (l : List ℕ). x ∷ l) p (ap₂ (λ x y. x ∷ y ∷ []) q r)

  pub term_known : (m : Meaning) (readings inputs : List ℕ) (x : Term) → Due late (term_info infos x).has_input → term_value m readings inputs s x ≡ term_value m readings inputs t x
  term_known m readings inputs (Term.Reading r) due = refl
  term_known m readings inputs (Term.Input i) due = refl
  term_known m readings inputs (Term.Apply f args) due = ap (m f) (args_known args due)

-- lists that agree below k on what is due agree so everywhere once they are cut off there
pub cut_due : (late : Bool) (infos : List TermInfo) (s t : List ℕ) (k : ℕ) → ((a : ℕ) → a < k → Due late (input_at infos a) → get_or s a 0 ≡ get_or t a 0) → (a : ℕ) → Due late (input_at (take k infos) a) → get_or (take k s) a 0 ≡ get_or (take k t) a 0
cut_due late infos s t k h a due = ⊎_elim (λ (o : (ltb a k ≡ true) × (a < k)). get_or-take k s a 0 o.1 ∙ (h a o.1 (λ e. due (ap has_input_in (get_or-take k infos a no_info o.1) ∙ e)) ∙ sym (get_or-take k t a 0 o.1))) (λ (o : (ltb a k ≡ false) × (k < suc a)). get_or_past (take k s) a 0 (omega (arith, length-take k s, o.1)) ∙ sym (get_or_past (take k t) a 0 (omega (arith, length-take k t, o.1)))) (leb_tells (suc a) k)

module _ (m : Meaning) (readings inputs : List ℕ) (entries : List TermEntry) where
  all : List ℕ
  all = term_values m readings inputs (map term_in entries)

  infos : List TermInfo
  infos = term_infos (map term_in entries)

  -- a value that is worked out from those before it
  pub value_at : (late : Bool) (values : List ℕ) (k v : ℕ) (e : TermEntry) → k < length entries → e ≡ get_or entries k e → Due late (input_at (term_infos (map term_in entries)) k) → v ≡ term_value m readings inputs (take k values) e.term → ((j : ℕ) → j < k → Due late (input_at (term_infos (map term_in entries)) j) → get_or values j 0 ≡ get_or (term_values m readings inputs (map term_in entries)) j 0) → v ≡ get_or (term_values m readings inputs (map term_in entries)) k 0
  unfolding all infos
  value_at late values k v e inside got due part old =
      let i : k < length (map term_in entries) = omega (arith, length-map entries term_in) in
      let at = grow_at (term_value m readings inputs) (map term_in entries) k 0 (Term.Reading 0) i in
      let about = grow_at term_info (map term_in entries) k no_info (Term.Reading 0) i in
      let x : get_or (map term_in entries) k (Term.Reading 0) ≡ e.term = get_or-map term_in entries k e (Term.Reading 0) inside ∙ ap term_in (sym got) in
      let due' : Due late (term_info (take k infos) e.term).has_input = λ q. due (ap has_input_in about ∙ (ap (λ y. (term_info (take k infos) y).has_input) x ∙ q)) in
      let agree = cut_due late infos values all k old in
      part ∙ (term_known late (take k infos) (take k values) (take k all) agree m readings inputs e.term due' ∙ (ap (term_value m readings inputs (take k all)) (sym x) ∙ sym at))

  pub value_past : (k : ℕ) → length entries ≤ k → 0 ≡ get_or (term_values m readings inputs (map term_in entries)) k 0
  value_past k h = sym (get_or_past (term_values m readings inputs (map term_in entries)) k 0 (omega (arith, grow-length (term_value m readings inputs) [] (map term_in entries), length-map entries term_in)))

-- a right value keeps the others right
pub set_right : (values all : List ℕ) (k v : ℕ) → v ≡ get_or all k 0 → (j : ℕ) → get_or values j 0 ≡ get_or all j 0 → j < length values → get_or (set values k v) j 0 ≡ get_or all j 0
set_right values all k v is j old inside = ⊎_elim (λ (t : (eqb j k ≡ true) × (j ≡ k)). at_k t.1) (λ (t : (eqb j k ≡ false) × (j ≡ k → ⊥)). get_or-set_other values k j v 0 t.1 ∙ old) (eqb_tells j k)
  where
    at_k : j ≡ k → get_or (set values k v) j 0 ≡ get_or all j 0
    at_k e = let l : k < length values = omega arith in rw e (get_or-set_same values k v 0 l ∙ is)

-- the terms below n that are due are right
abbrev pub Past : Bool → List Term → List ℕ → ℕ → List ℕ → Type 0
Past late terms all n values = (j : ℕ) → j < n → Due late (input_at (term_infos terms) j) → get_or values j 0 ≡ get_or all j 0

-- one turn of a pass: a term of the pass is worked out, and of the others the late pass knows the value
module _ (late : Bool) (terms : List Term) (all values now : List ℕ) (k : ℕ) (inside : k < length values) (past : Past late terms all k values) (early : late ≡ true → Known false terms all values) where
  pub pass_new : (v : ℕ) → now ≡ set values k v → v ≡ get_or all k 0 → Past late terms all (k + 1) now × (late ≡ true → Known false terms all now)
  pass_new v e is =
      rw e ((λ j h due. set_more (λ j x. Due late (input_at (term_infos terms) j) → x ≡ get_or all j 0) values k v 0 inside past (λ _. is) j h due), λ l j h due. let h' : j < length values = omega (arith, length-set values k v) in set_right values all k v is j (early l j h' due) h')

  pub pass_over : now ≡ values → (input_at (term_infos terms) k ≡ late → ⊥) → Past late terms all (k + 1) now × (late ≡ true → Known false terms all now)
  pass_over e other = rw e (over, early)
    where
      by_flag : (l f : Bool) → (f ≡ l → ⊥) → Due l f → (l ≡ true) × (f ≡ false)
      by_flag true true o d = absurd (o refl)
      by_flag true false o d = (refl, refl)
      by_flag false true o d = unlike (d refl)
      by_flag false false o d = absurd (o refl)

      over : Past late terms all (k + 1) values
      over j h due = ⊎_elim (λ (t : (eqb j k ≡ true) × (j ≡ k)). at_k t.1) (λ (t : (eqb j k ≡ false) × (j ≡ k → ⊥)). past j (omega (arith, t.1)) due) (eqb_tells j k)
        where
          at_k : j ≡ k → get_or values j 0 ≡ get_or all j 0
          at_k e =
              let b = by_flag late (input_at (term_infos terms) j) (λ q. other (ap (λ i. input_at (term_infos terms) i) (sym e) ∙ q)) due in
              early b.0 j (omega arith) (λ t. unlike (sym b.1 ∙ t))

-- a test of two flags
pub beq_due : (late flag : Bool) → beq flag late ≡ true → Due late flag
beq_due true true e d = refl
beq_due true false e d = unlike d
beq_due false true e d = e
beq_due false false e d = d

pub beq_other : (late flag : Bool) → beq flag late ≡ false → flag ≡ late → ⊥
beq_other true true e s = unlike (sym e)
beq_other true false e s = unlike s
beq_other false true e s = unlike (sym s)
beq_other false false e s = unlike (sym e)
