-- Terms that are interned one after another.
use Rattle.std.proofs.Common.{◌≡◌, ℕ, zero, suc, ◌<◌, ◌≤◌, List, [], ◌∷◌, ◌++◌, map, length, get_or, take, set, IsErrAnd, Some, None, Ok, Err, Option, Result, sym, refl, ap, ◌∙◌, subst, ap₂, arith}
use Rattle.std.specs.List.{ContainsAt as Has}
use Rattle.std.proofs.lemmas.List.{length-map, get_or-map, get_or_past}
use Rattle.fault.specs.declared.TableFault.{TableFault}
use Rattle.fault.specs.declared.TableFault.TheVariants.{TermsExhausted}
use Rattle.sheet.specs.declared.syntax.Args.TheVariants.{Zero, One, Two, Three}
use Rattle.sheet.specs.declared.syntax.Term.{Term as SheetTerm}
use Rattle.sheet.specs.declared.syntax.TermEntry.{TermEntry}
use Rattle.sheet.specs.Memo.{before}
use Rattle.sheet.specs.Stored.{term_in}
use Rattle.sheet.proofs.Growing.{grow_at, grow-length}
use Rattle.sheet.proofs.Memos.{before_here, before_none, before_past, before_all, take-before}
use Rattle.terms.specs.declared.Node.{Node}
use Rattle.terms.specs.declared.TermRecord.{TermRecord}
use Rattle.terms.specs.Terms.{Term, name, constant, unary, binary, ternary}
use Rattle.terms.specs.Bank.{Extends, Interned, Filed, Stays, term_at, term_of}
use Rattle.terms.proofs.Filing.{extends_none, extends_more}
use Rattle.banks.specs.Room.{HasAll, Throughout}
use Rattle.banks.specs.Gains.{Gained, Overfull}
use Rattle.banks.proofs.Gaining.{gained_none, gained_more, gained_as, gained_interned, gained_held, overfull_later, overfull_as, overfull_interned}
use Rattle.forms.specs.Candidate.{no_term, term_over, terms_over}
use Rattle.candidates.specs.declared.instantiating.Memory.{Memory}
use Rattle.candidates.specs.Working.{Recalls, Started, Over, Made, Placed, Walked, Lent}

-- the memory that was lent, over two calls
pub lent_more : (a b c : Memory) → Lent a b → Lent b c → Lent a c
lent_more a b c x y = (y.0 ∙ x.0, y.1 ∙ x.1, y.2 ∙ x.2)

-- what is noted of each number stays true when one more note is true
pub noted_set : (P : ℕ → ℕ → Type 0) (known : List (Option ℕ)) (n v : ℕ) → ((k p : ℕ) → get_or known k None ≡ Some p → P k p) → P n v → (k p : ℕ) → get_or (set known n (Some v)) k None ≡ Some p → P k p
noted_set P [] n v old new k p e = old k p e
noted_set P (o ∷ os) zero v old new zero p e = let is : v ≡ p = cc in subst (P 0) is new
noted_set P (o ∷ os) zero v old new (suc k) p e = old (suc k) p e
noted_set P (o ∷ os) (suc n) v old new zero p e = old zero p e
noted_set P (o ∷ os) (suc n) v old new (suc k) p e = noted_set (λ i. P (suc i)) os n v (λ i. old (suc i)) new k p e

pub recalls_later : (values : List Term) (rs rs' : List TermRecord) (n n' : ℕ) (known : List (Option ℕ)) → Extends rs n rs' n' → Recalls values rs n known → Recalls values rs' n' known
recalls_later values rs rs' n n' known x r k p e = let h = r k p e in (omega (arith, h.0, x.more), (x.stays p h.0).1 ∙ h.1)

pub places_stay : (rs rs' : List TermRecord) (n : ℕ) (places : List ℕ) → Stays n rs rs' → ((k : ℕ) → k < length places → get_or places k 0 < n) → map (term_at rs) places ≡ map (term_at rs') places
places_stay rs rs' n [] s inside = refl
places_stay rs rs' n (p ∷ ps) s inside =
    let a = (s p (inside 0 (omega arith))).1 in
    let b = places_stay rs rs' n ps s (λ k lt. inside (suc k) (omega arith)) in
    ap₂ (λ (x : Term) (xs : List Term). x ∷ xs) (sym a) b

pub over_later : (v : List Term) (rs rs' : List TermRecord) (n n' : ℕ) (places names : List ℕ) → Extends rs n rs' n' → Over v rs n places names → Over v rs' n' places names
over_later v rs rs' n n' places names x o =
    record { inside = λ k lt. omega (arith, o.inside k lt, x.more); terms = o.terms ∙ places_stay rs rs' n places x.stays o.inside; small = o.small }

-- no row at all
pub over_nothing : (rs : List TermRecord) (n : ℕ) → Over [] rs n [] []
over_nothing rs n = record { inside = λ k lt. absurd (omega arith); terms = refl; small = λ k. omega arith }

pub reading_inside : (v : List Term) (rs : List TermRecord) (n : ℕ) (places names : List ℕ) → Over v rs n places names → (r : ℕ) → r < length places → term_at rs (get_or places r 0) ≡ get_or v r no_term
reading_inside v rs n places names o r lt = sym (ap (λ xs. get_or xs r no_term) o.terms ∙ get_or-map (term_at rs) places r 0 no_term lt)

pub reading_past : (v : List Term) (rs : List TermRecord) (n : ℕ) (places names : List ℕ) → Over v rs n places names → (r : ℕ) → length places ≤ r → get_or v r no_term ≡ no_term
reading_past v rs n places names o r le = ap (λ xs. get_or xs r no_term) o.terms ∙ get_or_past (map (term_at rs) places) r no_term (omega (arith, length-map places (term_at rs)))

-- what interning answers
module _ (values : List Term) (rs rs' : List TermRecord) (n n' : ℕ) (known : List (Option ℕ)) (node : Node) (t : Term) (s : Started values rs n known) (is : term_of (term_at rs) node ≡ t) where
  pub placed_interned : (r : Result ℕ TableFault) → Interned rs n (term_of (term_at rs) node) rs' n' r → Filed rs n node rs' n' r → Placed values rs n t rs' n' known r
  placed_interned (Ok p) h filed =
      let i : Interned rs n t rs' n' (Ok p) = subst (λ x. Interned rs n x rs' n' (Ok p)) is h in
      let g = gained_interned rs rs' n n' t p i in
      (g, record { made = (i.2, i.3); recalled = recalls_later values rs rs' n n' known g.extends s.recalled })
  placed_interned (Err e) h filed =
      let i : Interned rs n t rs' n' (Err e) = subst (λ x. Interned rs n x rs' n' (Err e)) is h in
      (i.0, overfull_interned rs rs' n n' t e s.bank s.long i, subst (λ m. Extends rs n rs' m) (sym filed.1) (subst (λ xs. Extends rs n xs n) (sym filed.0) (extends_none rs n s.bank)))

  pub placed_remembered : (k p : ℕ) (known' : List (Option ℕ)) → Interned rs n (term_of (term_at rs) node) rs' n' (Ok p) → Filed rs n node rs' n' (Ok p) → t ≡ get_or values k no_term → known' ≡ set known k (Some p) → Placed values rs n t rs' n' known' (Ok p)
  placed_remembered k p known' h filed at set' =
      let i = placed_interned (Ok p) h filed in
      (i.0, record { made = (i.1.made.0, i.1.made.1); recalled = subst (Recalls values rs' n') (sym set') (noted_set (λ j q. (q < n') × (term_at rs' q ≡ get_or values j no_term)) known k p i.1.recalled (i.1.made.0, i.1.made.1 ∙ at)) })

-- a place that is known
pub placed_held : (values : List Term) (rs : List TermRecord) (n : ℕ) (known : List (Option ℕ)) (t : Term) (p : ℕ) → Started values rs n known → p < n → term_at rs p ≡ t → Placed values rs n t rs n known (Ok p)
placed_held values rs n known t p s lt is = (gained_held rs n t s.bank (p, lt, is), record { made = (lt, is); recalled = s.recalled })

module _ {values v : List Term} {places names : List ℕ} {rs : List TermRecord} {n : ℕ} where
  pub walked_start : {known : List (Option ℕ)} → Over v rs n places names → Started values rs n known → Walked values v places names rs n [] rs n known
  walked_start o s = record { gained = gained_none rs n s.bank; over = o; started = s }

  module _ {rs' : List TermRecord} {n' : ℕ} {ts : List Term} {known' : List (Option ℕ)} (w : Walked values v places names rs n ts rs' n' known') where
    pub walked_more : {rs'' : List TermRecord} {n'' : ℕ} {us : List Term} {known'' : List (Option ℕ)} {A : Type 0} {P : A → Type 0} {a : A} → length rs'' ≡ length rs' → Gained rs' n' us rs'' n'' → Made values rs'' n'' known'' P a → Walked values v places names rs n (ts ++ us) rs'' n'' known''
    walked_more {rs''} {n''} {us} long g made =
        record {
          gained = gained_more rs rs' n n' ts w.gained us rs'' n'' g;
          over = over_later v rs' rs'' n' n'' places names g.extends w.over;
          started = record { bank = g.extends.bank; long = omega (arith, w.started.long); recalled = made.recalled };
        }

    pub walked_refused : {rs'' : List TermRecord} {n'' : ℕ} (us whole : List Term) → ((all : List Term) → HasAll all whole → HasAll all (ts ++ us)) → Overfull rs' n' us → Extends rs' n' rs'' n'' → Overfull rs n whole × Extends rs n rs'' n''
    walked_refused {rs''} {n''} us whole inside over x =
        (overfull_as rs n (ts ++ us) whole inside (overfull_later rs rs' n n' ts w.gained us over), extends_more rs rs' rs'' n n' n'' w.gained.extends x)

    -- the last term has the others as subterms
    pub walked_placed : (t : Term) (rs'' : List TermRecord) (n'' : ℕ) (known'' : List (Option ℕ)) (r : Result ℕ TableFault) → ((all : List Term) → Throughout (Has all) t → HasAll all (ts ++ t ∷ [])) → Placed values rs' n' t rs'' n'' known'' r → Placed values rs n t rs'' n'' known'' r
    walked_placed t rs'' n'' known'' (Ok p) inside h =
        (gained_as rs rs'' n n'' (ts ++ t ∷ []) (gained_more rs rs' n n' ts w.gained (t ∷ []) rs'' n'' h.0) (t ∷ []) (λ all u. inside all u.0) ((p, h.1.made.0, h.1.made.1), tt), h.1)
    walked_placed t rs'' n'' known'' (Err e) inside h =
        let x = walked_refused (t ∷ []) (t ∷ []) (λ all u. inside all u.0) h.1 h.2 in (h.0, x.0, x.1)

    -- an argument is refused
    pub walked_break : {rs'' : List TermRecord} {n'' : ℕ} {e : TableFault} (u t : Term) (known : List (Option ℕ)) (r : Result ℕ TableFault) → ((all : List Term) → Throughout (Has all) t → HasAll all (ts ++ u ∷ [])) → (e ≡ TermsExhausted) × Overfull rs' n' (u ∷ []) × Extends rs' n' rs'' n'' → IsErrAnd r (λ y. y ≡ e) → Placed values rs n t rs'' n'' known r
    walked_break u t known (Ok p) inside h by = absurd by
    walked_break u t known (Err y) inside h by =
        let x = walked_refused (u ∷ []) (t ∷ []) (λ all w'. inside all w'.0) h.1 h.2 in (by ∙ h.0, x.0, x.1)

-- term n of a sheet over a row
abbrev pub no_entry : TermEntry
no_entry = record { term = SheetTerm.Reading 0; info = record { height = 0; has_input = mathlib.Core.Bool.false } }

module _ (v : List Term) (inputs : List ℕ) (entries : List TermEntry) where
  pub over_none : {n below : ℕ} → below ≤ n → before no_term (terms_over v inputs (map term_in entries)) n below ≡ no_term
  over_none {n} {below} h = before_none no_term (terms_over v inputs (map term_in entries)) n below h

  pub over_past : {n : ℕ} (below : ℕ) → length entries ≤ n → before no_term (terms_over v inputs (map term_in entries)) n below ≡ no_term
  over_past {n} below h =
      before_past no_term (terms_over v inputs (map term_in entries)) n below (omega (arith, grow-length (term_over v inputs) [] (map term_in entries), length-map entries term_in))

  module _ {n below : ℕ} (here : n < below) (inside : n < length entries) where
    pub over_here : before no_term (terms_over v inputs (map term_in entries)) n below ≡ get_or (terms_over v inputs (map term_in entries)) n no_term
    over_here = before_here no_term (terms_over v inputs (map term_in entries)) n below here

    over_at : (x : SheetTerm) → term_in (get_or entries n no_entry) ≡ x → before no_term (terms_over v inputs (map term_in entries)) n below ≡ term_over v inputs (take n (terms_over v inputs (map term_in entries))) x
    over_at x e =
        let i : n < length (map term_in entries) = omega (arith, length-map entries term_in) in
        over_here ∙ (grow_at (term_over v inputs) (map term_in entries) n no_term (SheetTerm.Reading 0) i ∙ ap (term_over v inputs (take n (terms_over v inputs (map term_in entries)))) (get_or-map term_in entries n no_entry (SheetTerm.Reading 0) inside ∙ e))

    pub over_reading : {r : ℕ} → term_in (get_or entries n no_entry) ≡ SheetTerm.Reading r → before no_term (terms_over v inputs (map term_in entries)) n below ≡ get_or v r no_term
    over_reading {r} e = over_at (SheetTerm.Reading r) e

    pub over_input : {i : ℕ} → term_in (get_or entries n no_entry) ≡ SheetTerm.Input i → before no_term (terms_over v inputs (map term_in entries)) n below ≡ name (get_or inputs i 0)
    over_input {i} e = over_at (SheetTerm.Input i) e

    module _ {f : ℕ} where
      pub over_zero : term_in (get_or entries n no_entry) ≡ SheetTerm.Apply f Zero → before no_term (terms_over v inputs (map term_in entries)) n below ≡ constant f
      over_zero e = over_at (SheetTerm.Apply f Zero) e

      pub over_one : {a : ℕ} → term_in (get_or entries n no_entry) ≡ SheetTerm.Apply f (One a) → before no_term (terms_over v inputs (map term_in entries)) n below ≡ unary f (before no_term (terms_over v inputs (map term_in entries)) a n)
      over_one {a} e = over_at (SheetTerm.Apply f (One a)) e ∙ ap (unary f) (take-before no_term (terms_over v inputs (map term_in entries)) a n)

      pub over_two : {a b : ℕ} → term_in (get_or entries n no_entry) ≡ SheetTerm.Apply f (Two a b) → before no_term (terms_over v inputs (map term_in entries)) n below ≡ binary f (before no_term (terms_over v inputs (map term_in entries)) a n) (before no_term (terms_over v inputs (map term_in entries)) b n)
      over_two {a} {b} e =
          over_at (SheetTerm.Apply f (Two a b)) e ∙ ap₂ (binary f) (take-before no_term (terms_over v inputs (map term_in entries)) a n) (take-before no_term (terms_over v inputs (map term_in entries)) b n)

      pub over_three : {a b d : ℕ} → term_in (get_or entries n no_entry) ≡ SheetTerm.Apply f (Three a b d) → before no_term (terms_over v inputs (map term_in entries)) n below ≡ ternary f (before no_term (terms_over v inputs (map term_in entries)) a n) (before no_term (terms_over v inputs (map term_in entries)) b n) (before no_term (terms_over v inputs (map term_in entries)) d n)
      over_three {a} {b} {d} e =
          let p = take-before no_term (terms_over v inputs (map term_in entries)) a n in
          let q = take-before no_term (terms_over v inputs (map term_in entries)) b n in
          let r = take-before no_term (terms_over v inputs (map term_in entries)) d n in
          over_at (SheetTerm.Apply f (Three a b d)) e ∙ (ap₂ (λ x y. ternary f x y (get_or (take n (terms_over v inputs (map term_in entries))) d no_term)) p q ∙ ap (ternary f (before no_term (terms_over v inputs (map term_in entries)) a n) (before no_term (terms_over v inputs (map term_in entries)) b n)) r)

pub over_all : (v : List Term) (inputs : List ℕ) (entries : List TermEntry) (n : ℕ) → before no_term (terms_over v inputs (map term_in entries)) n (length entries) ≡ get_or (terms_over v inputs (map term_in entries)) n no_term
over_all v inputs entries n =
    before_all no_term (terms_over v inputs (map term_in entries)) n (length entries) (omega (arith, grow-length (term_over v inputs) [] (map term_in entries), length-map entries term_in))

-- a term is made of its arguments
module _ (all : List Term) {t : Term} {f : ℕ} where
  pub has_unary : {a : Term} → t ≡ unary f a → Throughout (Has all) t → HasAll all (a ∷ t ∷ [])
  has_unary e h = let h' = subst (Throughout (Has all)) e h in (h'.1, (h, tt))

  pub has_binary : {a b : Term} → t ≡ binary f a b → Throughout (Has all) t → HasAll all (a ∷ b ∷ t ∷ [])
  has_binary e h = let h' = subst (Throughout (Has all)) e h in (h'.1, (h'.2, (h, tt)))

  pub has_ternary : {a b c : Term} → t ≡ ternary f a b c → Throughout (Has all) t → HasAll all (a ∷ b ∷ c ∷ t ∷ [])
  has_ternary e h = let h' = subst (Throughout (Has all)) e h in (h'.1, (h'.2, (h'.3, (h, tt))))
