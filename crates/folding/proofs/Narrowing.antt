-- Narrowing: tests one after another, and what the walk over two terms learns at each node.
use Rattle.std.proofs.Common.{◌≡◌, ℕ, zero, suc, ◌+◌, ◌<◌, ◌≤◌, Bool, true, false, eqb, List, [], ◌∷◌, length, get_or, set, replicate, Some, None, Option, unwrap_or, sym, refl, ap, ◌∙◌, subst, ⊎_elim, arith, lit<}
use Rattle.std.proofs.lemmas.List.{get_or-set_same, get_or-set_other, get_or_past, set-get_or}
use Rattle.std.proofs.lemmas.Bool.{cases_eq, cases_lt, eqb-true, eq-eqb, true≢false}
use Rattle.std.proofs.lemmas.Option.{none-some, same_Some}
use Rattle.sheet.proofs.Memos.{nones}
use Rattle.terms.specs.declared.Node.{Node}
use Rattle.terms.specs.declared.Node.TheVariants.{Name, Unary, Binary, Ternary}
use Rattle.terms.specs.declared.TermRecord.{TermRecord}
use Rattle.terms.specs.Terms.{Term, name, renamed}
use Rattle.terms.specs.Bank.{Bank, Ordered, node_at, term_of, term_at}
use Rattle.terms.proofs.Standing.{term_at-ordered}
use Rattle.folding.specs.Pairing.{Respects, Stronger, Renames, RenamesEach, Narrowed, Pictured}

-- a test that binds nothing
pub narrowed_tested : (to : List (Option ℕ)) (Passes : (ℕ → ℕ) → Type 0) (b : Bool) → (b ≡ true → (f : ℕ → ℕ) → Respects f to → Passes f) → ((f : ℕ → ℕ) → Respects f to → Passes f → b ≡ true) → Narrowed to to Passes b
narrowed_tested to Passes true yes' only = λ f. (λ h. (h, yes' refl f h), λ h p. h)
narrowed_tested to Passes false yes' only = λ f h p. true≢false (sym (only f h p))

pub narrowed_bound : (to : List (Option ℕ)) (x y : ℕ) → x < length to → get_or to x None ≡ None → Narrowed to (set to x (Some y)) (λ f. f x ≡ y) true
narrowed_bound to x y lt free f = (
  λ h. (λ k v e. ⊎_elim (λ same. absurd (none-some v (sym (ap (λ m. get_or to m None) same ∙ free) ∙ e))) (λ other. h k v (get_or-set_other to x k (Some y) None other ∙ e)) (cases_eq k x), h x y (get_or-set_same to x (Some y) None lt)),
  λ h p k v e. ⊎_elim
      (λ same. ap f same ∙ (p ∙ same_Some y v (sym (get_or-set_same to x (Some y) None lt) ∙ (ap (λ m. get_or (set to x (Some y)) m None) (sym same) ∙ e))))
      (λ other. h k v (sym (get_or-set_other to x k (Some y) None other) ∙ e)) (cases_eq k x),
)

pub stronger_bound : (to : List (Option ℕ)) (x y : ℕ) → x < length to → get_or to x None ≡ None → Stronger to (set to x (Some y))
stronger_bound to x y lt free f h = ((narrowed_bound to x y lt free f).0 h).0

-- a binding that is there, or is made
module _ (to : List (Option ℕ)) (x y : ℕ) (inside : x < length to) where
  kept : (v : ℕ) → get_or to x None ≡ Some v → to ≡ set to x (Some v)
  kept v is = sym (ap (set to x) (sym is) ∙ set-get_or to x None)

  pub narrowed_held : (o : Option ℕ) → get_or to x None ≡ o → Narrowed to (set to x (Some (unwrap_or o y))) (λ f. f x ≡ y) (eqb (unwrap_or o y) y)
  narrowed_held None is = subst (Narrowed to (set to x (Some y)) (λ f. f x ≡ y)) (sym (eq-eqb y y refl)) (narrowed_bound to x y inside is)
  narrowed_held (Some v) is =
      subst (λ l. Narrowed to l (λ f. f x ≡ y) (eqb v y)) (kept v is) (narrowed_tested to (λ f. f x ≡ y) (eqb v y) (λ t f h. h x v is ∙ eqb-true v y t) (λ f h p. eq-eqb v y (sym (h x v is) ∙ p)))

  pub stronger_held : (o : Option ℕ) → get_or to x None ≡ o → Stronger to (set to x (Some (unwrap_or o y)))
  stronger_held None is = stronger_bound to x y inside is
  stronger_held (Some v) is = subst (Stronger to) (kept v is) (λ f h. h)

-- one test after another
module _ (to to' to'' : List (Option ℕ)) (P Q : (ℕ → ℕ) → Type 0) where
  pub narrowed_then : (b : Bool) → Narrowed to to' P true → Narrowed to' to'' Q b → Narrowed to to'' (λ f. P f × Q f) b
  narrowed_then true p q = λ f.
      (λ h. (let s = (q f).0 h in let r = (p f).0 s.0 in (r.0, (r.1, s.1))), λ h both. (q f).1 ((p f).1 h both.0) both.1)
  narrowed_then false p q = λ f h both. q f ((p f).1 h both.0) both.1

pub narrowed_as : (to to' : List (Option ℕ)) (P Q : (ℕ → ℕ) → Type 0) (b : Bool) → Narrowed to to' P b → ((f : ℕ → ℕ) → P f → Q f) → ((f : ℕ → ℕ) → Q f → P f) → Narrowed to to' Q b
narrowed_as to to' P Q true p there back = λ f. (λ h. (let r = (p f).0 h in (r.0, there f r.1)), λ h q. (p f).1 h (back f q))
narrowed_as to to' P Q false p there back = λ f h q. p f h (back f q)

-- what holds under the bindings before holds under more of them
pub pictured_later : (rs : List TermRecord) (n : ℕ) (image to to' : List (Option ℕ)) → Pictured rs n image to → Stronger to to' → ((x y : ℕ) → get_or to' x None ≡ Some y → y < 32) → Pictured rs n image to'
pictured_later rs n image to to' p more named = record { inside = p.inside; renames = λ i j e f h. p.renames i j e f (more f h); named = named }

pub pictured_more : (rs : List TermRecord) (n : ℕ) (image to : List (Option ℕ)) (i j : ℕ) → i < length image → j < n → ((f : ℕ → ℕ) → Respects f to → Renames rs i j f) → Pictured rs n image to → Pictured rs n (set image i (Some j)) to
pictured_more rs n image to i j lt below here p =
    record {
      inside = λ k m e. ⊎_elim (λ same. (let z = fresh k m e same in omega arith)) (λ other. p.inside k m (sym (get_or-set_other image i k (Some j) None other) ∙ e)) (cases_eq k i);
      renames = λ k m e f h. ⊎_elim (λ same. moved k m f (sym same) (fresh k m e same) (here f h)) (λ other. p.renames k m (sym (get_or-set_other image i k (Some j) None other) ∙ e) f h) (cases_eq k i);
      named = p.named;
    }
  where
    fresh : (k m : ℕ) → get_or (set image i (Some j)) k None ≡ Some m → k ≡ i → j ≡ m
    fresh k m e same = same_Some j m (sym (get_or-set_same image i (Some j) None lt) ∙ (ap (λ l. get_or (set image i (Some j)) l None) (sym same) ∙ e))

    moved : (k m : ℕ) (f : ℕ → ℕ) → i ≡ k → j ≡ m → Renames rs i j f → Renames rs k m f
    moved k m f p q e = ap (λ l. renamed f (term_at rs l)) (sym p) ∙ (e ∙ ap (term_at rs) q)

-- nothing is bound, nothing is paired
pub pictured_none : (rs : List TermRecord) (n k m : ℕ) → Pictured rs n (replicate k None) (replicate m None)
pictured_none rs n k m =
    record {
      inside = λ i j e. absurd (none-some j (sym (nones k i) ∙ e));
      renames = λ i j e. absurd (none-some j (sym (nones k i) ∙ e));
      named = λ x y e. absurd (none-some y (sym (nones m x) ∙ e));
    }

pub respects_none : (f : ℕ → ℕ) (m : ℕ) → Respects f (replicate m None)
respects_none f m x y e = absurd (none-some y (sym (nones m x) ∙ e))

-- the list of what names are bound to, with 0 where they are not
module _ (list : List ℕ) (to : List (Option ℕ)) (short : length list ≡ 32) (long : length to ≡ 32) (is : (k : ℕ) → k < 32 → get_or list k 0 ≡ unwrap_or (get_or to k None) 0) where
  bound_at : (x y : ℕ) → get_or to x None ≡ Some y → x < 32
  bound_at x y e = ⊎_elim (λ lt. lt) (λ past. absurd (none-some y (sym (get_or_past to x None (omega arith)) ∙ e))) (cases_lt x 32)

  pub respects_listed : Respects (λ x. get_or list x 0) to
  respects_listed x y e = is x (bound_at x y e) ∙ ap (λ o. unwrap_or o 0) e

  pub small-listed : ((x y : ℕ) → get_or to x None ≡ Some y → y < 32) → (x : ℕ) → get_or list x 0 < 32
  small-listed named x = ⊎_elim (λ lt. here (get_or to x None) (is x lt) (named x)) (λ past. (let e = get_or_past list x 0 (omega arith) in omega arith)) (cases_lt x 32)
    where
      here : (o : Option ℕ) → get_or list x 0 ≡ unwrap_or o 0 → ((y : ℕ) → o ≡ Some y → y < 32) → get_or list x 0 < 32
      here None e h = omega arith
      here (Some y) e h = omega (arith, h y refl)

-- a place that is paired already
pub narrowed_pictured : (rs : List TermRecord) (n : ℕ) (image to : List (Option ℕ)) (i j k : ℕ) → Bank rs n → j < n → Pictured rs n image to → get_or image i None ≡ Some k → Narrowed to to (Renames rs i j) (eqb k j)
narrowed_pictured rs n image to i j k b lt p is =
    narrowed_tested to (Renames rs i j) (eqb k j)
    (λ e f h. p.renames i k is f h ∙ ap (term_at rs) (eqb-true k j e))
    (λ f h e. eq-eqb k j (b.once k j (p.inside i k is) lt (sym (p.renames i k is f h) ∙ e)))

-- one more after the first k
pub narrowed_each : (rs : List TermRecord) (older newer : List ℕ) (k : ℕ) (to to' to'' : List (Option ℕ)) (b : Bool) (i j : ℕ) → i ≡ get_or older k 0 → j ≡ get_or newer k 0 → Narrowed to to' (RenamesEach rs older newer k) true → Narrowed to' to'' (Renames rs i j) b → Narrowed to to'' (RenamesEach rs older newer (k + 1)) b
narrowed_each rs older newer k to to' to'' b i j is js before here =
    narrowed_as to to'' (λ f. RenamesEach rs older newer k f × Renames rs i j f) (RenamesEach rs older newer (k + 1)) b
    (narrowed_then to to' to'' (RenamesEach rs older newer k) (Renames rs i j) b before here)
    (λ f w m lt. ⊎_elim (λ old. w.0 m old) (λ new. (let e : k ≡ m = omega arith in subst (λ l. Renames rs (get_or older l 0) (get_or newer l 0) f) e (subst (λ q. Renames rs (get_or older k 0) q f) js (subst (λ p. Renames rs p j f) is w.1)))) (cases_lt m k))
    (λ f w. (λ m lt. w m (omega arith), subst (λ q. Renames rs i q f) (sym js) (subst (λ p. Renames rs p (get_or newer k 0) f) (sym is) (w k (omega arith)))))

-- a test that fails early fails
pub narrowed_early : (rs : List TermRecord) (older newer : List ℕ) (k n : ℕ) (to to' : List (Option ℕ)) → k ≤ n → Narrowed to to' (RenamesEach rs older newer k) false → Narrowed to to' (RenamesEach rs older newer n) false
narrowed_early rs older newer k n to to' le h f re w = h f re (λ m lt. w m (omega arith))

each_one : (at : ℕ → Term) (f : ℕ → ℕ) (a d : ℕ) → renamed f (at a) ≡ at d → (m : ℕ) → m < 1 → renamed f (at (get_or (a ∷ []) m 0)) ≡ at (get_or (d ∷ []) m 0)
each_one at f a d p zero lt = p
each_one at f a d p (suc m) lt = absurd (omega arith)

each_two : (at : ℕ → Term) (f : ℕ → ℕ) (a b d e : ℕ) → renamed f (at a) ≡ at d → renamed f (at b) ≡ at e → (m : ℕ) → m < 2 → renamed f (at (get_or (a ∷ (b ∷ [])) m 0)) ≡ at (get_or (d ∷ (e ∷ [])) m 0)
each_two at f a b d e p q zero lt = p
each_two at f a b d e p q (suc m) lt = each_one at f b e q m (omega arith)

each_three : (at : ℕ → Term) (f : ℕ → ℕ) (a b c d e g : ℕ) → renamed f (at a) ≡ at d → renamed f (at b) ≡ at e → renamed f (at c) ≡ at g → (m : ℕ) → m < 3 → renamed f (at (get_or (a ∷ (b ∷ (c ∷ []))) m 0)) ≡ at (get_or (d ∷ (e ∷ (g ∷ []))) m 0)
each_three at f a b c d e g p q r zero lt = p
each_three at f a b c d e g p q r (suc m) lt = each_two at f b c e g q r m (omega arith)

module _ {rs : List TermRecord} {n : ℕ} (o : Ordered rs n) {i j : ℕ} (p : i < n) (q : j < n) where
  there : {u v : Node} → node_at rs i ≡ u → node_at rs j ≡ v → (f : ℕ → ℕ) → renamed f (term_of (term_at rs) u) ≡ term_of (term_at rs) v → Renames rs i j f
  there is js f e = ap (renamed f) (term_at-ordered rs n o i p ∙ ap (term_of (term_at rs)) is) ∙ (e ∙ sym (term_at-ordered rs n o j q ∙ ap (term_of (term_at rs)) js))

  back : {u v : Node} → node_at rs i ≡ u → node_at rs j ≡ v → (f : ℕ → ℕ) → Renames rs i j f → renamed f (term_of (term_at rs) u) ≡ term_of (term_at rs) v
  back is js f e = sym (ap (renamed f) (term_at-ordered rs n o i p ∙ ap (term_of (term_at rs)) is)) ∙ (e ∙ (term_at-ordered rs n o j q ∙ ap (term_of (term_at rs)) js))

  module _ (to to' : List (Option ℕ)) (r : Bool) where
    pub narrowed_name : {x y : ℕ} → node_at rs i ≡ Name x → node_at rs j ≡ Name y → Narrowed to to' (λ f. f x ≡ y) r → Narrowed to to' (Renames rs i j) r
    narrowed_name {x} {y} is js h =
        narrowed_as to to' (λ f. f x ≡ y) (Renames rs i j) r h (λ f e. there is js f (ap name e)) (λ f e. (let z = back is js f e in cc))

    pub narrowed_unary : {s t a d : ℕ} → node_at rs i ≡ Unary s a → node_at rs j ≡ Unary t d → s ≡ t → Narrowed to to' (RenamesEach rs (a ∷ []) (d ∷ []) 1) r → Narrowed to to' (Renames rs i j) r
    narrowed_unary {s} {t} {a} {d} is js same h =
        narrowed_as to to' (RenamesEach rs (a ∷ []) (d ∷ []) 1) (Renames rs i j) r h
        (λ f w. (let w0 = w 0 (lit< tt) in there is js f (cc)))
        (λ f w. (let z = back is js f w in each_one (term_at rs) f a d (cc)))

    pub narrowed_binary : {s t a b d e : ℕ} → node_at rs i ≡ Binary s a b → node_at rs j ≡ Binary t d e → s ≡ t → Narrowed to to' (RenamesEach rs (a ∷ (b ∷ [])) (d ∷ (e ∷ [])) 2) r → Narrowed to to' (Renames rs i j) r
    narrowed_binary {s} {t} {a} {b} {d} {e} is js same h =
        narrowed_as to to' (RenamesEach rs (a ∷ (b ∷ [])) (d ∷ (e ∷ [])) 2) (Renames rs i j) r h
        (λ f w. (let w0 = w 0 (lit< tt) in let w1 = w 1 (lit< tt) in there is js f (cc)))
        (λ f w. (let z = back is js f w in each_two (term_at rs) f a b d e (cc) (cc)))

    pub narrowed_ternary : {s t a b c d e g : ℕ} → node_at rs i ≡ Ternary s a b c → node_at rs j ≡ Ternary t d e g → s ≡ t → Narrowed to to' (RenamesEach rs (a ∷ (b ∷ (c ∷ []))) (d ∷ (e ∷ (g ∷ []))) 3) r → Narrowed to to' (Renames rs i j) r
    narrowed_ternary {s} {t} {a} {b} {c} {d} {e} {g} is js same h =
        narrowed_as to to' (RenamesEach rs (a ∷ (b ∷ (c ∷ []))) (d ∷ (e ∷ (g ∷ []))) 3) (Renames rs i j) r h
        (λ f w. (let w0 = w 0 (lit< tt) in let w1 = w 1 (lit< tt) in let w2 = w 2 (lit< tt) in there is js f (cc)))
        (λ f w. (let z = back is js f w in each_three (term_at rs) f a b c d e g (cc) (cc) (cc)))
