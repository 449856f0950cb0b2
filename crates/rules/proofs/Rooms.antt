-- Whether terms have room can be told, so that building comes to something.
use Rattle.std.proofs.Common.{◌≡◌, ℕ, zero, suc, ◌<◌, ◌≤◌, ◌⊎◌, true, false, List, [], ◌∷◌, ◌++◌, length, get_or, Some, None, Option, sym, refl, ap, ◌∙◌, subst, inl, inr, arith}
use Rattle.std.specs.List.{ContainsAt as Has, AllByRecursion as All}
use Rattle.std.proofs.lemmas.Bool.{cases_Bool, cases_lt}
use Rattle.sheet.specs.System.{System}
use Rattle.terms.specs.Terms.{Term, name, constant, unary, binary, ternary, same}
use Rattle.terms.proofs.Same.{same_self, same_true}
use Rattle.banks.specs.Room.{Throughout, HasAll, Roomy, Crowded}
use Rattle.banks.proofs.Gaining.{places_enough, all_left, all_right}
use Rattle.forms.specs.Rows.{Row, stands, lowest_free}
use Rattle.forms.specs.Candidate.{candidate}
use Rattle.forms.specs.Form.{first_higher, lowest, replaced_row, trimmed}
use Rattle.forms.specs.Counted.{terms_in, Built, made, nameless, crowded, CandidateIn, CutIn, low, wanting, full, cut, FormIn}
use Rattle.forms.proofs.Shrinking.{sizes, vector_smaller}
use Rattle.rules.specs.Rules.{Continues}

pub all_append : {X : Type 0} (P : X → Type 0) (xs ys : List X) → All P xs → All P ys → All P (xs ++ ys)
all_append P [] ys h h' = h'
all_append P (x ∷ xs) ys h h' = (h.0, all_append P xs ys h.1 h')

-- whether a list has a term
has_head : (u : Term) (us : List Term) → Has (u ∷ us) u
has_head u us = (0, omega arith, λ d. refl)

has_tail : (u t : Term) (us : List Term) → Has us t → Has (u ∷ us) t
has_tail u t us h = let lt = h.1 in (suc h.0, omega arith, λ d. h.2 d)

has_parts : (u t : Term) (us : List Term) → Has (u ∷ us) t → (u ≡ t) ⊎ Has us t
has_parts u t us (zero, lt, at) = inl (at u)
has_parts u t us (suc k, lt, at) = inr (k, omega arith, λ d. at d)

has_or_not : (us : List Term) (t : Term) → Has us t ⊎ (Has us t → ⊥)
has_or_not [] t = inr (λ h. (let lt = h.1 in absurd (omega arith)))
has_or_not (u ∷ us) t = by (cases_Bool (same u t)) (has_or_not us t)
  where
    by : (same u t ≡ true) ⊎ (same u t ≡ false) → Has us t ⊎ (Has us t → ⊥) → Has (u ∷ us) t ⊎ (Has (u ∷ us) t → ⊥)
    by (inl yes') rest = inl (subst (λ z. Has (u ∷ us) z) (same_true u t yes') (has_head u us))
    by (inr no') (inl h) = inl (has_tail u t us h)
    by (inr no') (inr not) = inr (λ h. neither (has_parts u t us h))
      where
        neither : (u ≡ t) ⊎ Has us t → ⊥
        neither (inl e) = let p : same u t ≡ true = ap (same u) (sym e) ∙ same_self u in let z : ◌≡◌ {A = ℕ} 0 1 = cc in absurd (omega arith)
        neither (inr h) = not h

-- a term's subterms, itself among them
subterms : Term → List Term
subterms (name x) = name x ∷ []
subterms (constant f) = constant f ∷ []
subterms (unary f a) = unary f a ∷ subterms a
subterms (binary f a b) = binary f a b ∷ (subterms a ++ subterms b)
subterms (ternary f a b c) = ternary f a b c ∷ (subterms a ++ (subterms b ++ subterms c))

subterms_of : List Term → List Term
subterms_of [] = []
subterms_of (t ∷ ts) = subterms t ++ subterms_of ts

module _ (P : Term → Type 0) where
  throughout : (t : Term) → All P (subterms t) → Throughout P t
  unfolding subterms
  throughout (name x) h = h.0
  throughout (constant f) h = h.0
  throughout (unary f a) h = (h.0, throughout a h.1)
  throughout (binary f a b) h = (h.0, throughout a (all_left P (subterms a) (subterms b) h.1), throughout b (all_right P (subterms a) (subterms b) h.1))
  throughout (ternary f a b c) h =
      let bc = all_right P (subterms a) (subterms b ++ subterms c) h.1 in
      (h.0, throughout a (all_left P (subterms a) (subterms b ++ subterms c) h.1), throughout b (all_left P (subterms b) (subterms c) bc), throughout c (all_right P (subterms b) (subterms c) bc))

  each : (t : Term) → Throughout P t → All P (subterms t)
  unfolding subterms
  each (name x) h = (h, tt)
  each (constant f) h = (h, tt)
  each (unary f a) h = (h.0, each a h.1)
  each (binary f a b) h = (h.0, all_append P (subterms a) (subterms b) (each a h.1) (each b h.2))
  each (ternary f a b c) h = (h.0, all_append P (subterms a) (subterms b ++ subterms c) (each a h.1) (all_append P (subterms b) (subterms c) (each b h.2) (each c h.3)))

  throughout_all : (ts : List Term) → All P (subterms_of ts) → All (Throughout P) ts
  unfolding subterms_of
  throughout_all [] h = tt
  throughout_all (t ∷ ts) h = (throughout t (all_left P (subterms t) (subterms_of ts) h), throughout_all ts (all_right P (subterms t) (subterms_of ts) h))

  each_all : (ts : List Term) → All (Throughout P) ts → All P (subterms_of ts)
  unfolding subterms_of
  each_all [] h = tt
  each_all (t ∷ ts) h = all_append P (subterms t) (subterms_of ts) (each t h.0) (each_all ts h.1)

-- no term is one of those after it
Different : List Term → Type 0
Different [] = Unit {0}
Different (t ∷ ts) = (Has ts t → ⊥) × Different ts

-- the terms of a list, each once
record Once (xs : List Term) : Type 1 where
  us : List Term
  different : Different us
  has : All (Has us) xs
  only : (P : Term → Type 0) → All P xs → All P us

all_weaker : (P Q : Term → Type 0) → ((t : Term) → P t → Q t) → (xs : List Term) → All P xs → All Q xs
all_weaker P Q f [] h = tt
all_weaker P Q f (x ∷ xs) h = (f x h.0, all_weaker P Q f xs h.1)

once : (xs : List Term) → Once xs
unfolding Different
once [] = record { us = []; different = tt; has = tt; only = λ P h. h }
once (x ∷ xs) = by (once xs) (has_or_not (once xs).us x)
  where
    by : (o : Once xs) → Has o.us x ⊎ (Has o.us x → ⊥) → Once (x ∷ xs)
    by o (inl h) = record { us = o.us; different = o.different; has = (h, o.has); only = λ P p. o.only P p.1 }
    by o (inr not) =
        record { us = x ∷ o.us; different = (not, o.different); has = (has_head x o.us, all_weaker (Has o.us) (Has (x ∷ o.us)) (λ t h. has_tail x t o.us h) xs o.has); only = λ P p. (p.0, o.only P p.1) }

has_at : (us : List Term) (i : ℕ) → i < length us → Has us (get_or us i (name 0))
has_at [] i lt = absurd (omega arith)
has_at (u ∷ us) zero lt = has_head u us
has_at (u ∷ us) (suc i) lt = has_tail u (get_or us i (name 0)) us (has_at us i (omega arith))

apart : (us : List Term) → Different us → (i j : ℕ) → i < length us → j < length us → get_or us i (name 0) ≡ get_or us j (name 0) → i ≡ j
unfolding Different
apart [] d i j p q e = absurd (omega arith)
apart (u ∷ us) d zero zero p q e = refl
apart (u ∷ us) d zero (suc j) p q e = absurd (d.0 (subst (λ z. Has us z) (sym e) (has_at us j (omega arith))))
apart (u ∷ us) d (suc i) zero p q e = absurd (d.0 (subst (λ z. Has us z) e (has_at us i (omega arith))))
apart (u ∷ us) d (suc i) (suc j) p q e = ap suc (apart us d.1 i j (omega arith) (omega arith) e)

all_at : (P : Term → Type 0) (us : List Term) → All P us → (i : ℕ) → i < length us → P (get_or us i (name 0))
all_at P [] h i lt = absurd (omega arith)
all_at P (u ∷ us) h zero lt = h.0
all_at P (u ∷ us) h (suc i) lt = all_at P us h.1 i (omega arith)

-- there are at most 512 different terms, or more
pub room : (ts : List Term) → Roomy ts ⊎ Crowded ts
room ts = by (once (subterms_of ts))
  where
    least : (o : Once (subterms_of ts)) (all : List Term) → HasAll all ts → length o.us ≤ length all
    least o all has =
        places_enough (λ i. get_or o.us i (name 0)) (length o.us) all (λ i lt. all_at (Has all) o.us (o.only (Has all) (each_all (Has all) ts has)) i lt) (λ i j p q e. apart o.us o.different i j p q e)

    by : Once (subterms_of ts) → Roomy ts ⊎ Crowded ts
    by o = decided (cases_lt 512 (length o.us))
      where
        decided : (512 < length o.us) ⊎ (length o.us ≤ 512) → Roomy ts ⊎ Crowded ts
        decided (inl more) = inr (λ all has. (let l = least o all has in omega arith))
        decided (inr few) = inl (o.us, throughout_all (Has o.us) ts o.has, few)

-- building comes to something
cut_ends : (n h : ℕ) (seen : List Term) (row : Row) → sizes row.vector < n → (end : Built) × CutIn h seen row end
cut_ends zero h seen row small = absurd (omega arith)
cut_ends (suc n) h seen row small = by (λ seen' next less. cut_ends n h seen' next less) (first_higher h row.vector) refl (lowest_free (stands row)) refl
  where
    by : ((seen' : List Term) (next : Row) → sizes next.vector < n → (end : Built) × CutIn h seen' next end) → (o : Option Term) → first_higher h row.vector ≡ o → (p : Option ℕ) → lowest_free (stands row) ≡ p → (end : Built) × CutIn h seen row end
    by more None e p f = (made row seen, low seen row e)
    by more (Some t) e None f = (nameless, wanting seen row t e f)
    by more (Some t) e (Some x) f = told (room (seen ++ terms_in (replaced_row (lowest t) (name x) row)))
      where
        told : Roomy (seen ++ terms_in (replaced_row (lowest t) (name x) row)) ⊎ Crowded (seen ++ terms_in (replaced_row (lowest t) (name x) row)) → (end : Built) × CutIn h seen row end
        told (inr many) = (crowded, full seen row t x e f many)
        told (inl few) =
            let less = vector_smaller h x t row.vector e in
            let rest = more (seen ++ terms_in (replaced_row (lowest t) (name x) row)) (replaced_row (lowest t) (name x) row) (omega arith) in
            (rest.0, cut seen row t x rest.0 e f few rest.1)

form_ends : (h : ℕ) (seen : List Term) (row : Row) → (end : Built) × FormIn h seen row end
form_ends h seen row = by (cut_ends (suc (sizes row.vector)) h seen row (omega arith)).0 (cut_ends (suc (sizes row.vector)) h seen row (omega arith)).1
  where
    by : (end : Built) → CutIn h seen row end → (end : Built) × FormIn h seen row end
    by (made end seen') c = (made (trimmed h end) seen', (end, c, refl))
    by nameless c = (nameless, c)
    by crowded c = (crowded, c)

begun : (s : System) (row : Row) (b : ℕ) (seen : List Term) → (begun : Built) × CandidateIn s row b seen begun
begun s row b seen = by (candidate s row b) refl
  where
    by : (o : Option Row) → candidate s row b ≡ o → (begun : Built) × CandidateIn s row b seen begun
    by None e = (nameless, e)
    by (Some next) e = told (room (seen ++ terms_in next))
      where
        told : Roomy (seen ++ terms_in next) ⊎ Crowded (seen ++ terms_in next) → (begun : Built) × CandidateIn s row b seen begun
        told (inl few) = (made next (seen ++ terms_in next), (e, refl, few))
        told (inr many) = (crowded, (next, e, many))

continued : (h : ℕ) (begun : Built) → (end : Built) × Continues h begun end
continued h (made next seen) = form_ends h seen next
continued h nameless = (nameless, refl)
continued h crowded = (crowded, refl)

pub built : (s : System) (row : Row) (b : ℕ) (seen : List Term) (h : ℕ) → (end : Built) × ((from : Built) × CandidateIn s row b seen from × Continues h from end)
built s row b seen h = let c = begun s row b seen in let end = continued h c.0 in (end.0, (c.0, c.1, end.1))
