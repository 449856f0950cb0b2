-- What dropping conditions one after the other keeps, and names as bits.
use Rattle.std.proofs.Common.{◌≡◌, ℕ, zero, suc, ◌+◌, ◌/◌, ◌%◌, ◌^◌, ◌<◌, ◌≤◌, Bool, true, false, cond, not, ◌&&◌, ◌||◌, eqb, ltb, List, [], ◌∷◌, ◌++◌, map, length, get_or, take, set, filter, Decides, sym, refl, ap, ◌∙◌, subst, ⊎_elim, arith, bit_or}
use Rattle.std.proofs.Math.Bool.{or-false}
use Rattle.std.specs.List.{list_any}
use Rattle.std.proofs.lemmas.Nat.{shr-shr}
use Rattle.std.proofs.lemmas.List.Elements.{filter-append}
use Rattle.std.proofs.lemmas.List.{append-nil, length_push, length-map, length-set, length-take-le, get_or-set_same, get_or-set_other, take_all, take-append-le, take_more_set, map_push, map_more}
use Rattle.std.proofs.lemmas.Bool.{eqb-false, cases_lt, cases_eq, cases_Bool, and_parts, and_from, and_left, and_right, or_cases, cond-true, cond-false, lt-ltb, le-ltb, eq-eqb, eqb-true, or_left, or_right, not_from_true, not_from_false, false≢true}
use Rattle.std.proofs.lemmas.Bool.Decides.{same_from_decides, Decides-eqb}
use Rattle.terms.specs.declared.Condition.{Condition}
use Rattle.terms.specs.declared.Sign.{Sign}
use Rattle.terms.specs.declared.Sign.TheVariants.{Equal, Different}
use Rattle.terms.specs.declared.TermRecord.{TermRecord}
use Rattle.terms.specs.Terms.{Term, name, constant, unary, binary, ternary, occurs, name_set, same, Literal}
use Rattle.terms.specs.Bank.{Bank, term_at, literal_of}
use Rattle.terms.proofs.NameSets.{flag, bit_or-bit, bit_occurs}
use Rattle.terms.proofs.Same.{same_self, same_true}
use Rattle.closure.specs.Labels.{no_condition}
use Rattle.forms.specs.Rows.{occurs_in_terms}
use Rattle.forms.specs.Form.{is_low, names_among, is_named, same_sign, same_literal, is_among, without_repeats}
use Rattle.rows.specs.Records.{Between}
use Rattle.folding.proofs.Entailed.{between_taken}
use Rattle.folding.specs.Dropping.{kept_conditions, NamesIn}

or_rolled : (a b c : Bool) → ((a || b) || c) ≡ (b || (a || c))
or_rolled true true c = refl
or_rolled true false c = refl
or_rolled false b c = refl

-- numbers with the same bits are the same
bits_below : (m a b : ℕ) → a ≤ m → b ≤ m → ((x : ℕ) → a / 2 ^ x % 2 ≡ b / 2 ^ x % 2) → a ≡ b
bits_below zero a b p q e = omega arith
bits_below (suc m) a b p q e =
    let half : a / 2 ≡ b / 2 = bits_below m (a / 2) (b / 2) (omega arith) (omega arith) (λ x. ap (λ k. k % 2) (shr-shr a 1 x) ∙ (e (1 + x) ∙ ap (λ k. k % 2) (sym (shr-shr b 1 x)))) in
    let low : a / 1 % 2 ≡ b / 1 % 2 = e 0 in
    omega (arith, half, low)

bits_same : (a b : ℕ) → ((x : ℕ) → a / 2 ^ x % 2 ≡ b / 2 ^ x % 2) → a ≡ b
bits_same a b e = bits_below (a + b) a b (omega arith) (omega arith) e

or_absorbed : (a b : Bool) → (a ≡ true → b ≡ true) → (a || b) ≡ b
or_absorbed true b h = sym (h refl)
or_absorbed false b h = refl

flag-or : (b : Bool) → flag true ≡ flag b → b ≡ true
flag-or true e = refl
flag-or false e = absurd (omega (arith, e))

-- each name of the term passes p
names_pass : (p : ℕ → Bool) (t : Term) → names_among p t ≡ true → (x : ℕ) → occurs x t ≡ true → p x ≡ true
names_pass p (name y) h x o = subst (λ k. p k ≡ true) (sym (eqb-true x y o)) h
names_pass p (constant f) h x o = absurd (false≢true o)
names_pass p (unary f a) h x o = names_pass p a h x o
names_pass p (binary f a b) h x o =
    let q = and_parts (names_among p a) (names_among p b) h in
    ⊎_elim (names_pass p a q.0 x) (names_pass p b q.1 x) (or_cases (occurs x a) (occurs x b) o)
names_pass p (ternary f a b c) h x o =
    let q = and_parts (names_among p a) (names_among p b && names_among p c) h in
    let r = and_parts (names_among p b) (names_among p c) q.1 in
    ⊎_elim (names_pass p a q.0 x) (λ o'. ⊎_elim (names_pass p b r.0 x) (names_pass p c r.1 x) (or_cases (occurs x b) (occurs x c) o')) (or_cases (occurs x a) (occurs x b || occurs x c) o)

names_all : (p : ℕ → Bool) (t : Term) → ((x : ℕ) → occurs x t ≡ true → p x ≡ true) → names_among p t ≡ true
names_all p (name y) h = h y (eq-eqb y y refl)
names_all p (constant f) h = refl
names_all p (unary f a) h = names_all p a h
names_all p (binary f a b) h =
    and_from (names_among p a) (names_among p b) (names_all p a (λ x o. h x (or_left (occurs x a) (occurs x b) o))) (names_all p b (λ x o. h x (or_right (occurs x a) (occurs x b) o)))
names_all p (ternary f a b c) h =
    and_from (names_among p a) (names_among p b && names_among p c) (names_all p a (λ x o. h x (or_left (occurs x a) (occurs x b || occurs x c) o)))
    (and_from (names_among p b) (names_among p c) (names_all p b (λ x o. h x (or_right (occurs x a) (occurs x b || occurs x c) (or_left (occurs x b) (occurs x c) o)))) (names_all p c (λ x o. h x (or_right (occurs x a) (occurs x b || occurs x c) (or_right (occurs x b) (occurs x c) o)))))

-- a set that is none the larger for a term's names has them all
pub names_within : (names : ℕ) (vector : List Term) (t : Term) → NamesIn names vector → eqb (bit_or (name_set t) names) names ≡ names_among (λ x. occurs_in_terms x vector) t
names_within names vector t in' =
    let bit : (x : ℕ) → bit_or (name_set t) names / 2 ^ x % 2 ≡ flag (occurs x t || occurs_in_terms x vector) = λ x. bit_or-bit (name_set t) names x (occurs x t) (occurs_in_terms x vector) (bit_occurs x t) (in' x) in
    same_from_decides (eqb (bit_or (name_set t) names) names) (names_among (λ x. occurs_in_terms x vector) t) (Decides-eqb (bit_or (name_set t) names) names) (
      λ h. bits_same (bit_or (name_set t) names) names (λ x. bit x ∙ (ap flag (or_absorbed (occurs x t) (occurs_in_terms x vector) (names_pass (λ y. occurs_in_terms y vector) t h x)) ∙ sym (in' x))),
      λ e. names_all (λ x. occurs_in_terms x vector) t (λ x o. flag-or (occurs_in_terms x vector) (ap flag (sym (or_left (occurs x t) (occurs_in_terms x vector) o)) ∙ (sym (bit x) ∙ (ap (λ k. k / 2 ^ x % 2) e ∙ in' x)))),
    )

pub names_in_bits : (v : ℕ) (b : Bool) → eqb (v % 2) 1 ≡ b → v % 2 ≡ flag b
names_in_bits v true is = eqb-true (v % 2) 1 is
names_in_bits v false is = let no' = eqb-false (v % 2) 1 is in omega arith

signs_same : (a b : Sign) → same_sign a b ≡ true → a ≡ b
signs_same Equal Equal e = refl
signs_same Equal Different e = absurd (false≢true e)
signs_same Different Equal e = absurd (false≢true e)
signs_same Different Different e = refl

sign_self : (a : Sign) → same_sign a a ≡ true
sign_self Equal = refl
sign_self Different = refl

module _ (rs : List TermRecord) (n : ℕ) (bank : Bank rs n) where
  literals_equal : (c d : Condition) → c.left < n → c.right < n → d.left < n → d.right < n → Decides (same_literal (literal_of rs c) (literal_of rs d)) (d ≡ c)
  literals_equal c d p q u v = (
    λ e. (let w = and_parts (same (term_at rs c.left) (term_at rs d.left)) _ e in
        let z = and_parts (same (term_at rs c.right) (term_at rs d.right)) (same_sign c.sign d.sign) w.1 in
        let l : d.left ≡ c.left = sym (bank.once c.left d.left p u (same_true (term_at rs c.left) (term_at rs d.left) w.0)) in
        let r : d.right ≡ c.right = sym (bank.once c.right d.right q v (same_true (term_at rs c.right) (term_at rs d.right) z.0)) in
        λ i. record { left = l i; right = r i; sign = sym (signs_same c.sign d.sign z.1) i }),
    λ e. subst (λ (x : Condition). same_literal (literal_of rs c) (literal_of rs x) ≡ true) (sym e)
        (and_from (same (term_at rs c.left) (term_at rs c.left)) _ (same_self (term_at rs c.left)) (and_from (same (term_at rs c.right) (term_at rs c.right)) (same_sign c.sign c.sign) (same_self (term_at rs c.right)) (sign_self c.sign))),
  )

  -- in a bank, a literal is repeated exactly where its places are
  pub among_places : (ds : List Condition) (c : Condition) → c.left < n → c.right < n → Between n ds (length ds) → (test : Condition → Bool) → ((d : Condition) → Decides (test d) (d ≡ c)) → is_among (map (literal_of rs) ds) (literal_of rs c) ≡ list_any test ds
  among_places [] c p q b test decides = refl
  among_places (d ∷ ds) c p q b test decides =
      rw (
        same_from_decides (same_literal (literal_of rs c) (literal_of rs d)) (test d) (literals_equal c d p q (b.lefts 0 (omega arith)) (b.rights 0 (omega arith))) (decides d),
        among_places ds c p q (record { lefts = λ k lt. b.lefts (suc k) (omega arith); rights = λ k lt. b.rights (suc k) (omega arith) }) test decides,
      ) refl

without_push : (seen us : List Literal) (c : Literal) → without_repeats seen (us ++ c ∷ []) ≡ without_repeats seen us ++ cond (is_among seen c || is_among (without_repeats seen us) c) [] (c ∷ [])
without_push seen [] c = ap (λ b. cond b [] (c ∷ [])) (sym (or-false (is_among seen c)))
without_push seen (u ∷ us) c =
    ⊎_elim
    (λ e. cond-true (is_among seen u) (without_repeats seen (us ++ c ∷ [])) (u ∷ without_repeats (u ∷ seen) (us ++ c ∷ [])) e
    ∙ (without_push seen us c ∙ ap (λ ys. ys ++ cond (is_among seen c || is_among ys c) [] (c ∷ [])) (sym (cond-true (is_among seen u) (without_repeats seen us) (u ∷ without_repeats (u ∷ seen) us) e))))
    (λ e. cond-false (is_among seen u) (without_repeats seen (us ++ c ∷ [])) (u ∷ without_repeats (u ∷ seen) (us ++ c ∷ [])) e
    ∙ (ap (λ ys. u ∷ ys) (without_push (u ∷ seen) us c)
    ∙ (ap (λ b. u ∷ (without_repeats (u ∷ seen) us ++ cond b [] (c ∷ []))) (or_rolled (same_literal c u) (is_among seen c) (is_among (without_repeats (u ∷ seen) us) c))
    ∙ ap (λ ys. ys ++ cond (is_among seen c || is_among ys c) [] (c ∷ [])) (sym (cond-false (is_among seen u) (without_repeats seen us) (u ∷ without_repeats (u ∷ seen) us) e)))))
    (cases_Bool (is_among seen u))

cond-not : (b : Bool) (c : Literal) → cond b [] (c ∷ []) ≡ cond (not b) (c ∷ []) []
cond-not true c = refl
cond-not false c = refl

without_more : (b : Bool) (us : List Literal) (c : Literal) → without_repeats [] (us ++ cond b (c ∷ []) []) ≡ without_repeats [] us ++ cond (b && not (is_among (without_repeats [] us) c)) (c ∷ []) []
without_more true us c = without_push [] us c ∙ ap (λ ys. without_repeats [] us ++ ys) (cond-not (is_among (without_repeats [] us) c) c)
without_more false us c = ap (without_repeats []) (append-nil us) ∙ sym (append-nil (without_repeats [] us))

kept_one : (p : Literal → Bool) (b : Bool) (c : Literal) → filter p (cond b (c ∷ []) []) ≡ cond (b && p c) (c ∷ []) []
kept_one p true c = refl
kept_one p false c = refl

-- a list's first sixteen, with one more behind it where b
first_push : (b : Bool) (ys : List Literal) (c : Literal) → take 16 (ys ++ cond b (c ∷ []) []) ≡ cond (ltb (length ys) 16 && b) (take 16 ys ++ c ∷ []) (take 16 ys)
first_push true ys c =
    ⊎_elim
    (λ lt. take_all 16 (ys ++ c ∷ []) (omega (arith, length_push ys c)) ∙ (ap (λ zs. zs ++ c ∷ []) (sym (take_all 16 ys (omega arith))) ∙ sym (cond-true (ltb (length ys) 16 && true) (take 16 ys ++ c ∷ []) (take 16 ys) (and_from (ltb (length ys) 16) true (lt-ltb (length ys) 16 lt) refl))))
    (λ ge. take-append-le 16 ys (c ∷ []) ge ∙ sym (cond-false (ltb (length ys) 16 && true) (take 16 ys ++ c ∷ []) (take 16 ys) (and_left (ltb (length ys) 16) true (le-ltb (length ys) 16 ge))))
    (cases_lt (length ys) 16)
first_push false ys c =
    ap (take 16) (append-nil ys) ∙ sym (cond-false (ltb (length ys) 16 && false) (take 16 ys ++ c ∷ []) (take 16 ys) (and_right (ltb (length ys) 16) false refl))

first_more : (b : Bool) (ys : List Literal) (c : Literal) → take 16 (ys ++ cond (b && not (is_among ys c)) (c ∷ []) []) ≡ cond (ltb (length (take 16 ys)) 16 && (b && not (is_among (take 16 ys) c))) (take 16 ys ++ c ∷ []) (take 16 ys)
first_more b ys c =
    ⊎_elim
    (λ lt. let e : take 16 ys ≡ ys = take_all 16 ys (omega arith) in
    first_push (b && not (is_among ys c)) ys c ∙ ap (λ zs. cond (ltb (length zs) 16 && (b && not (is_among zs c))) (take 16 ys ++ c ∷ []) (take 16 ys)) (sym e))
    (λ ge. let long : length (take 16 ys) ≡ 16 = length-take-le 16 ys ge in
    take-append-le 16 ys (cond (b && not (is_among ys c)) (c ∷ []) []) ge
    ∙ sym (cond-false (ltb (length (take 16 ys)) 16 && (b && not (is_among (take 16 ys) c))) (take 16 ys ++ c ∷ []) (take 16 ys) (and_left (ltb (length (take 16 ys)) 16) (b && not (is_among (take 16 ys) c)) (le-ltb (length (take 16 ys)) 16 (omega arith)))))
    (cases_lt (length ys) 16)

module _ (h : ℕ) (vector : List Term) where
  passing : List Literal → List Literal
  passing cs = filter (is_named vector) (filter (is_low h) cs)

  passing_push : (cs : List Literal) (c : Literal) → passing (cs ++ c ∷ []) ≡ passing cs ++ cond (is_low h c && is_named vector c) (c ∷ []) []
  unfolding passing
  passing_push cs c =
      ap (filter (is_named vector)) (filter-append (is_low h) cs (c ∷ []))
      ∙ (filter-append (is_named vector) (filter (is_low h) cs) (cond (is_low h c) (c ∷ []) []) ∙ ap (λ ys. passing cs ++ ys) (kept_one (is_named vector) (is_low h c) c))

  -- whether the next condition stays: there is room, it passes, and it is new
  abbrev pub stays : List Literal → Literal → Bool
  stays done c = ltb (length done) 16 && ((is_low h c && is_named vector c) && not (is_among done c))

  pub kept_push : (cs : List Literal) (c : Literal) → kept_conditions h vector (cs ++ c ∷ []) ≡ cond (stays (kept_conditions h vector cs) c) (kept_conditions h vector cs ++ c ∷ []) (kept_conditions h vector cs)
  unfolding passing
  kept_push cs c =
      ap (λ us. take 16 (without_repeats [] us)) (passing_push cs c)
      ∙ (ap (take 16) (without_more (is_low h c && is_named vector c) (passing cs) c) ∙ first_more (is_low h c && is_named vector c) (without_repeats [] (passing cs)) c)

-- Of the first i of the conditions `source`, those that stay are the first `kept` of the conditions made.
pub record Trimming (rs : List TermRecord) (n h : ℕ) (vector : List Term) (source conds : List Condition) (kept i : ℕ) : Type 0 where
  pub are : map (literal_of rs) (take kept conds) ≡ kept_conditions h vector (map (literal_of rs) (take i source))
  pub few : kept ≤ 16
  pub behind : kept ≤ i
  pub room : length source ≤ length conds
  pub between : Between n conds kept

pub trimming_none : (rs : List TermRecord) (n h : ℕ) (vector : List Term) (source conds : List Condition) → length source ≤ length conds → Trimming rs n h vector source conds 0 0
trimming_none rs n h vector source conds room =
    record { are = refl; few = omega arith; behind = omega arith; room = room; between = record { lefts = λ k lt. absurd (omega arith); rights = λ k lt. absurd (omega arith) } }

module _ (rs : List TermRecord) (n h : ℕ) (vector : List Term) (source conds : List Condition) (kept i : ℕ) (t : Trimming rs n h vector source conds kept i) (lt : i < length source) (b : Between n source (length source)) where
  abbrev one : Condition
  one = get_or source i no_condition

  abbrev lit : Literal
  lit = literal_of rs one

  abbrev among : Bool
  among = is_among (map (literal_of rs) (take kept conds)) lit

  abbrev stays_next : Bool
  stays_next = ltb kept 16 && ((is_low h lit && is_named vector lit) && not among)

  -- what a test by places says
  pub among_is : Bank rs n → (r : Bool) (test : Condition → Bool) → r ≡ list_any test (take kept conds) → ((d : Condition) → Decides (test d) (d ≡ one)) → among ≡ r
  among_is bank r test is decides =
      among_places rs n bank (take kept conds) one (b.lefts i lt) (b.rights i lt) (between_taken n n conds kept (omega arith) t.between) test decides ∙ sym is

  done : List Literal
  done = kept_conditions h vector (map (literal_of rs) (take i source))

  stays-at_next : stays h vector done lit ≡ stays_next
  unfolding done
  stays-at_next =
      let long : length (map (literal_of rs) (take kept conds)) ≡ kept = length-map (take kept conds) (literal_of rs) ∙ length-take-le kept conds (omega (arith, t.behind, t.room)) in
      ap (λ d. stays h vector d lit) (sym t.are) ∙ ap (λ k. ltb k 16 && ((is_low h lit && is_named vector lit) && not among)) long

  next : kept_conditions h vector (map (literal_of rs) (take (i + 1) source)) ≡ cond stays_next (done ++ lit ∷ []) done
  unfolding done
  next =
      ap (kept_conditions h vector) (map_more (literal_of rs) source i no_condition lt)
      ∙ (kept_push h vector (map (literal_of rs) (take i source)) lit ∙ ap (λ s. cond s (done ++ lit ∷ []) done) stays-at_next)

  trimming_no : stays_next ≡ false → Trimming rs n h vector source conds kept (i + 1)
  unfolding done
  trimming_no no' =
      record { are = t.are ∙ sym (next ∙ cond-false stays_next (done ++ lit ∷ []) done no'); few = t.few; behind = omega (arith, t.behind); room = t.room; between = t.between }

  pub trimming_full : 16 ≤ kept → Trimming rs n h vector source conds kept (i + 1)
  trimming_full full = trimming_no (and_left (ltb kept 16) _ (le-ltb kept 16 full))

  pub trimming_high : is_low h lit ≡ false → Trimming rs n h vector source conds kept (i + 1)
  trimming_high e = trimming_no (and_right (ltb kept 16) _ (and_left (is_low h lit && is_named vector lit) (not among) (and_left (is_low h lit) (is_named vector lit) e)))

  pub trimming_unnamed : is_named vector lit ≡ false → Trimming rs n h vector source conds kept (i + 1)
  trimming_unnamed e = trimming_no (and_right (ltb kept 16) _ (and_left (is_low h lit && is_named vector lit) (not among) (and_right (is_low h lit) (is_named vector lit) e)))

  pub trimming_repeats : among ≡ true → Trimming rs n h vector source conds kept (i + 1)
  trimming_repeats e = trimming_no (and_right (ltb kept 16) _ (and_right (is_low h lit && is_named vector lit) (not among) (not_from_true among e)))

  pub trimming_keeps : kept < 16 → is_low h lit ≡ true → is_named vector lit ≡ true → among ≡ false → Trimming rs n h vector source (set conds kept one) (kept + 1) (i + 1)
  unfolding done
  trimming_keeps room low named new =
      let yes' = and_from (ltb kept 16) _ (lt-ltb kept 16 room) (and_from (is_low h lit && is_named vector lit) (not among) (and_from (is_low h lit) (is_named vector lit) low named) (not_from_false among new)) in
      let within : kept < length conds = omega (arith, t.behind, t.room) in
      let same = get_or-set_same conds kept one no_condition within in
      record {
        are = ap (map (literal_of rs)) (take_more_set conds kept one within)
            ∙ (map_push (literal_of rs) (take kept conds) one ∙ (ap (λ ds. ds ++ lit ∷ []) t.are ∙ sym (next ∙ cond-true stays_next (done ++ lit ∷ []) done yes')));
        few = omega arith;
        behind = omega (arith, t.behind);
        room = omega (arith, t.room, length-set conds kept one);
        between = record {
          lefts = λ k le'. ⊎_elim (λ e. subst (λ d. d.left < n) (sym (ap (λ u. get_or (set conds kept one) u no_condition) e ∙ same)) (b.lefts i lt))
              (λ ne. subst (λ d. d.left < n) (sym (get_or-set_other conds kept k one no_condition ne)) (t.between.lefts k (omega arith))) (cases_eq k kept);
          rights = λ k le'. ⊎_elim (λ e. subst (λ d. d.right < n) (sym (ap (λ u. get_or (set conds kept one) u no_condition) e ∙ same)) (b.rights i lt))
              (λ ne. subst (λ d. d.right < n) (sym (get_or-set_other conds kept k one no_condition ne)) (t.between.rights k (omega arith))) (cases_eq k kept);
        };
      }
