-- Sets of names: a union has the names of both.
use Rattle.std.proofs.Common.{◌≡◌, max, None, Option, MatchOption, ℕ, zero, suc, ◌+◌, ◌/◌, ◌%◌, ◌^◌, ◌<◌, ◌≤◌, Bool, true, false, ◌||◌, eqb, List, [], ◌∷◌, ◌++◌, map, length, get_or, take, Some, sym, refl, ap, ◌∙◌, arith, bit_or}
use Rattle.std.proofs.Math.Bool.{or_assoc, or-false}
use Rattle.std.proofs.lemmas.Nat.Bits.{bit_at_or}
use Rattle.std.proofs.lemmas.Bool.Decides.{nat_tests}
use Rattle.std.proofs.lemmas.Bool.{cond-true, cond-false}
use Rattle.std.proofs.lemmas.List.{map_more, length-take-le, get_or-take}
use Rattle.terms.specs.declared.Condition.{Condition}
use Rattle.terms.specs.declared.TermRecord.{TermRecord}
use Rattle.terms.specs.Terms.{Term, occurs, name_set, Literal}
use Rattle.terms.specs.Bank.{Bank, term_at, literal_of, no_record}
use Rattle.terms.proofs.NameSets.{mentions_occurs}
use Rattle.closure.specs.Labels.{no_condition}
use Rattle.forms.specs.Rows.{Row, occurs_in_terms, occurs_in_literals, lowest_from}
use Rattle.rows.specs.Records.{Between}
use Rattle.rows.specs.Names.{is_in, NamesOfTerms, NamesOfLiterals, NamesOfRow}

max_bits : (p q : ℕ) → p < 2 → q < 2 → eqb (max p q) 1 ≡ eqb p 1 || eqb q 1
max_bits p q below below' = grind (arith, nat_tests)

pub in-union : (a b x : ℕ) → is_in (bit_or a b) x ≡ is_in a x || is_in b x
in-union a b x = rw (bit_at_or a b x) (max_bits (a / 2 ^ x % 2) (b / 2 ^ x % 2) (omega arith) (omega arith))

occurs-push : (x : ℕ) (ts : List Term) (t : Term) → occurs_in_terms x (ts ++ t ∷ []) ≡ occurs_in_terms x ts || occurs x t
occurs-push x [] t = or-false (occurs x t)
occurs-push x (u ∷ ts) t = ap (λ b. occurs x u || b) (occurs-push x ts t) ∙ sym (or_assoc (occurs x u) (occurs_in_terms x ts) (occurs x t))

literals-push : (x : ℕ) (cs : List Literal) (c : Literal) → occurs_in_literals x (cs ++ c ∷ []) ≡ occurs_in_literals x cs || (occurs x c.left || occurs x c.right)
literals-push x [] c = or-false (occurs x c.left || occurs x c.right)
literals-push x (d ∷ cs) c = ap (λ b. (occurs x d.left || occurs x d.right) || b) (literals-push x cs c) ∙ sym (or_assoc (occurs x d.left || occurs x d.right) (occurs_in_literals x cs) (occurs x c.left || occurs x c.right))

pub terms_more : (set : ℕ) (ts : List Term) (t : Term) → NamesOfTerms set ts → NamesOfTerms (bit_or set (name_set t)) (ts ++ t ∷ [])
terms_more set ts t h x =
    in-union set (name_set t) x ∙ (ap (λ b. b || is_in (name_set t) x) (h x) ∙ (ap (λ b. occurs_in_terms x ts || b) (mentions_occurs x t) ∙ sym (occurs-push x ts t)))

pub literals_more : (set : ℕ) (cs : List Literal) (c : Literal) → NamesOfLiterals set cs → NamesOfLiterals (bit_or set (bit_or (name_set c.left) (name_set c.right))) (cs ++ c ∷ [])
literals_more set cs c h x =
    let l = mentions_occurs x c.left in
    let r = mentions_occurs x c.right in
    in-union set (bit_or (name_set c.left) (name_set c.right)) x
    ∙ (ap (λ b. b || is_in (bit_or (name_set c.left) (name_set c.right)) x) (h x)
    ∙ (ap (λ b. occurs_in_literals x cs || b) (in-union (name_set c.left) (name_set c.right) x ∙ (ap (λ b. b || is_in (name_set c.right) x) l ∙ ap (λ b. occurs x c.left || b) r)) ∙ sym (literals-push x cs c)))

-- one more place, and one more condition
module _ (rs : List TermRecord) (n : ℕ) (bank : Bank rs n) where
  pub terms_step : (places : List ℕ) (k set here : ℕ) → k < length places → get_or places k 0 < n → NamesOfTerms set (map (term_at rs) (take k places)) → here ≡ (get_or rs (get_or places k 0) no_record).names → NamesOfTerms (bit_or set here) (map (term_at rs) (take (k + 1) places))
  terms_step places k set here lt inside h is =
      let t = term_at rs (get_or places k 0) in
      let e : here ≡ name_set t = is ∙ bank.names (get_or places k 0) inside in
      rw (map_more (term_at rs) places k 0 lt, e) (terms_more set (map (term_at rs) (take k places)) t h)

  pub literals_step : (conds : List Condition) (k set here : ℕ) → k < length conds → (get_or conds k no_condition).left < n → (get_or conds k no_condition).right < n → NamesOfLiterals set (map (literal_of rs) (take k conds)) → here ≡ bit_or (get_or rs (get_or conds k no_condition).left no_record).names (get_or rs (get_or conds k no_condition).right no_record).names → NamesOfLiterals (bit_or set here) (map (literal_of rs) (take (k + 1) conds))
  literals_step conds k set here lt left right h is =
      let c = get_or conds k no_condition in
      let e : here ≡ bit_or (name_set (term_at rs c.left)) (name_set (term_at rs c.right)) = rw (← bank.names c.left left, ← bank.names c.right right) is in
      rw (map_more (literal_of rs) conds k no_condition lt, e) (literals_more set (map (literal_of rs) (take k conds)) (literal_of rs c) h)

pub row_names : (row : Row) (t l : ℕ) → NamesOfTerms t row.vector → NamesOfLiterals l row.conditions → NamesOfRow (bit_or t l) row
row_names row t l terms literals x =
    in-union t l x ∙ (ap (λ b. b || is_in l x) (terms x) ∙ ap (λ b. occurs_in_terms x row.vector || b) (literals x))

-- what is asked of the first m elements, asked of a list of these alone
pub take_below : (m n : ℕ) (places : List ℕ) → m ≤ length places → ((k : ℕ) → k < m → get_or places k 0 < n) → (k : ℕ) → k < length (take m places) → get_or (take m places) k 0 < n
take_below m n places room below k lt =
    let inside : k < m = rw length-take-le at lt in
    rw get_or-take (below k inside)

pub take_between : (m n : ℕ) (conds : List Condition) → m ≤ length conds → Between n conds m → Between n (take m conds) (length (take m conds))
take_between m n conds room between =
    rw length-take-le record { lefts = λ k lt. rw get_or-take (between.lefts k lt); rights = λ k lt. rw get_or-take (between.rights k lt) }

-- the first of the names that is not in the set, j places on, is the lowest free
first_free : (taken : ℕ → Bool) (k x j i : ℕ) → j < k → i ≡ x + j → taken i ≡ false → ((y : ℕ) → x ≤ y → y < i → taken y ≡ true) → Some i ≡ lowest_from taken k x
first_free taken zero x j i lt is free below = absurd (omega arith)
first_free taken (suc k) x zero i lt is free below =
    let same : i ≡ x = omega arith in
    ap Some same ∙ sym (cond-false (taken x) (lowest_from taken k (suc x)) (Some x) (rw same at free))
first_free taken (suc k) x (suc j) i lt is free below =
    first_free taken k (suc x) j i (omega arith) (omega arith) free (λ y le lt'. below y (omega arith) lt')
    ∙ sym (cond-true (taken x) (lowest_from taken k (suc x)) (Some x) (below x (omega arith) (omega arith)))

none_free : (taken : ℕ → Bool) (k x : ℕ) → ((y : ℕ) → x ≤ y → y < x + k → taken y ≡ true) → None ≡ lowest_from taken k x
none_free taken zero x below = refl
none_free taken (suc k) x below =
    none_free taken k (suc x) (λ y le lt. below y (omega arith) (omega arith)) ∙ sym (cond-true (taken x) (lowest_from taken k (suc x)) (Some x) (below x (omega arith) (omega arith)))

pub lowest_is : (taken : ℕ → Bool) (r : Option ℕ) → MatchOption r ((y : ℕ) → 0 ≤ y → y < 32 → taken y ≡ true) (λ i. (0 ≤ i) × (i < 32) × (taken i ≡ false) × ((y : ℕ) → 0 ≤ y → y < i → taken y ≡ true)) → r ≡ lowest_from taken 32 0
lowest_is taken None h = none_free taken 32 0 h
lowest_is taken (Some i) h = first_free taken 32 0 i i h.1 (omega arith) h.2 h.3
