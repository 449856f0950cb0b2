-- The form covers all that its candidate covers: a cut's name takes the value of the term that goes.
use Rattle.std.proofs.Common.{◌≡◌, ℕ, zero, suc, Bool, true, false, cond, ◌||◌, ◌⊎◌, List, [], ◌∷◌, map, Some, None, filter, Option, sym, refl, ap, ◌∙◌, inl, inr, arith}
use Rattle.std.specs.List.{AllByRecursion as All}
use Rattle.std.proofs.ByRecursion.{All-take, all_kept_by}
use Rattle.std.proofs.lemmas.Bool.{cond_both, cond-true, cond-false, cases_Bool, or_parts}
use Rattle.sheet.specs.Runs.{Configuration}
use Rattle.sheet.specs.Truth.{Meaning}
use Rattle.terms.proofs.Same.{same_true}
use Rattle.terms.specs.Terms.{Term, name, constant, unary, binary, ternary, Interpretation, eval, occurs, same, replaced, Literal, Holds}
use Rattle.forms.specs.Rows.{Row, Covers, occurs_in_terms, occurs_in_literals, stands, lowest_from, lowest_free}
use Rattle.forms.specs.Form.{Cut, low, nameless, cut, lowest, replaced_in, replaced_row, is_among, without_repeats, is_named, is_low, trimmed}
use Rattle.forms.specs.Laws.{FormCovers}
use Rattle.forms.proofs.Values.{signed_same, eval-small, with_value, value_here, value_elsewhere}

-- the new name stands for the old term
abbrev standing : Interpretation → ℕ → Term → Interpretation
standing i x old = with_value i x (eval i old) (eval-small i old)

by_test : (i : Interpretation) (x : ℕ) (old t rest : Term) → eval (standing i x old) rest ≡ eval i t → eval (standing i x old) (cond (same t old) (name x) rest) ≡ eval i t
by_test i x old t rest h =
    cond_both (same t old) (name x) rest (λ u. eval (standing i x old) u ≡ eval i t) (λ e. value_here i x (eval i old) (eval-small i old) ∙ ap (eval i) (sym (same_true t old e))) (λ _. h)

eval-replaced : (i : Interpretation) (x : ℕ) (old t : Term) → occurs x t ≡ false → eval (standing i x old) (replaced old (name x) t) ≡ eval i t
eval-replaced i x old (name y) absent = by_test i x old (name y) (name y) (value_elsewhere i x (eval i old) (eval-small i old) y absent)
eval-replaced i x old (constant f) absent = by_test i x old (constant f) (constant f) refl
eval-replaced i x old (unary f a) absent =
    by_test i x old (unary f a) (unary f (replaced old (name x) a)) (let p = eval-replaced i x old a absent in cc)
eval-replaced i x old (binary f a b) absent =
    let parts = or_parts (occurs x a) (occurs x b) absent in
    by_test i x old (binary f a b) (binary f (replaced old (name x) a) (replaced old (name x) b)) (let p = eval-replaced i x old a parts.0 in let q = eval-replaced i x old b parts.1 in cc)
eval-replaced i x old (ternary f a b c) absent =
    let parts = or_parts (occurs x a) (occurs x b || occurs x c) absent in
    let more = or_parts (occurs x b) (occurs x c) parts.1 in
    by_test i x old (ternary f a b c) (ternary f (replaced old (name x) a) (replaced old (name x) b) (replaced old (name x) c)) (let p = eval-replaced i x old a parts.0 in let q = eval-replaced i x old b more.0 in let r = eval-replaced i x old c more.1 in cc)

vector_replaced : (i : Interpretation) (x : ℕ) (old : Term) (ts : List Term) → occurs_in_terms x ts ≡ false → map (eval (standing i x old)) (map (replaced old (name x)) ts) ≡ map (eval i) ts
vector_replaced i x old [] absent = refl
vector_replaced i x old (t ∷ ts) absent =
    let parts = or_parts (occurs x t) (occurs_in_terms x ts) absent in
    let p = eval-replaced i x old t parts.0 in
    let q = vector_replaced i x old ts parts.1 in
    cc

conditions_replaced : (i : Interpretation) (x : ℕ) (old : Term) (cs : List Literal) → occurs_in_literals x cs ≡ false → All (Holds i) cs → All (Holds (standing i x old)) (map (replaced_in old (name x)) cs)
conditions_replaced i x old [] absent all = tt
conditions_replaced i x old (c ∷ cs) absent all =
    let parts = or_parts (occurs x c.left || occurs x c.right) (occurs_in_literals x cs) absent in
    let sides = or_parts (occurs x c.left) (occurs x c.right) parts.0 in
    (signed_same c.sign (eval i c.left) (eval (standing i x old) (replaced old (name x) c.left)) (eval i c.right) (eval (standing i x old) (replaced old (name x) c.right)) (sym (eval-replaced i x old c.left sides.0)) (sym (eval-replaced i x old c.right sides.1)) all.0, conditions_replaced i x old cs parts.1 all.1)

replaced_covers : (m : Meaning) (c : Configuration) (x : ℕ) (old : Term) (row : Row) → stands row x ≡ false → Covers m row c → Covers m (replaced_row old (name x) row) c
replaced_covers m c x old row absent covers =
    let parts = or_parts (occurs_in_terms x row.vector) (occurs_in_literals x row.conditions) absent in
    let i = covers.by in
    record {
      by = standing i x old;
      under = covers.under;
      covers = record {
        bits = covers.covers.bits;
        conditions = conditions_replaced i x old row.conditions parts.1 covers.covers.conditions;
        readings = vector_replaced i x old row.vector parts.0 ∙ covers.covers.readings;
      };
    }

lowest_is_free : (taken : ℕ → Bool) (k y x : ℕ) → lowest_from taken k y ≡ Some x → taken x ≡ false
lowest_is_free taken zero y x is = let z : ◌≡◌ {A = ℕ} 0 1 = cc in absurd (omega arith)
lowest_is_free taken (suc k) y x is = by (λ later. lowest_is_free taken k (suc y) x later) (cases_Bool (taken y))
  where
    by : (lowest_from taken k (suc y) ≡ Some x → taken x ≡ false) → (taken y ≡ true) ⊎ (taken y ≡ false) → taken x ≡ false
    by higher (inl t) = higher (sym (cond-true (taken y) (lowest_from taken k (suc y)) (Some y) t) ∙ is)
    by higher (inr t) =
        let e : ◌≡◌ {A = Option ℕ} (Some y) (Some x) = sym (cond-false (taken y) (lowest_from taken k (suc y)) (Some y) t) ∙ is in
        let same' : y ≡ x = cc in
        ap taken (sym same') ∙ t

pub free_name : (taken : ℕ → Bool) (x : ℕ) → lowest_free taken ≡ Some x → taken x ≡ false
free_name taken x is = lowest_is_free taken 32 0 x is

abbrev CoversEnd : Meaning → Configuration → Option Row → Type 0
CoversEnd m c None = Unit {0}
CoversEnd m c (Some row) = Covers m row c

cuts_cover : (m : Meaning) (c : Configuration) (h : ℕ) {row : Row} {end : Option Row} → Cut h row end → Covers m row c → CoversEnd m c end
cuts_cover m c h (low row e) covers = covers
cuts_cover m c h (nameless row t e none) covers = tt
cuts_cover m c h (cut row t x end e free rest) covers =
    cuts_cover m c h rest (replaced_covers m c x (lowest t) row (free_name (stands row) x free) covers)

pub all_once : (P : Literal → Type 0) (seen cs : List Literal) → All P cs → All P (without_repeats seen cs)
all_once P seen [] all = tt
all_once P seen (c ∷ cs) all =
    cond_both (is_among seen c) (without_repeats seen cs) (c ∷ without_repeats (c ∷ seen) cs) (All P) (λ _. all_once P seen cs all.1) (λ _. (all.0, all_once P (c ∷ seen) cs all.1))

trimmed_covers : (m : Meaning) (c : Configuration) (h : ℕ) (row : Row) → Covers m row c → Covers m (trimmed h row) c
trimmed_covers m c h row covers =
    let P = Holds covers.by in
    let lows = filter (is_low h) row.conditions in
    let named = filter (is_named row.vector) lows in
    record {
      by = covers.by;
      under = covers.under;
      covers = record {
        bits = covers.covers.bits;
        conditions = All-take P 16 (without_repeats [] named) (all_once P [] named (all_kept_by (is_named row.vector) P lows (all_kept_by (is_low h) P row.conditions covers.covers.conditions)));
        readings = covers.covers.readings;
      };
    }

pub form_covers : FormCovers
form_covers h candidate form is m c covers =
    rw is.2 (trimmed_covers m c h is.0 (cuts_cover m c h is.1 covers))
