-- The form of a candidate at a height: high terms are cut, then conditions go. Assumes nothing.
use Rattle.std.specs.Prelude.{◌≡◌, ℕ, max, Bool, true, false, cond, ◌&&◌, ◌||◌, List, [], ◌∷◌, map, take, Some, None, filter, Option, ◌==◌, nat_le, nat_lt}
use Rattle.terms.specs.declared.Sign.{Sign}
use Rattle.terms.specs.declared.Sign.TheVariants.{Equal, Different}
use Rattle.terms.specs.Terms.{Term, name, constant, unary, binary, ternary, height, same, replaced, Literal}
use Rattle.forms.specs.Rows.{Row, stands, lowest_free, occurs_in_terms}

-- the first term that is higher than h
abbrev pub first_higher : ℕ → List Term → Option Term
first_higher h [] = None
first_higher h (t ∷ ts) = cond (nat_lt h (height t)) (Some t) (first_higher h ts)

-- from a term down, each time to the first argument exactly one lower, to a term of height 1
abbrev pub lowest : Term → Term
lowest (name x) = name x
lowest (constant f) = constant f
lowest (unary f a) = cond (height a == 0) (unary f a) (lowest a)
lowest (binary f a b) =
    cond (max (height a) (height b) == 0) (binary f a b) (cond (height a == max (height a) (height b)) (lowest a) (lowest b))
lowest (ternary f a b c) =
    cond (max (height a) (max (height b) (height c)) == 0) (ternary f a b c)
    (cond (height a == max (height a) (max (height b) (height c))) (lowest a) (cond (height b == max (height a) (max (height b) (height c))) (lowest b) (lowest c)))

-- a term replaced throughout a row
abbrev pub replaced_in : Term → Term → Literal → Literal
replaced_in old new c = record { left = replaced old new c.left; right = replaced old new c.right; sign = c.sign }

abbrev pub replaced_row : Term → Term → Row → Row
replaced_row old new row = record { bits = row.bits; vector = map (replaced old new) row.vector; conditions = map (replaced_in old new) row.conditions }

-- Cutting at height h: while a vector term is higher, the first such leads down to the term that goes, and
-- the lowest name that stands nowhere in the row, as it is then, takes its place. None is want of names.
pub data Cut (h : ℕ) : Row → Option Row → Type 0 where
  low : (row : Row) → first_higher h row.vector ≡ None → Cut h row (Some row)
  nameless : (row : Row) (t : Term) → first_higher h row.vector ≡ Some t → lowest_free (stands row) ≡ None → Cut h row None
  cut : (row : Row) (t : Term) (x : ℕ) (end : Option Row) → first_higher h row.vector ≡ Some t → lowest_free (stands row) ≡ Some x → Cut h (replaced_row (lowest t) (name x) row) end → Cut h row end

-- Conditions go, in this order: any with a term higher than h; any with a name that is absent from the
-- vector; those that stand before already, side for side and with their sign; all after the sixteenth.
abbrev pub is_low : ℕ → Literal → Bool
is_low h c = nat_le (height c.left) h && nat_le (height c.right) h

abbrev pub names_among : (ℕ → Bool) → Term → Bool
names_among p (name x) = p x
names_among p (constant f) = true
names_among p (unary f a) = names_among p a
names_among p (binary f a b) = names_among p a && names_among p b
names_among p (ternary f a b c) = names_among p a && (names_among p b && names_among p c)

abbrev pub is_named : List Term → Literal → Bool
is_named vector c = names_among (λ x. occurs_in_terms x vector) c.left && names_among (λ x. occurs_in_terms x vector) c.right

abbrev pub same_sign : Sign → Sign → Bool
same_sign Equal Equal = true
same_sign Equal Different = false
same_sign Different Equal = false
same_sign Different Different = true

abbrev pub same_literal : Literal → Literal → Bool
same_literal c d = same c.left d.left && (same c.right d.right && same_sign c.sign d.sign)

abbrev pub is_among : List Literal → Literal → Bool
is_among [] c = false
is_among (d ∷ ds) c = same_literal c d || is_among ds c

abbrev pub without_repeats : List Literal → List Literal → List Literal
without_repeats seen [] = []
without_repeats seen (c ∷ cs) = cond (is_among seen c) (without_repeats seen cs) (c ∷ without_repeats (c ∷ seen) cs)

abbrev pub trimmed : ℕ → Row → Row
trimmed h row = record { bits = row.bits; vector = row.vector; conditions = take 16 (without_repeats [] (filter (is_named row.vector) (filter (is_low h) row.conditions))) }

-- the form of a candidate at height h, or none for want of names
abbrev pub Form : ℕ → Row → Option Row → Type 0
Form h row None = Cut h row None
Form h row (Some form) = (end : Row) × Cut h row (Some end) × (form ≡ trimmed h end)
