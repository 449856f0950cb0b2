-- Building with the terms counted comes to one outcome, and what it makes is the form.
use Rattle.std.proofs.Common.{◌≡◌, ℕ, ◌⊎◌, List, ◌++◌, Some, None, sym, refl, ap, ◌∙◌, subst, inl, inr, arith}
use Rattle.std.proofs.lemmas.Option.{none-some, same_Some}
use Rattle.terms.specs.Terms.{Term, name}
use Rattle.banks.specs.Room.{Roomy, Crowded}
use Rattle.forms.specs.Rows.{Row, stands, lowest_free}
use Rattle.forms.specs.Form.{first_higher, lowest, replaced_row, trimmed, Cut, low as cut_low, nameless as cut_nameless, cut as cut_on}
use Rattle.forms.specs.Counted.{terms_in, Built, made, nameless, crowded, CutIn, low, wanting, full, cut, FormIn}
use Rattle.forms.specs.Laws.{CountedForm}

-- what a counted cutting says of cutting
abbrev Says : ℕ → Row → Built → Type 0
Says h row (made end seen) = Cut h row (Some end)
Says h row nameless = Cut h row None
Says h row crowded = Unit {0}

says_more : (h : ℕ) (row : Row) (t : Term) (x : ℕ) (end : Built) → first_higher h row.vector ≡ Some t → lowest_free (stands row) ≡ Some x → Says h (replaced_row (lowest t) (name x) row) end → Says h row end
says_more h row t x (made end seen) e free c = cut_on row t x (Some end) e free c
says_more h row t x nameless e free c = cut_on row t x None e free c
says_more h row t x crowded e free c = tt

says : (h : ℕ) {seen : List Term} {row : Row} {end : Built} → CutIn h seen row end → Says h row end
says h (low seen row e) = cut_low row e
says h (wanting seen row t e none) = cut_nameless row t e none
says h (full seen row t x e free many) = tt
says h (cut seen row t x end e free room rest) = says_more h row t x end e free (says h rest)

abbrev next : Row → Term → ℕ → Row
next row t x = replaced_row (lowest t) (name x) row

-- the ways in which counted cutting can go on from a row
abbrev Ways : ℕ → List Term → Row → Built → Type 0
Ways h seen row end =
    ((first_higher h row.vector ≡ None) × (end ≡ made row seen))
    ⊎ (((t : Term) × (first_higher h row.vector ≡ Some t) × (lowest_free (stands row) ≡ None) × (end ≡ nameless))
    ⊎ (((t : Term) × (x : ℕ) × (first_higher h row.vector ≡ Some t) × (lowest_free (stands row) ≡ Some x) × Crowded (seen ++ terms_in (next row t x)) × (end ≡ crowded))
    ⊎ ((t : Term) × (x : ℕ) × (first_higher h row.vector ≡ Some t) × (lowest_free (stands row) ≡ Some x) × Roomy (seen ++ terms_in (next row t x)) × CutIn h (seen ++ terms_in (next row t x)) (next row t x) end)))

ways : (h : ℕ) {seen : List Term} {row : Row} {end : Built} → CutIn h seen row end → Ways h seen row end
ways h (low seen row e) = inl (e, refl)
ways h (wanting seen row t e none) = inr (inl (t, e, none, refl))
ways h (full seen row t x e free many) = inr (inr (inl (t, x, e, free, many, refl)))
ways h (cut seen row t x end e free room rest) = inr (inr (inr (t, x, e, free, room, rest)))

-- there are not both at most 512 and more
pub not-both : (ts : List Term) → Roomy ts → Crowded ts → ⊥
not-both ts room many = omega (arith, room.2, many room.0 room.1)

module _ (h : ℕ) (row : Row) (t : Term) (x : ℕ) (e : first_higher h row.vector ≡ Some t) (free : lowest_free (stands row) ≡ Some x) where
  -- whatever the other way was, it cut the same term and gave the same name
  moved : (P : Row → Type 0) (u : Term) (y : ℕ) → first_higher h row.vector ≡ Some u → lowest_free (stands row) ≡ Some y → P (next row u y) → P (next row t x)
  moved P u y e₁ free₁ p =
      subst (λ z. P (next row t z)) (same_Some y x (sym free₁ ∙ free)) (subst (λ w. P (next row w y)) (same_Some u t (sym e₁ ∙ e)) p)

cut_once : (h : ℕ) {seen : List Term} {row : Row} {a : Built} → CutIn h seen row a → (b : Built) → CutIn h seen row b → a ≡ b
cut_once h (low seen row e) b other = by (ways h other)
  where
    by : Ways h seen row b → made row seen ≡ b
    by (inl w) = sym w.1
    by (inr (inl w)) = absurd (none-some w.0 (sym e ∙ w.1))
    by (inr (inr (inl w))) = absurd (none-some w.0 (sym e ∙ w.2))
    by (inr (inr (inr w))) = absurd (none-some w.0 (sym e ∙ w.2))
cut_once h (wanting seen row t e none) b other = by (ways h other)
  where
    by : Ways h seen row b → nameless ≡ b
    by (inl w) = absurd (none-some t (sym w.0 ∙ e))
    by (inr (inl w)) = sym w.3
    by (inr (inr (inl w))) = absurd (none-some w.1 (sym none ∙ w.3))
    by (inr (inr (inr w))) = absurd (none-some w.1 (sym none ∙ w.3))
cut_once h (full seen row t x e free many) b other = by (ways h other)
  where
    by : Ways h seen row b → crowded ≡ b
    by (inl w) = absurd (none-some t (sym w.0 ∙ e))
    by (inr (inl w)) = absurd (none-some x (sym w.2 ∙ free))
    by (inr (inr (inl w))) = sym w.5
    by (inr (inr (inr w))) = absurd (not-both (seen ++ terms_in (next row t x)) (moved h row t x e free (λ r. Roomy (seen ++ terms_in r)) w.0 w.1 w.2 w.3 w.4) many)
cut_once h (cut seen row t x end e free room rest) b other = by (λ c. cut_once h rest b c) (ways h other)
  where
    by : (CutIn h (seen ++ terms_in (next row t x)) (next row t x) b → end ≡ b) → Ways h seen row b → end ≡ b
    by same' (inl w) = absurd (none-some t (sym w.0 ∙ e))
    by same' (inr (inl w)) = absurd (none-some x (sym w.2 ∙ free))
    by same' (inr (inr (inl w))) = absurd (not-both (seen ++ terms_in (next row t x)) room (moved h row t x e free (λ r. Crowded (seen ++ terms_in r)) w.0 w.1 w.2 w.3 w.4))
    by same' (inr (inr (inr w))) = same' (moved h row t x e free (λ r. CutIn h (seen ++ terms_in r) r b) w.0 w.1 w.2 w.3 w.5)

-- a form comes from the cuts by trimming
abbrev trimmed_in : ℕ → Built → Built
trimmed_in h (made end seen) = made (trimmed h end) seen
trimmed_in h nameless = nameless
trimmed_in h crowded = crowded

from_cuts : (h : ℕ) (seen : List Term) (row : Row) (b : Built) → FormIn h seen row b → (end : Built) × CutIn h seen row end × (b ≡ trimmed_in h end)
from_cuts h seen row (made form seen') f = (made f.0 seen', f.1, ap (λ r. made r seen') f.2)
from_cuts h seen row nameless f = (nameless, f, refl)
from_cuts h seen row crowded f = (crowded, f, refl)

pub counted_form : CountedForm
counted_form h seen row =
    record {
      made = λ form seen' f. (f.0, says h f.1, f.2);
      nameless = λ f. says h f;
      once = λ a b f g. (let x = from_cuts h seen row a f in let y = from_cuts h seen row b g in x.2 ∙ (ap (trimmed_in h) (cut_once h x.1 y.0 y.1) ∙ sym y.2));
    }
