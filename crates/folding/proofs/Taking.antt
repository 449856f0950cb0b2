-- Whether an older row takes a form, from what is found of the vector and of the conditions.
use Rattle.std.proofs.Common.{◌≡◌, ℕ, ◌<◌, ◌≤◌, Bool, true, false, ◌&&◌, eqb, List, ◌++◌, map, length, get_or, take, Some, None, Option, Decides, refl, sym, ap, ◌∙◌, subst, bit_or}
use Rattle.std.specs.Bool.{then_some}
use Rattle.std.specs.List.{AllByRecursion as All}
use Rattle.std.proofs.lemmas.Bool.{true≢false}
use Rattle.sheet.specs.System.{System}
use Rattle.terms.specs.declared.TermRecord.{TermRecord}
use Rattle.terms.specs.Terms.{Term, Entails}
use Rattle.terms.specs.Bank.{Bank, no_record, term_at}
use Rattle.closure.specs.Labels.{literals}
use Rattle.banks.specs.Room.{Roomy, Crowded, Holding}
use Rattle.rows.specs.declared.row.RowRecord.{RowRecord}
use Rattle.forms.specs.Rows.{Row, occurs_in_terms}
use Rattle.forms.specs.Form.{names_among, is_named}
use Rattle.forms.specs.Matching.{renamed_in}
use Rattle.forms.proofs.Renaming.{fitting_covers}
use Rattle.forms.specs.Counted.{FitsVector, sides_of}
use Rattle.rows.specs.Records.{Inside, Sound}
use Rattle.folding.specs.declared.renaming.Renaming.{Renaming}
use Rattle.folding.specs.Dropping.{NamesIn}
use Rattle.folding.specs.Matched.{sends, Closed, Comparable, HasRoom, LacksRoom, Found, FoundCovering}
use Rattle.folding.proofs.Dropping.{names_within}
use Rattle.folding.proofs.Forcing.{conditions_same, fits_vector}

-- a set that is none the larger for the names of a place's term has them all
pub place_named : (rs : List TermRecord) (n : ℕ) → Bank rs n → (names : ℕ) (vector : List Term) → NamesIn names vector → (i : ℕ) → i < n → eqb (bit_or (get_or rs i no_record).names names) names ≡ names_among (λ x. occurs_in_terms x vector) (term_at rs i)
place_named rs n b names vector h i lt =
    ap (λ m. eqb (bit_or m names) names) (b.names i lt) ∙ names_within names vector (term_at rs i) h

pub both-named : (l r a b : Bool) → l ≡ a → r ≡ b → l ≡ true → r ≡ (a && b)
both-named l r a b p q e = q ∙ ap (λ v. v && b) (sym e ∙ p)

pub left_unnamed : (l a b : Bool) → l ≡ a → l ≡ false → l ≡ (a && b)
left_unnamed l a b p e = e ∙ ap (λ v. v && b) (sym e ∙ p)

module _ (rs : List TermRecord) (n : ℕ) (older form : Row) where
  pub room_none : ((f : ℕ → ℕ) → FitsVector f older form → ⊥) → HasRoom rs n older form
  room_none none to fits = absurd (none to fits)

  pub takes_none : ((f : ℕ → ℕ) → FitsVector f older form → ⊥) → Found older form None
  takes_none none takes = none takes.0 (fits_vector takes.0 older form takes.1)

  module _ (closed : Closed older) (r : Renaming) (fits : FitsVector (sends r) older form) where
    pub room_found : ((seen : List Term) → Holding rs n seen → Roomy (seen ++ sides_of (map (renamed_in (sends r)) older.conditions))) → HasRoom rs n older form
    room_found room to other seen held =
        subst (λ cs. Roomy (seen ++ sides_of cs)) (conditions_same (sends r) to older form closed fits other) (room seen held)

    takes_found : All (Entails form.conditions) (map (renamed_in (sends r)) older.conditions) → Found older form (Some r)
    takes_found all = record { names = fits.names; bits = fits.bits; vector = fits.vector; conditions = all }

    takes_not : (All (Entails form.conditions) (map (renamed_in (sends r)) older.conditions) → ⊥) → Found older form None
    takes_not not' takes =
        not' (subst (All (Entails form.conditions)) (conditions_same takes.0 (sends r) older form closed (fits_vector takes.0 older form takes.1) fits) takes.1.conditions)

    -- what weighing the conditions says, as what is found
    pub takes_answered : (b : Bool) → Decides b (All (Entails form.conditions) (map (renamed_in (sends r)) older.conditions)) → Found older form (then_some b r)
    takes_answered true d = takes_found (d.0 refl)
    takes_answered false d = takes_not (λ all. true≢false (sym (d.1 all)))

    pub room_lacking : ((seen : List Term) → Holding rs n seen → Crowded (seen ++ sides_of (map (renamed_in (sends r)) older.conditions))) → LacksRoom rs n older form
    room_lacking crowded = record { to = sends r; fits = fits; crowded = crowded }

-- whatever is found, the older row covers what it takes
pub found_covers : (older form : Row) (o : Option Renaming) → Found older form o → FoundCovering older form o
found_covers older form None h = tt
found_covers older form (Some r) h = fitting_covers (sends r) older form h

-- the tests of the memory, put together
pub comparable : (s : System) (rs : List TermRecord) (n : ℕ) (o f : RowRecord) (labels : List ℕ) (readings names : ℕ) (r : Bool) → readings ≡ length s.readings → Sound s rs n 16 o → Inside s n 16 f → 512 ≤ length labels → NamesIn names (map (term_at rs) (take readings o.vector)) → ((vector : List Term) → NamesIn names vector → Decides r (All (λ c. is_named vector c ≡ true) (literals rs (take o.used o.conditions)))) → Decides r (Comparable s rs n o f labels)
comparable s rs n o f labels readings names r is sound inside long named tested =
    let of_vector = subst (λ k. NamesIn names (map (term_at rs) (take k o.vector))) is named in
    let d = tested (map (term_at rs) (take (length s.readings) o.vector)) of_vector in
    (λ e. record { older = sound; form = record { bank = sound.bank; long = sound.long; row = inside }; labelled = long; closed = d.0 e }, λ h. d.1 h.closed)
