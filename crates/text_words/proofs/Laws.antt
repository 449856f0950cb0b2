-- The laws of lines and numbers. Assumes nothing.
use Rattle.std.proofs.Common.{◌≡◌, ℕ, ◌^◌, ◌<◌, ◌≤◌, true, false, cond, eqb, List, [], ◌∷◌, Ok, Err, decimal, refl, ap, ◌∙◌, arith, rules}
use Rattle.std.proofs.lemmas.Bool.{eqb-false}
use Rattle.std.proofs.lemmas.Fmt.{digits_decimal, digits_value-decimal}
use Rattle.std.proofs.lemmas.Str.Parse.{IsNumeralModel, numerals_by_fold}
use Rattle.std.proofs.lemmas.List.Splits.{join_with_byte-slice_split}
use Rattle.std.specs.Char.{is_ascii_digit}
use Rattle.std.specs.List.{AllByRecursion, list_all, onto_first, join_with_byte}
use Rattle.text_words.specs.declared.NotNumber.TheVariants.{NotDecimal}
use Rattle.text_words.specs.Grammar.{Without, Grammar}
use Rattle.text_words.specs.Words.{lines_of, value_after, within, number_of}
use Rattle.text_words.proofs.Numbers.{within-fits}

own : IsNumeralModel (λ ds. list_all is_ascii_digit ds ≡ true) (value_after 0)
own = numerals_by_fold _ (search rules) value_after (search rules)

pub numerals : (n most : ℕ) → n ≤ most → most < 2 ^ 32 → number_of most (decimal n) ≡ Ok n
numerals n most h w =
    let wide : n < 2 ^ 64 = omega arith in
    ap (λ b. cond b (within most (value_after 0 (decimal n))) (Err NotDecimal)) (digits_decimal own n wide)
    ∙ ap (within most) (digits_value-decimal own n wide) ∙ within-fits most n h

onto_first_parted : (x : ℕ) (ps : List (List ℕ)) → (x ≡ 10 → ⊥) → AllByRecursion (Without 10) ps → AllByRecursion (Without 10) (onto_first x ps)
onto_first_parted x [] h a = ((h, tt), tt)
onto_first_parted x (p ∷ ps) h a = ((h, a.0), a.1)

pub parted : (bs : List ℕ) → AllByRecursion (Without 10) (lines_of bs)
parted [] = (tt, tt)
parted (b ∷ bs) =
    elim (eqb b 10) as (λ t. eqb b 10 ≡ t → AllByRecursion (Without 10) (cond t ([] ∷ lines_of bs) (onto_first b (lines_of bs)))) [
      | true ↦ λ e. (tt, parted bs)
      | false ↦ λ e. onto_first_parted b (lines_of bs) (eqb-false b 10 e) (parted bs)
    ] refl

pub whole : (bs : List ℕ) → join_with_byte 10 (lines_of bs) ≡ bs
whole bs = join_with_byte-slice_split 10 bs

pub laws : Grammar
laws = record { whole = whole; parted = parted; numerals = numerals }
