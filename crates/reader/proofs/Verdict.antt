-- What is read next is a function of the bytes, so the same bytes are read in one way.
use Rattle.std.proofs.Common.{◌≡◌, ℕ, ◌<◌, true, false, cond, eqb, ltb, List, [], ◌∷◌, ◌++◌, length, take, drop, Some, None, Ok, Err, Option, Result, sym, refl, ap, ◌∙◌, subst, inl, inr, append_assoc, arith, length-append}
use Rattle.std.proofs.lemmas.Bool.Decides.{nat_tests}
use Rattle.std.proofs.lemmas.List.{append_cancel_left, take_at, drop_at}
use Rattle.fault.specs.declared.Place.{Place}
use Rattle.fault.specs.declared.SheetFault.{SheetFault}
use Rattle.fault.specs.declared.SheetFault.TheVariants.{Truncated, UnknownLetter, BadBody, TooMany, Repeated, Incomplete, TrailingBytes}
use Rattle.sheet.specs.declared.kind.Kind.{Kind}
use Rattle.sheet.specs.declared.syntax.Record.{Record}
use Rattle.reader.specs.Decode.{decoded, judge}
use Rattle.reader.specs.Outcome.{Allowed, AllAllowed, complete, Stops, FaultyAt}
use Rattle.sheet.specs.Format.{letter, body_length, kind_of, body_of, written, written_all}
use Rattle.sheet.specs.Rules.{room, obeys, fresh}
use Rattle.sheet.specs.System.{System, nothing, add, gather}
use Rattle.reader.proofs.Decoding.{kind_at, kind_at_letter, decode_writes, decode_finds, length-body_of}
use Rattle.reader.proofs.Judgement.{obeys-keeps}

abbrev of_judged : Result Record SheetFault → Result Record (Option SheetFault)
of_judged (Ok x) = Ok x
of_judged (Err f) = Err (Some f)

abbrev of_rest : List ℕ → Result Record (Option SheetFault)
of_rest [] = Err None
of_rest (c ∷ more) = Err (Some TrailingBytes)

abbrev of_whole : System → Kind → List ℕ → List ℕ → Result Record (Option SheetFault)
of_whole s k body more = cond (eqb (letter k) 69) (cond (complete s) (of_rest more) (Err (Some Incomplete))) (of_judged (judge s k body))

abbrev of_kind : System → List ℕ → Option Kind → Result Record (Option SheetFault)
of_kind s more None = Err (Some UnknownLetter)
of_kind s more (Some k) = cond (ltb (length more) (body_length k)) (Err (Some Truncated)) (of_whole s k (take (body_length k) more) (drop (body_length k) more))

-- the record that is read next; or else the fault, or none where a whole sheet ends
abbrev verdict : System → List ℕ → Result Record (Option SheetFault)
verdict s [] = Err (Some Truncated)
verdict s (c ∷ more) = of_kind s more (kind_at c)

known : (c : ℕ) (k : Kind) → kind_at c ≡ Some k → letter k ≡ c
known c k e = grind (arith, nat_tests)

unknown : (c : ℕ) → ((k : Kind) → letter k ≡ c → ⊥) → kind_at c ≡ None
unknown c none =
    elim (kind_at c) as (λ o. kind_at c ≡ o → kind_at c ≡ None) [
      | None ↦ λ e. e
      | Some k ↦ λ e. absurd (none k (known c k e))
    ] refl

not_69 : (k : Kind) → (k ≡ Kind.End → ⊥) → eqb (letter k) 69 ≡ false
not_69 k n = grind (arith, nat_tests, n)

-- no record is the end record
not_end : (x : Record) → eqb (letter (kind_of x)) 69 ≡ false
not_end x = grind (arith, nat_tests)

module _ (s : System) where
  lettered : (k : Kind) (more : List ℕ) → verdict s (letter k ∷ more) ≡ of_kind s more (Some k)
  lettered k more = ap (of_kind s more) (kind_at_letter k)

  cut : (k : Kind) (body : List ℕ) → length body < body_length k → verdict s (letter k ∷ body) ≡ Err (Some Truncated)
  cut k body h = lettered k body ∙ grind (arith, nat_tests)

  whole : (k : Kind) (body more : List ℕ) → length body ≡ body_length k → verdict s (letter k ∷ (body ++ more)) ≡ of_whole s k body more
  whole k body more n =
      let long = length-append body more in
      let front = take_at body more (body_length k) n in
      let rest = drop_at body more (body_length k) n in
      lettered k (body ++ more) ∙ grind (arith, nat_tests)

  inside : (k : Kind) (body more : List ℕ) → length body ≡ body_length k → eqb (letter k) 69 ≡ false → verdict s (letter k ∷ (body ++ more)) ≡ of_judged (judge s k body)
  inside k body more n e = whole k body more n ∙ rw e refl

  obeying : (x : Record) (more : List ℕ) → room s (kind_of x) ≡ true → obeys s x ≡ true → verdict s (written x ++ more) ≡ cond (fresh s x) (Ok x) (Err (Some Repeated))
  obeying x more r o =
      let d = decode_finds s (kind_of x) (body_of x) x refl (obeys-keeps s x o) in
      inside (kind_of x) (body_of x) more (length-body_of x) (not_end x) ∙ grind arith

  unlawful : (k : Kind) (body : List ℕ) → length body ≡ body_length k → room s k ≡ true → ((x : Record) → written x ≡ letter k ∷ body → obeys s x ≡ true → ⊥) → judge s k body ≡ Err BadBody
  unlawful k body n r none =
      elim (decoded s k body) as (λ o. decoded s k body ≡ o → judge s k body ≡ Err BadBody) [
        | None ↦ λ d. grind arith
        | Some x ↦ λ d. let against = none x (decode_writes s k body x n d) in grind arith
      ] refl

  pub stopped : (rest : List ℕ) (f : SheetFault) → Stops s rest f → verdict s rest ≡ Err (Some f)
  stopped rest Truncated (inl e) = ap (verdict s) e
  stopped rest Truncated (inr t) = ap (verdict s) t.is ∙ cut t.kind t.body t.short
  stopped rest UnknownLetter t = ap (verdict s) t.is ∙ ap (of_kind s t.more) (unknown t.byte t.none)
  stopped rest BadBody t = ap (verdict s) t.is ∙ inside t.kind t.body t.more t.whole (not_69 t.kind t.inside) ∙ ap of_judged (unlawful t.kind t.body t.whole t.room t.none)
  stopped rest TooMany t = ap (verdict s) t.is ∙ inside t.kind t.body t.more t.whole (not_69 t.kind (λ e. let full = t.room in grind arith)) ∙ rw t.room refl
  stopped rest Repeated t = ap (verdict s) t.is ∙ obeying t.what t.more t.room t.obeys ∙ rw t.stale refl
  stopped rest Incomplete t = ap (verdict s) t.is ∙ whole Kind.End [] t.more refl ∙ rw t.lacks refl
  stopped rest TrailingBytes t = ap (verdict s) t.is ∙ whole Kind.End [] (t.byte ∷ t.more) refl ∙ rw t.has refl

  pub ended : complete s ≡ true → verdict s (letter Kind.End ∷ []) ≡ Err None
  ended c = rw c refl

  goes_on : (x : Record) (more : List ℕ) → Allowed s x → verdict s (written x ++ more) ≡ Ok x
  goes_on x more a = obeying x more a.room a.obeys ∙ rw a.fresh refl

-- the records that are read from the bytes, and then the fault, or none
pub record Reading (s : System) (bytes : List ℕ) (xs : List Record) (v : Option SheetFault) : Type 0 where
  pub rest : List ℕ
  pub is : bytes ≡ written_all xs ++ rest
  pub allowed : AllAllowed s xs
  pub ends : verdict (gather s xs) rest ≡ Err v

module _ (s : System) (bytes : List ℕ) (x : Record) (xs : List Record) (v : Option SheetFault) (r : Reading s bytes (x ∷ xs) v) where
  front : bytes ≡ written x ++ (written_all xs ++ r.rest)
  front = r.is ∙ append_assoc (written x) (written_all xs) r.rest

  first : verdict s bytes ≡ Ok x
  first = ap (verdict s) front ∙ goes_on s x (written_all xs ++ r.rest) r.allowed.0

  not_over : (w : Option SheetFault) → verdict s bytes ≡ Err w → ⊥
  not_over w e = let here = first in grind arith

-- the same bytes are read in one way
pub one_reading : (s : System) (bytes : List ℕ) (xs ys : List Record) (v w : Option SheetFault) → Reading s bytes xs v → Reading s bytes ys w → (xs ≡ ys) × (v ≡ w)
one_reading s bytes [] [] v w a b =
    let at = a.is in
    let at' = b.is in
    let ends = a.ends in
    let ends' = b.ends in
    (refl, cc)
one_reading s bytes [] (y ∷ ys) v w a b = absurd (not_over s bytes y ys w b v (ap (verdict s) a.is ∙ a.ends))
one_reading s bytes (x ∷ xs) [] v w a b = absurd (not_over s bytes x xs v a w (ap (verdict s) b.is ∙ b.ends))
one_reading s bytes (x ∷ xs) (y ∷ ys) v w a b =
    let first-x = first s bytes x xs v a in
    let first-y = first s bytes y ys w b in
    let p : x ≡ y = cc in
    let tails = append_cancel_left (written x) (written_all xs ++ a.rest) (written_all ys ++ b.rest) (sym (front s bytes x xs v a) ∙ (front s bytes y ys w b ∙ ap (λ z. written z ++ (written_all ys ++ b.rest)) (sym p))) in
    let more = one_reading (add s x) (written_all xs ++ a.rest) xs ys v w (record { rest = a.rest; is = refl; allowed = a.allowed.1; ends = a.ends }) (record { rest = b.rest; is = tails; allowed = subst (λ z. AllAllowed (add s z) ys) (sym p) b.allowed.1; ends = subst (λ z. verdict (gather (add s z) ys) b.rest ≡ Err w) (sym p) b.ends }) in
    let m = more.0 in
    (cc, more.1)

pub faulty_reading : (bytes : List ℕ) (xs : List Record) (f : SheetFault) (p : Place) → FaultyAt bytes xs f p → Reading nothing bytes xs (Some f)
faulty_reading bytes xs f p a = record { rest = a.rest; is = a.is; allowed = a.allowed; ends = stopped (gather nothing xs) a.rest f a.stops }

pub whole_reading : (bytes : List ℕ) (xs : List Record) → bytes ≡ written_all xs ++ letter Kind.End ∷ [] → AllAllowed nothing xs → complete (gather nothing xs) ≡ true → Reading nothing bytes xs None
whole_reading bytes xs e a c = record { rest = letter Kind.End ∷ []; is = e; allowed = a; ends = ended (gather nothing xs) c }
