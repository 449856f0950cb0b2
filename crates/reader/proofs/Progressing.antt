-- One record more, or the first fault.
use Rattle.std.proofs.Common.{◌≡◌, ℕ, ◌+◌, ◌-◌, ◌<◌, ◌≤◌, true, false, List, [], ◌∷◌, ◌++◌, length, get_or, take, drop, Ok, Err, Result, sym, ap, ◌∙◌, subst, inl, inr, append_assoc, arith, length-append, length-drop}
use Rattle.std.proofs.lemmas.List.{drop_more, drop_all, drop-drop, take-append-drop, append-nil, length_push, length-take-le}
use Rattle.fault.specs.declared.Place.{Place}
use Rattle.fault.specs.declared.SheetFault.{SheetFault}
use Rattle.fault.specs.declared.SheetFault.TheVariants.{Truncated, UnknownLetter, BadBody, TooMany, Repeated, Incomplete, TrailingBytes}
use Rattle.sheet.specs.declared.kind.Kind.{Kind}
use Rattle.reader.specs.declared.draft.Draft.{Draft}
use Rattle.sheet.specs.declared.syntax.Record.{Record}
use Rattle.sheet.specs.Format.{letter, body_length, written, written_all}
use Rattle.reader.specs.Outcome.{Allowed, AllAllowed, FaultyAt, Stops, complete}
use Rattle.reader.specs.Progress.{KindAt, NoKindAt, ReadTo, Ended}
use Rattle.sheet.specs.System.{System, nothing, add, gather, describe}
use Rattle.reader.specs.Drafts.{draft_of, Added}
use Rattle.reader.proofs.Canon.{gather_append}
use Rattle.reader.proofs.Judgement.{Good, Refused, Says, kind_is, judge_says}
use Rattle.sheet.specs.Rules.{keeps}
use Rattle.reader.specs.Decode.{judge}
use Rattle.sheet.specs.Rules as Rules

-- one record more
pub allowed_push : (s : System) (xs : List Record) (x : Record) → AllAllowed s xs → Allowed (gather s xs) x → AllAllowed s (xs ++ x ∷ [])
allowed_push s [] x h a = (a, tt)
allowed_push s (y ∷ ys) x h a = (h.0, allowed_push (add s y) ys x h.1 a)

pub written_all-push : (xs : List Record) (x : Record) → written_all (xs ++ x ∷ []) ≡ written_all xs ++ written x
written_all-push [] x = append-nil (written x)
written_all-push (y ∷ ys) x = ap (λ l. written y ++ l) (written_all-push ys x) ∙ sym (append_assoc (written y) (written_all ys) (written x))

-- what stands at the place: the letter, the body and the rest
pub split_at : (bytes : List ℕ) (at : ℕ) (k : Kind) → KindAt bytes at k → drop at bytes ≡ letter k ∷ (take (body_length k) (drop (at + 1) bytes) ++ drop (at + 1 + body_length k) bytes)
split_at bytes at k h =
    let a = drop_more bytes at 0 h.inside in
    let b : drop (at + 1) bytes ≡ take (body_length k) (drop (at + 1) bytes) ++ drop (at + 1 + body_length k) bytes =
    sym (take-append-drop (body_length k) (drop (at + 1) bytes)) ∙ ap (λ l. take (body_length k) (drop (at + 1) bytes) ++ l) (drop-drop (body_length k) (at + 1) bytes) in
    let l = h.is in
    cc

pub body_whole : (bytes : List ℕ) (at : ℕ) (k : Kind) → KindAt bytes at k → length (take (body_length k) (drop (at + 1) bytes)) ≡ body_length k
body_whole bytes at k h = length-take-le (body_length k) (drop (at + 1) bytes) (omega (arith, length-drop (at + 1) bytes, h.whole))

module _ (bytes : List ℕ) (p : Place) (d : Draft) (xs : List Record) (h : ReadTo bytes p d xs) where
  faulty : (f : SheetFault) → Stops (describe xs) (drop p.byte bytes) f → FaultyAt bytes xs f p
  faulty f s = record { rest = drop p.byte bytes; is = h.front; allowed = h.allowed; «record» = h.number; byte = h.byte; stops = s }

  no_kind_stops : (f : SheetFault) → NoKindAt bytes p.byte f → Stops (describe xs) (drop p.byte bytes) f
  no_kind_stops Truncated (inl past) = inl (drop_all p.byte bytes past)
  no_kind_stops Truncated (inr cut) =
      let a = drop_more bytes p.byte 0 cut.inside in
      inr (record { kind = cut.kind; body = drop (p.byte + 1) bytes; is = a ∙ ap (λ c. c ∷ drop (p.byte + 1) bytes) (sym cut.is); short = omega (arith, length-drop (p.byte + 1) bytes, cut.short, cut.inside) })
  no_kind_stops UnknownLetter u = record { byte = get_or bytes p.byte 0; more = drop (p.byte + 1) bytes; is = drop_more bytes p.byte 0 u.inside; none = u.none }
  no_kind_stops BadBody v = absurd v
  no_kind_stops TooMany v = absurd v
  no_kind_stops Repeated v = absurd v
  no_kind_stops Incomplete v = absurd v
  no_kind_stops TrailingBytes v = absurd v

  pub no_kind : (f : SheetFault) → NoKindAt bytes p.byte f → FaultyAt bytes xs f p
  no_kind f n = faulty f (no_kind_stops f n)

  -- the body as the reader cuts it out, n bytes long
  module _ (k : Kind) (a : KindAt bytes p.byte k) (n : ℕ) (is_n : n ≡ body_length k) where
    abbrev b : List ℕ
    b = take (p.byte + 1 + n - (p.byte + 1)) (drop (p.byte + 1) bytes)

    is_b : b ≡ take (body_length k) (drop (p.byte + 1) bytes)
    is_b = ap (λ m. take m (drop (p.byte + 1) bytes)) (omega (arith, is_n))

    after : List ℕ
    after = drop (p.byte + 1 + body_length k) bytes

    rest_is : drop p.byte bytes ≡ letter k ∷ (b ++ after)
    unfolding after
    rest_is = split_at bytes p.byte k a ∙ ap (λ l. letter k ∷ (l ++ drop (p.byte + 1 + body_length k) bytes)) (sym is_b)

    whole_b : length b ≡ body_length k
    whole_b = ap length is_b ∙ body_whole bytes p.byte k a

    refused_stops : (k ≡ Kind.End → ⊥) → (f : SheetFault) → Refused (draft_of d) k b f → Stops (draft_of d) (drop p.byte bytes) f
    refused_stops e Truncated v = absurd v
    refused_stops e UnknownLetter v = absurd v
    refused_stops e BadBody v = record { kind = k; body = b; more = after; is = rest_is; whole = whole_b; inside = e; room = v.0; none = v.1 }
    refused_stops e TooMany v = record { kind = k; body = b; more = after; is = rest_is; whole = whole_b; room = v }
    refused_stops e Repeated v =
        let x = v.1.0 in
        let g = v.1.1 in
        record { what = x; more = after; is = rest_is ∙ ap (λ l. l ++ after) (sym g.is); room = subst (λ j. Rules.room (draft_of d) j ≡ true) (sym (kind_is k b x g.is)) v.0; obeys = g.obeys; stale = g.stale }
    refused_stops e Incomplete v = absurd v
    refused_stops e TrailingBytes v = absurd v

    -- what was judged, at the answer
    judged : (r : Result Record SheetFault) → r ≡ judge (draft_of d) k b → Says (draft_of d) k b r
    judged r e = subst (Says (draft_of d) k b) (sym e) (judge_says (draft_of d) k b whole_b)

    refused : (k ≡ Kind.End → ⊥) → (f : SheetFault) → Refused (draft_of d) k b f → FaultyAt bytes xs f p
    refused e f v = faulty f (subst (λ s. Stops s (drop p.byte bytes) f) h.system (refused_stops e f v))

    pub refused_at : (k ≡ Kind.End → ⊥) → (f : SheetFault) → Err f ≡ judge (draft_of d) k b → FaultyAt bytes xs f p
    refused_at e f is = refused e f (judged (Err f) is)

    pub good_at : (x : Record) → Ok x ≡ judge (draft_of d) k b → Good (draft_of d) k b x
    good_at x is = judged (Ok x) is

    pub next : (x : Record) (d' : Draft) (xs' : List Record) (p' : Place) → Ok x ≡ judge (draft_of d) k b → Added d x d' → xs' ≡ xs ++ x ∷ [] → p'.record ≡ p.record + 1 → p'.byte ≡ p.byte + 1 + n → ReadTo bytes p' d' xs'
    unfolding after
    next x d' xs' p' is added is-xs number at' =
        let g = good_at x is in
        let at : p'.byte ≡ p.byte + 1 + body_length k = omega (arith, at', is_n) in
        let w : written_all xs' ≡ written_all xs ++ written x = ap written_all is-xs ∙ written_all-push xs x in
        let f : bytes ≡ written_all xs ++ (written x ++ drop p'.byte bytes) =
        h.front ∙ ap (λ l. written_all xs ++ l) (rest_is ∙ (ap (λ l. l ++ drop (p.byte + 1 + body_length k) bytes) (sym g.is) ∙ ap (λ n. written x ++ drop n bytes) (sym at))) in
        let body : length (written x) ≡ body_length k + 1 = ap length g.is ∙ (let q = whole_b in omega arith) in
        record { front = f ∙ (sym (append_assoc (written_all xs) (written x) (drop p'.byte bytes)) ∙ ap (λ l. l ++ drop p'.byte bytes) (sym w)); byte = omega (arith, h.byte, body, ap length w, length-append (written_all xs) (written x)); number = number ∙ (ap (λ n. n + 1) h.number ∙ (sym (length_push xs x) ∙ ap length (sym is-xs))); few = omega (arith, h.few); allowed = subst (AllAllowed nothing) (sym is-xs) (allowed_push nothing xs x h.allowed (subst (λ s. Allowed s x) h.system g.allowed)); system = added ∙ (ap (λ s. add s x) h.system ∙ (sym (gather_append nothing xs (x ∷ [])) ∙ ap describe (sym is-xs))) }

  -- at the end record
  module _ (a : KindAt bytes p.byte Kind.End) where
    end_is : drop p.byte bytes ≡ letter Kind.End ∷ drop (p.byte + 1) bytes
    end_is = drop_more bytes p.byte 0 a.inside ∙ ap (λ c. c ∷ drop (p.byte + 1) bytes) (sym a.is)

    pub unfinished : complete (draft_of d) ≡ false → FaultyAt bytes xs Incomplete p
    unfinished lacks = faulty Incomplete (record { more = drop (p.byte + 1) bytes; is = end_is; lacks = ap complete (sym h.system) ∙ lacks })

    pub overlong : complete (draft_of d) ≡ true → p.byte + 1 < length bytes → FaultyAt bytes xs TrailingBytes p
    overlong has more =
        faulty TrailingBytes (record { byte = get_or bytes (p.byte + 1) 0; more = drop (p.byte + 1 + 1) bytes; is = end_is ∙ ap (λ l. letter Kind.End ∷ l) (drop_more bytes (p.byte + 1) 0 more); has = ap complete (sym h.system) ∙ has })

    pub ended : complete (draft_of d) ≡ true → length bytes ≤ p.byte + 1 → Ended bytes d xs
    ended has last =
        record { is = h.front ∙ ap (λ l. written_all xs ++ l) (end_is ∙ ap (λ l. letter Kind.End ∷ l) (drop_all (p.byte + 1) bytes last)); allowed = h.allowed; system = h.system; whole = has }
