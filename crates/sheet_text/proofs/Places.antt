-- Where the records of a listing stand.
use Rattle.std.proofs.Common.{◌≡◌, ℕ, ◌+◌, ◌-◌, ◌<◌, ◌≤◌, List, [], ◌++◌, length, get_or, take, drop, codes, decimal, sym, ap, ◌∙◌, ap₂, append_assoc, add-zero, arith, length-append, length-drop}
use Rattle.std.proofs.lemmas.List.{append-nil, get_or-drop, drop_all, drop-drop, drop_more, take_at, drop_at}
use Rattle.sheet.specs.declared.syntax.Record.{Record}
use Rattle.sheet.specs.Format.{letter, body_length, kind_of, body_of, written, written_all}
use Rattle.sheet.specs.declared.kind.Kind.{Kind}
use Rattle.sheet_text.specs.Lines.{line_of, lines_of, ok_line}
use Rattle.reader.proofs.Decoding.{length-body_of}

pub glued : (t f n e t₁ t₂ t₃ : List ℕ) → t₁ ≡ t ++ f → t₂ ≡ t₁ ++ n → t₃ ≡ t₂ ++ e → t₃ ≡ t ++ ((f ++ n) ++ e)
glued t f n e t₁ t₂ t₃ p q r =
    r ∙ (ap (λ l. l ++ e) (q ∙ (ap (λ l. l ++ n) p ∙ append_assoc t f n)) ∙ append_assoc t (f ++ n) e)

-- the record x stands at p
pub record StandsAt (bytes : List ℕ) (p : ℕ) (x : Record) (more : List ℕ) : Type 0 where
  pub whole : p + 1 + body_length (kind_of x) ≤ length bytes
  pub letter : get_or bytes p 0 ≡ letter (kind_of x)
  pub body : take (body_length (kind_of x)) (drop (p + 1) bytes) ≡ body_of x
  pub after : drop (p + 1 + body_length (kind_of x)) bytes ≡ more

pub stands_at : (bytes : List ℕ) (p : ℕ) (x : Record) (more : List ℕ) → drop p bytes ≡ written x ++ more → StandsAt bytes p x more
stands_at bytes p x more e =
    let n = length-body_of x in
    let tail : drop (p + 1) bytes ≡ body_of x ++ more = sym (drop-drop 1 p bytes) ∙ ap (drop 1) e in
    let len : length bytes - p ≡ length (written x ++ more) = sym (length-drop p bytes) ∙ ap length e in
    record { whole = omega (arith, len, length-append (body_of x) more, n); letter = ap (λ i. get_or bytes i 0) (sym (add-zero p)) ∙ (sym (get_or-drop p bytes 0 0) ∙ ap (λ l. get_or l 0 0) e); body = ap (take (body_length (kind_of x))) tail ∙ take_at (body_of x) more (body_length (kind_of x)) n; after = sym (drop-drop (body_length (kind_of x)) (p + 1) bytes) ∙ (ap (drop (body_length (kind_of x))) tail ∙ drop_at (body_of x) more (body_length (kind_of x)) n) }

-- i records are listed, and the next one stands at p
abbrev pub Listing : List ℕ → List Record → List ℕ → List ℕ → ℕ → ℕ → Type 0
Listing bytes xs start text i p =
    ((rest : List ℕ) × (drop p bytes ≡ written_all (drop i xs) ++ rest))
    × (text ++ lines_of i p (drop i xs) ≡ start ++ lines_of 0 0 xs)
    × (p + length (written_all (drop i xs)) ≡ length (written_all xs))

module _ (bytes : List ℕ) (xs : List Record) (start text : List ℕ) (i p : ℕ) (k : Kind) (d : Record) (inv : Listing bytes xs start text i p) (here : i < length xs) (is-k : k ≡ kind_of (get_or xs i d)) where
  next_stands : StandsAt bytes p (get_or xs i d) (written_all (drop (i + 1) xs) ++ inv.0.0)
  next_stands =
      stands_at bytes p (get_or xs i d) (written_all (drop (i + 1) xs) ++ inv.0.0) (inv.0.1 ∙ (ap (λ l. written_all l ++ inv.0.0) (drop_more xs i d here) ∙ append_assoc (written (get_or xs i d)) (written_all (drop (i + 1) xs)) inv.0.0))

  pub next_whole : p + 1 + body_length k ≤ length bytes
  next_whole = rw is-k next_stands.whole

  pub listing_more : (p' : ℕ) (text' : List ℕ) → p' ≡ p + 1 + body_length k → text' ≡ text ++ line_of i p (get_or bytes p 0) (take (body_length k) (drop (p + 1) bytes)) → Listing bytes xs start text' (i + 1) p'
  listing_more p' text' is-p is-text =
      let x = get_or xs i d in
      let s = next_stands in
      let n : p' ≡ p + length (written x) = omega (arith, is-p, ap body_length is-k, length-body_of x) in
      let at : p' ≡ p + 1 + body_length (kind_of x) = is-p ∙ ap (λ j. p + 1 + body_length j) is-k in
      let line : line_of i p (get_or bytes p 0) (take (body_length k) (drop (p + 1) bytes)) ≡ line_of i p (letter (kind_of x)) (body_of x) =
      ap₂ (line_of i p) s.letter (ap (λ j. take (body_length j) (drop (p + 1) bytes)) is-k ∙ s.body) in
      let lines : lines_of i p (drop i xs) ≡ line_of i p (letter (kind_of x)) (body_of x) ++ lines_of (i + 1) (p + length (written x)) (drop (i + 1) xs) = ap (lines_of i p) (drop_more xs i d here) in
      ((inv.0.0, ap (λ j. drop j bytes) at ∙ s.after), (ap₂ (λ (l : List ℕ) (j : ℕ). l ++ lines_of (i + 1) j (drop (i + 1) xs)) (is-text ∙ ap (λ l. text ++ l) line) n ∙ (append_assoc text (line_of i p (letter (kind_of x)) (body_of x)) (lines_of (i + 1) (p + length (written x)) (drop (i + 1) xs)) ∙ (ap (λ l. text ++ l) (sym lines) ∙ inv.1))), omega (arith, inv.2, n, ap (λ l. length (written_all l)) (drop_more xs i d here), length-append (written x) (written_all (drop (i + 1) xs))))

pub listing_all : (bytes : List ℕ) (xs : List Record) (start text : List ℕ) (i p : ℕ) → Listing bytes xs start text i p → length xs ≤ i → (p ≡ length (written_all xs)) × (text ≡ start ++ lines_of 0 0 xs)
listing_all bytes xs start text i p inv past =
    let none = drop_all i xs past in
    (omega (arith, inv.2, ap (λ l. length (written_all l)) none), sym (append-nil text) ∙ (ap (λ l. text ++ lines_of i p l) (sym none) ∙ inv.1))

pub ok_glued : (lines t₁ t₂ t₃ : List ℕ) (r p n m : ℕ) → t₁ ≡ lines → t₂ ≡ t₁ ++ line_of r p 69 [] → t₃ ≡ t₂ ++ (codes "sheet ok records " ++ (decimal (r + 1) ++ codes "\n")) → r ≡ n → p ≡ m → t₃ ≡ lines ++ ok_line n m
ok_glued lines t₁ t₂ t₃ r p n m a b c e f =
    c ∙ (ap (λ l. l ++ (codes "sheet ok records " ++ (decimal (r + 1) ++ codes "\n"))) (b ∙ ap (λ l. l ++ line_of r p 69 []) a) ∙ (append_assoc lines (line_of r p 69 []) (codes "sheet ok records " ++ (decimal (r + 1) ++ codes "\n")) ∙ ap (λ l. lines ++ l) (ap₂ ok_line e f)))
