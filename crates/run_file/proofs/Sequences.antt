-- The numbers of a text word by word, and its lines one by one. Assumes nothing.
use Rattle.std.proofs.Common.{◌≡◌, ℕ, ◌+◌, ◌<◌, List, [], ◌∷◌, ◌++◌, length, get_or, drop, map, Ok, Err, Some, None, Option, Result, sym, refl, ap, ◌∙◌, append_assoc, arith}
use Rattle.std.specs.Iterator.{Yields}
use Rattle.std.proofs.lemmas.List.{at_drop_more, at_drop_all}
use Rattle.std.proofs.lemmas.Iterator.{YieldsList}
use Rattle.std.proofs.lemmas.Iterator.Consumers.{YieldsList-turn, YieldsList-end}
use Rattle.run_file.specs.Directive.{and_then}
use Rattle.run_file.specs.Reading.{Fails, Sofar, numbers_of, with_first, line_says, at_line, following}
use Rattle.run_file.specs.Text.{number_of}
use Rattle.text_words.specs.Words.{lines_of, words_of}
use Rattle.run_file_error.specs.declared.LineError.{LineError}
use Rattle.run_file_error.specs.declared.Problem.{Problem}
use Rattle.run_file_error.specs.declared.ReadFailure.{ReadFailure}

-- numbers read so far in front of those to come
abbrev pub after : List ℕ → Result (List ℕ) Problem → Result (List ℕ) Problem
after ns r = and_then r (λ ms. Ok (ns ++ ms))

pub after_none : (r : Result (List ℕ) Problem) → r ≡ after [] r
after_none (Ok ms) = refl
after_none (Err p) = refl

after_first : (ns : List ℕ) (n : ℕ) (r : Result (List ℕ) Problem) → after ns (with_first n r) ≡ after (ns ++ n ∷ []) r
after_first ns n (Ok ms) = ap Ok (sym (append_assoc ns (n ∷ []) ms))
after_first ns n (Err p) = refl

module _ (ns w : List ℕ) (ws : List (List ℕ)) where
  pub numbers_more : (n : ℕ) → number_of w ≡ Ok n → after ns (numbers_of (w ∷ ws)) ≡ after (ns ++ n ∷ []) (numbers_of ws)
  numbers_more n e = ap (λ x. after ns (and_then x (λ n. with_first n (numbers_of ws)))) e ∙ after_first ns n (numbers_of ws)

  pub numbers_bad : (p : Problem) → number_of w ≡ Err p → after ns (numbers_of (w ∷ ws)) ≡ Err p
  numbers_bad p e = ap (λ x. after ns (and_then x (λ n. with_first n (numbers_of ws)))) e

module _ {S A : Type 0} {steps : S → Option A → S → Type 0} {v : A → List ℕ} {s : S} (bytes : List ℕ) (road : YieldsList steps v s (lines_of bytes)) (xs : List A) (t : S) (so-far : Yields steps s xs t) (r : Option A) (u : S) (step : steps t r u) (line : ℕ) (count : line ≡ length xs) (d : Sofar) where
  -- the line that is taken next, and those after it
  pub lines_more : (x : A) → r ≡ Some x → following (line + 1) d (drop line (lines_of bytes)) ≡ and_then (at_line (line + 1) (line_says d (words_of (v x)))) (λ said. following (line + 1 + 1) said (drop (line + 1) (lines_of bytes)))
  lines_more x is =
      let turn : (length xs < length (lines_of bytes)) × (v x ≡ get_or (lines_of bytes) (length xs) (v x)) = YieldsList-turn road xs t so-far r u x is step in
      at_drop_more (following (line + 1) d) (lines_of bytes) line (v x) (omega arith)
      ∙ ap (λ l. following (line + 1) d (l ∷ drop (line + 1) (lines_of bytes))) (ap (λ n. get_or (lines_of bytes) n (v x)) count ∙ sym turn.1)

  pub lines_all : r ≡ None → line ≡ length (lines_of bytes)
  lines_all is = let end : (map v xs ≡ lines_of bytes) × (length xs ≡ length (lines_of bytes)) = YieldsList-end road xs t so-far r u is step in count ∙ end.1

  pub lines_end : r ≡ None → following (line + 1) d (drop line (lines_of bytes)) ≡ Ok d
  lines_end is = let all = lines_all is in at_drop_all (following (line + 1) d) (lines_of bytes) line (omega arith)

-- a failure ends the reading
pub fails_on : {Y Z : Type 0} (f : ReadFailure) (r : Result Y LineError) (go : Y → Result Z LineError) → Fails f r → Fails f (and_then r go)
fails_on (ReadFailure.Line e) r go h = ap (λ r. and_then r go) h
fails_on ReadFailure.Memory r go h = tt
