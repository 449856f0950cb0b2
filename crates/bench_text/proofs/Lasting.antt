-- The last configuration as it is printed.
use Rattle.std.proofs.Common.{◌≡◌, ℕ, zero, suc, ◌<◌, ◌≤◌, Bool, true, false, List, ◌++◌, map, length, get_or, take, Option, Some, None, sym, refl, ap, ◌∙◌, ap₂, arith}
use lib.ListN.{length-map}
use denote.Param.Members.{Mut}
use Rattle.std.specs.Array.{IsMapOf}
use Rattle.std.specs.Option.{unwrap_or}
use Rattle.std.specs.Fn.{Called}
use Rattle.std.specs.Int.{from_bool}
use Rattle.std.proofs.lemmas.List.{ext_get_or, length-take-le, get_or-take, get_or-map}
use Rattle.sheet.specs.Runs.{after, start_bit, start_reading, next_bit, next_reading, inputs_of}
use Rattle.sheet.specs.System.{System}
use Rattle.sheet.specs.Truth.{Meaning}
use Rattle.bench.specs.declared.configuration.Configuration.{Configuration as Place}
use Rattle.bench.specs.Outcome.{Same, Ran, Accepted, last_of}
use Rattle.sheet.proofs.Numbering.{numbered-length}
use Rattle.bench_text.specs.Lines.{bit_number, answer_line, last_line}
use Rattle.fault.specs.declared.Failure.{Failure}
use Rattle.reader.specs.Law.{Refused}
use Rattle.run_file.specs.Reading.{Run}
use Rattle.bench_text.specs.Report.{RunText, ran, FailureLine, SheetText, faulty}

same-take : {V : Type 0} (d : V) (xs ys : List V) (n : ℕ) → Same d xs ys → length ys ≡ n → n ≤ length xs → take n xs ≡ ys
same-take d xs ys n same l h =
    let len : length (take n xs) ≡ n = length-take-le n xs h in
    (ext_get_or d (take n xs) ys (omega arith) (λ i k. get_or-take n xs i d (omega arith) ∙ same i))

module _ (m : Meaning) (s : System) (starts inputs : List ℕ) where
  bits_length : (i : ℕ) → length (after m s starts inputs i).bits ≡ length s.bits
  bits_length zero = length-map s.bits start_bit
  bits_length (suc i) = numbered-length (next_bit m s (after m s starts inputs i) (inputs_of s inputs i)) 0 s.bits

  readings_length : (i : ℕ) → length (after m s starts inputs i).readings ≡ length s.readings
  readings_length zero = length-map s.readings (start_reading m starts)
  readings_length (suc i) = numbered-length (next_reading m s (after m s starts inputs i) (inputs_of s inputs i)) 0 s.readings

  pub ran_text : (n : ℕ) (answer : Option ℕ) (place : Place) (text : List ℕ) → Accepted s starts inputs n → Ran m s starts inputs n answer place → length s.bits ≤ length place.bits → length s.readings ≤ length place.readings → text ≡ answer_line answer ++ last_line (last_of n answer) (take (length s.bits) place.bits) (take (length s.readings) place.readings) → RunText m s starts inputs n text
  ran_text n answer place text accepted done hb hr is =
      let i = last_of n answer in
      let b = same-take false place.bits (after m s starts inputs i).bits (length s.bits) done.last.bits (bits_length i) hb in
      let r = same-take 0 place.readings (after m s starts inputs i).readings (length s.readings) done.last.readings (readings_length i) hr in
      ran answer accepted done.first (is ∙ ap₂ (λ (x : List Bool) (y : List ℕ). answer_line answer ++ last_line i x y) b r)

bit : (b : Bool) → from_bool b ≡ bit_number b
bit false = refl
bit true = refl

-- the first n bits, each as a number
pub numbers_of : {F : Type 0} (g : Mut F (Bool × Unit {0}) ℕ) (f : F) (bits : List Bool) (numbers : List ℕ) (most : ℕ) → ((p q : F) (b : Bool) (k : ℕ) → Called g p (b, tt) k q → k ≡ from_bool b) → IsMapOf g f bits numbers most → length bits ≡ most → (n : ℕ) → n ≤ most → take n numbers ≡ map bit_number (take n bits)
numbers_of g f bits numbers most says mapped long n h =
    let ln : length (take n numbers) ≡ n = length-take-le n numbers (omega (arith, mapped.long)) in
    let lb : length (take n bits) ≡ n = length-take-le n bits (omega arith) in
    ext_get_or 0 (take n numbers) (map bit_number (take n bits)) (omega (arith, length-map (take n bits) bit_number)) (λ i lt.
    let inside : i < n = omega arith in
    let call = mapped.at i false 0 (omega arith) in
    get_or-take n numbers i 0 inside ∙ (says call.0 call.1 _ _ call.2 ∙ (bit (get_or bits i false) ∙ (ap bit_number (sym (get_or-take n bits i false inside)) ∙ sym (get_or-map bit_number (take n bits) i false 0 (omega arith))))))

pub last-unwrap_or : (n : ℕ) (answer : Option ℕ) → unwrap_or answer n ≡ last_of n answer
last-unwrap_or n None = refl
last-unwrap_or n (Some i) = refl

pub failed_text : (bytes : List ℕ) (run : Run) (text : List ℕ) (failure : Failure) → Refused bytes failure → FailureLine failure text → SheetText bytes run text
failed_text bytes run text (Failure.Fault f) r is = faulty f r is
failed_text bytes run text Failure.Memory r is = absurd is
