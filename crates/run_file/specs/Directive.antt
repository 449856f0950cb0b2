-- What the numbers of one directive say. Assumes nothing.
use Rattle.std.specs.Prelude.{ℕ, cond, List, [], ◌∷◌, Ok, Err, codes, Result, nat_lt}
use Rattle.run_file_error.specs.declared.Problem.{Problem}
use Rattle.run_file_error.specs.declared.Problem.TheVariants.{UnknownDirective, TooFewNumbers, TooManyNumbers, SymbolTooLarge, CoefficientTooLarge}
use Rattle.run_file.specs.declared.directive.Keyword.{Keyword}
use Rattle.plant.specs.declared.affine.Curve.{Curve}
use Rattle.plant.specs.declared.listed.Entry.{Entry}
use Rattle.plant.specs.declared.listed.Values.{Values}
use Rattle.plant.specs.declared.listed.Values.TheVariants.{Zero, One, Two, Three}
use Rattle.std.specs.Str.{bytes_eq}

-- go on with the value, or stop at the error
abbrev pub and_then : {X Y E : Type 0} → Result X E → (X → Result Y E) → Result Y E
and_then (Ok x) f = f x
and_then (Err e) f = Err e

abbrev pub name_of : Keyword → List ℕ
name_of Keyword.Listed = codes "listed"
name_of Keyword.Affine = codes "affine"
name_of Keyword.Entry = codes "entry"
name_of Keyword.Curve = codes "curve"
name_of Keyword.Start = codes "start"
name_of Keyword.Steps = codes "steps"
name_of Keyword.Inputs = codes "inputs"

abbrev named : Keyword → List ℕ → Result Keyword Problem → Result Keyword Problem
named k word others = cond (bytes_eq word (name_of k)) (Ok k) others

-- the directive whose name the word is
abbrev pub keyword_of : List ℕ → Result Keyword Problem
keyword_of word = named Keyword.Listed word (named Keyword.Affine word (named Keyword.Entry word (named Keyword.Curve word (named Keyword.Start word (named Keyword.Steps word (named Keyword.Inputs word (Err UnknownDirective)))))))

abbrev pub one_of : List ℕ → Result ℕ Problem
one_of [] = Err TooFewNumbers
one_of (n ∷ []) = Ok n
one_of (n ∷ m ∷ ns) = Err TooManyNumbers

abbrev pub symbol_of : ℕ → Result ℕ Problem
symbol_of n = cond (nat_lt n 32) (Ok n) (Err SymbolTooLarge)

abbrev pub coefficient_of : ℕ → Result ℕ Problem
coefficient_of n = cond (nat_lt n 65536) (Ok n) (Err CoefficientTooLarge)

abbrev entry_at : ℕ → ℕ → Values → Result Entry Problem
entry_at n result values = and_then (symbol_of n) (λ symbol. Ok (record { symbol = symbol; values = values; result = result }))

-- a symbol, a result and up to three values
abbrev pub entry_of : List ℕ → Result Entry Problem
entry_of [] = Err TooFewNumbers
entry_of (n ∷ []) = Err TooFewNumbers
entry_of (n ∷ result ∷ []) = entry_at n result Zero
entry_of (n ∷ result ∷ a ∷ []) = entry_at n result (One a)
entry_of (n ∷ result ∷ a ∷ b ∷ []) = entry_at n result (Two a b)
entry_of (n ∷ result ∷ a ∷ b ∷ c ∷ []) = entry_at n result (Three a b c)
entry_of (n ∷ result ∷ a ∷ b ∷ c ∷ d ∷ ns) = Err TooManyNumbers

-- a symbol and four coefficients
abbrev pub curve_of : List ℕ → Result Curve Problem
curve_of [] = Err TooFewNumbers
curve_of (n ∷ []) = Err TooFewNumbers
curve_of (n ∷ p ∷ []) = Err TooFewNumbers
curve_of (n ∷ p ∷ q ∷ []) = Err TooFewNumbers
curve_of (n ∷ p ∷ q ∷ r ∷ []) = Err TooFewNumbers
curve_of (n ∷ p ∷ q ∷ r ∷ s ∷ []) = and_then (symbol_of n) (λ symbol. and_then (coefficient_of p) (λ p. and_then (coefficient_of q) (λ q. and_then (coefficient_of r) (λ r. and_then (coefficient_of s) (λ s. Ok (record { symbol = symbol; p = p; q = q; r = r; s = s }))))))
curve_of (n ∷ p ∷ q ∷ r ∷ s ∷ m ∷ ns) = Err TooManyNumbers
