-- Different terms, counted: when a list of terms, each with its subterms, has room in a bank. Assumes nothing.
use Rattle.std.specs.Prelude.{◌≡◌, ℕ, ◌<◌, ◌≤◌, List, length}
use Rattle.std.specs.List.{ContainsAt as Has, AllByRecursion}
use Rattle.terms.specs.declared.TermRecord.{TermRecord}
use Rattle.terms.specs.Terms.{Term, name, constant, unary, binary, ternary}
use Rattle.terms.specs.Bank.{Bank, term_at}

-- P is true of a term and of all its subterms
abbrev pub Throughout : (Term → Type 0) → Term → Type 0
Throughout P (name x) = P (name x)
Throughout P (constant f) = P (constant f)
Throughout P (unary f a) = P (unary f a) × Throughout P a
Throughout P (binary f a b) = P (binary f a b) × Throughout P a × Throughout P b
Throughout P (ternary f a b c) = P (ternary f a b c) × Throughout P a × Throughout P b × Throughout P c

-- a list that has the terms ts and all their subterms
abbrev pub HasAll : List Term → List Term → Type 0
HasAll all ts = AllByRecursion (Throughout (Has all)) ts

-- there are at most 512 different terms among ts and their subterms
abbrev pub Roomy : List Term → Type 0
Roomy ts = (all : List Term) × HasAll all ts × (length all ≤ 512)

-- there are more than 512
abbrev pub Crowded : List Term → Type 0
Crowded ts = (all : List Term) → HasAll all ts → 512 < length all

-- the term stands at one of the bank's first n places
abbrev pub Held : List TermRecord → ℕ → Term → Type 0
Held rs n t = (p : ℕ) × (p < n) × (term_at rs p ≡ t)

-- the bank's first n places hold the terms ts, all their subterms, and nothing else
pub record Holding (rs : List TermRecord) (n : ℕ) (ts : List Term) : Type 0 where
  pub bank : Bank rs n
  pub has : AllByRecursion (Held rs n) ts
  pub only : (all : List Term) → HasAll all ts → (k : ℕ) → k < n → Has all (term_at rs k)
