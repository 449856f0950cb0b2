use Rattle.std.proofs.Common.{ℕ, ◌<◌, map, length, get_or, take}
use Rattle.terms.specs.Bank.{Bank, term_at}
use Rattle.rows.specs.Names.{NamesOfTerms}
use Rattle.rows.proofs.name_sets.names_of_terms.Given as goal

abbrev pub invariant-loop-place : goal.invariant-loop-place
invariant-loop-place l =
    (n : ℕ) → Bank l.bank n → ((k : ℕ) → k < length l.places → get_or l.places k 0 < n) → NamesOfTerms l.names (map (term_at l.bank) (take l.place-index l.places))
