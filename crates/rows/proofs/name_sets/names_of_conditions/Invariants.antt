use Rattle.std.proofs.Common.{ℕ, map, length, take}
use Rattle.terms.specs.Bank.{Bank, literal_of}
use Rattle.rows.specs.Names.{NamesOfLiterals}
use Rattle.rows.specs.Records.{Between}
use Rattle.rows.proofs.name_sets.names_of_conditions.Given as goal

abbrev pub invariant-loop-condition : goal.invariant-loop-condition
invariant-loop-condition l =
    (n : ℕ) → Bank l.bank n → Between n l.conditions (length l.conditions) → NamesOfLiterals l.names (map (literal_of l.bank) (take l.condition-index l.conditions))
