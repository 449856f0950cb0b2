use Rattle.std.proofs.Common.{◌≡◌}
use Rattle.terms.specs.Bank.{Bank}
use Rattle.banks.proofs.testing.is_bank.Given as goal

abbrev pub invariant-loop-i : goal.invariant-loop-i
invariant-loop-i l = Bank l.bank l.i × (l.nodes.used ≡ l.i) × (l.nodes.bank.now ≡ l.bank)
