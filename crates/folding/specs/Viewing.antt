-- Memory is a bank in one way at most, so that a view of it can keep the fact. Assumes nothing.
use Rattle.std.specs.Prelude.{ℕ, List}
use Rattle.terms.specs.declared.TermRecord.{TermRecord}
use Rattle.terms.specs.Bank.{Bank}
use Rattle.closure.specs.Props.{Fit-prop}
use Rattle.std.proofs.Props.{props}

pub Bank-prop : (rs : List TermRecord) (n : ℕ) → IsProp (Bank rs n)
Bank-prop rs n = Prim.hlevel (Fit-prop, props)
