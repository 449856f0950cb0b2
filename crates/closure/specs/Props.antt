-- Facts that structs keep have one proof at most. Assumes nothing.
use Rattle.std.specs.Prelude.{ℕ, List, None, Some, Option}
use Rattle.std.proofs.Props.{props}
use Rattle.terms.specs.declared.Node.{Node}
use Rattle.terms.specs.declared.Node.TheVariants.{Name, Constant, Unary, Binary, Ternary}
use Rattle.terms.specs.declared.TermRecord.{TermRecord}
use Rattle.terms.specs.Bank.{Fit, Ordered}
use Rattle.closure.specs.Working.{Under, Chains}

pub Fit-prop : (n : ℕ) (node : Node) → IsProp (Fit n node)
Fit-prop n (Name x) = Prim.hlevel props
Fit-prop n (Constant f) = Prim.hlevel props
Fit-prop n (Unary f a) = Prim.hlevel props
Fit-prop n (Binary f a b) = Prim.hlevel props
Fit-prop n (Ternary f a b c) = Prim.hlevel props

pub Ordered-prop : (rs : List TermRecord) (n : ℕ) → IsProp (Ordered rs n)
Ordered-prop rs n = Prim.hlevel (Fit-prop, props)

pub Under-prop : (n : ℕ) (p : Option ℕ) → IsProp (Under n p)
Under-prop n None = Prim.hlevel props
Under-prop n (Some j) = Prim.hlevel props

pub Chains-prop : (heads next : List (Option ℕ)) (n : ℕ) → IsProp (Chains heads next n)
Chains-prop heads next n = Prim.hlevel (Under-prop, props)
