-- What the bytes of a body say, or nothing. That these are just the bytes that records are written as is
-- proved above them. Assumes nothing.
use Rattle.std.specs.Prelude.{ℕ, Bool, true, false, cond, ◌&&◌, List, Some, None, Ok, Err, Option, Result, ◌==◌, slice_index}
use Rattle.sheet.specs.declared.syntax.Args.{Args}
use Rattle.sheet.specs.declared.syntax.Args.TheVariants.{Zero, One, Two, Three}
use Rattle.sheet.specs.declared.syntax.Choice.{Choice}
use Rattle.sheet.specs.declared.syntax.Formula.{Formula}
use Rattle.sheet.specs.declared.kind.Kind.{Kind}
use Rattle.sheet.specs.declared.syntax.Record.{Record}
use Rattle.sheet.specs.declared.syntax.Start.{Start}
use Rattle.sheet.specs.declared.syntax.Term.{Term}
use Rattle.fault.specs.declared.SheetFault.{SheetFault}
use Rattle.fault.specs.declared.SheetFault.TheVariants.{BadBody, TooMany, Repeated}
use Rattle.sheet.specs.Rules.{room, obeys, fresh}
use Rattle.sheet.specs.System.{System}
use Rattle.std.specs.Option.{option_map}

abbrev when : {A : Type 0} → Bool → A → Option A
when b x = cond b (Some x) None

abbrev pub bit_of : ℕ → Option Bool
bit_of w = cond (w == 0) (Some false) (when (w == 1) true)

abbrev pub start_of : ℕ → ℕ → Option Start
start_of w n = cond (w == 0) (Some (Start.Name n)) (when (w == 1) (Start.Constant n))

abbrev pub args_of : ℕ → ℕ → ℕ → ℕ → Option Args
args_of k a b c = cond (k == 0) (when (a == 0 && (b == 0 && c == 0)) Zero) (cond (k == 1) (when (b == 0 && c == 0) (One a)) (cond (k == 2) (when (c == 0) (Two a b)) (when (k == 3) (Three a b c))))

abbrev pub term_of : ℕ → ℕ → ℕ → ℕ → ℕ → ℕ → Option Term
term_of w n a b c k = cond (w == 0) (when (a == 0 && (b == 0 && c == 0)) (Term.Reading n)) (cond (w == 1) (when (a == 0 && (b == 0 && c == 0)) (Term.Input n)) (cond (w == 2) (option_map (λ args. Term.Apply n args) (args_of k a b c)) None))

abbrev pub formula_of : ℕ → ℕ → ℕ → Option Formula
formula_of w a b = cond (w == 0) (when (a == 0 && b == 0) Formula.True) (cond (w == 1) (when (b == 0) (Formula.Bit a)) (cond (w == 2) (when (b == 0) (Formula.Question a)) (cond (w == 3) (when (b == 0) (Formula.Claim a)) (cond (w == 4) (when (b == 0) (Formula.Not a)) (cond (w == 5) (Some (Formula.And a b)) (when (w == 6) (Formula.Or a b)))))))

abbrev pub choice_of : ℕ → ℕ → ℕ → ℕ → Option Choice
choice_of w a b c = cond (w == 0) (when (b == 0 && c == 0) (Choice.Term a)) (when (w == 1) (Choice.If a b c))

-- what a body of the length that the kind asks for says
abbrev pub decoded : System → Kind → List ℕ → Option Record
decoded s Kind.Bit b = option_map (λ w. Record.Bit w) (bit_of (slice_index b 0))
decoded s Kind.Symbol b = Some (Record.Symbol (slice_index b 0))
decoded s Kind.Reading b = option_map (λ w. Record.Reading w) (start_of (slice_index b 0) (slice_index b 1))
decoded s Kind.Input b = Some Record.Input
decoded s Kind.Term b = option_map (λ t. Record.Term t) (term_of (slice_index b 0) (slice_index b 1) (slice_index b 2) (slice_index b 3) (slice_index b 4) (slice_index s.symbols (slice_index b 1)))
decoded s Kind.Question b = Some (Record.Question (record { left = slice_index b 0; right = slice_index b 1 }))
decoded s Kind.Claim b = Some (Record.Claim (record { left = slice_index b 0; right = slice_index b 1 }))
decoded s Kind.Formula b = option_map (λ f. Record.Formula f) (formula_of (slice_index b 0) (slice_index b 1) (slice_index b 2))
decoded s Kind.Choice b = option_map (λ k. Record.Choice k) (choice_of (slice_index b 0) (slice_index b 1) (slice_index b 2) (slice_index b 3))
decoded s Kind.NextBit b = Some (Record.NextBit (slice_index b 0) (slice_index b 1))
decoded s Kind.NextReading b = Some (Record.NextReading (slice_index b 0) (slice_index b 1))
decoded s Kind.Invariant b = Some (Record.Invariant (slice_index b 0))
decoded s Kind.Bound b = Some (Record.Bound (slice_index b 0))
decoded s Kind.End b = None

abbrev pub judged : System → Option Record → Result Record SheetFault
judged s None = Err BadBody
judged s (Some x) = cond (obeys s x) (cond (fresh s x) (Ok x) (Err Repeated)) (Err BadBody)

-- the record that a body writes, or the first rule against it
abbrev pub judge : System → Kind → List ℕ → Result Record SheetFault
judge s k b = cond (room s k) (judged s (decoded s k b)) (Err TooMany)
