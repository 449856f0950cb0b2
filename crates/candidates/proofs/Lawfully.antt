-- The start names of a lawful sheet are among the 32.
use Rattle.std.proofs.Common.{◌≡◌, ℕ, ◌<◌, true, length, get_or, arith}
use Rattle.std.proofs.lemmas.Bool.{and_parts, ltb-true}
use Rattle.sheet.specs.declared.syntax.Record.{Record}
use Rattle.sheet.specs.declared.syntax.Start.{Start}
use Rattle.sheet.specs.Lawful.{Lawful}
use Rattle.sheet.specs.Rules.{names, keeps, obeys_at}
use Rattle.sheet.specs.System.{System, no_reading}
use Rattle.sheet.proofs.Fewness.{lawful_sheet}
use Rattle.sheet.proofs.Eaches.{each_at-index}
use Rattle.candidates.specs.Working.{Named}

module _ (s : System) (lawful : ∥ Lawful s ∥₁) where
  named_start : (n : ℕ) (w : Start) → obeys_at s n (Record.Reading w) ≡ true → Named w
  named_start n (Start.Name x) e = let lt = ltb-true x 8 (and_parts (names s n (Record.Reading (Start.Name x))) (keeps s (Record.Reading (Start.Name x))) e).1 in omega (arith, lt)
  named_start n (Start.Constant f) e = tt

  pub starts_named : (k : ℕ) → k < length s.readings → Named (get_or s.readings k no_reading).start
  starts_named k lt =
      named_start k (get_or s.readings k no_reading).start (each_at-index (λ n x. obeys_at s n (Record.Reading x.start)) 0 s.readings k no_reading (lawful_sheet s lawful).each.readings lt)
