use Rattle.std.proofs.Common.{◌≡◌, ℕ, ◌<◌, Bool, true, false, List, length, replicate, Some, None, Option, MatchOption, sym, arith, rules}
use Rattle.std.specs.Option.{is_some, IfSome}
use Rattle.std.proofs.lemmas.Bool.{true≢false}
use Rattle.folding.specs.declared.renaming.Renaming.{Renaming}
use Rattle.folding.specs.Matched.{sends}
use Rattle.folding.specs.Pairing.{Narrowed, RenamesEach, Respects}
use Rattle.folding.proofs.Narrowing.{pictured_none, respects_none}
use Rattle.folding.proofs.view.View.match_terms.Goals as goal

pub pair_all-requires-clause-walkable : goal.pair_all-requires-clause-walkable
pair_all-requires-clause-walkable c = record { pictures = omega arith; names = omega arith; pictured = pictured_none c.args.self.now.records.now c.args.self.now.count.terms 512 32 }

-- bindings that were narrowed from none make a renaming that passes, or none does
module _ (Passes : (ℕ → ℕ) → Type 0) (bound : List (Option ℕ)) (Made : Renaming → Type 0) (made : (r : Renaming) → Made r → Respects (sends r) bound × ((x : ℕ) → sends r x < 32)) where
  found : (b : Bool) → Narrowed (replicate 32 None) bound Passes b → (o : Option Renaming) → is_some o ≡ b → IfSome o Made → MatchOption o ((f : ℕ → ℕ) → Passes f → ⊥) (λ r. Passes (sends r) × ((x : ℕ) → sends r x < 32))
  found true narrowed None is some = absurd (true≢false (sym is))
  found true narrowed (Some r) is some = let h = made r some in (((narrowed (sends r)).0 h.0).1, h.1)
  found false narrowed None is some = λ f passes. narrowed f (respects_none f 32) passes
  found false narrowed (Some r) is some = absurd (true≢false is)

pub returns : goal.returns
returns c =
    found (RenamesEach c.args.self.now.records.now c.args.older.now c.args.newer.now (length c.args.older.now)) c.pair_all.new.to _ (λ r said. search rules) c.pair_all.result c.pair_all.ensures.narrowed c.then.result c.then.ensures.variant c.then.ensures.some
