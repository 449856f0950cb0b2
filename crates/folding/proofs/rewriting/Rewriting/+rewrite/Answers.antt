use Rattle.std.proofs.Common.{◌≡◌, ℕ, ◌<◌, ◌≤◌, List, [], ◌∷◌, refl, sym, ap, ◌∙◌, ap₂, arith, rules}
use Rattle.terms.specs.declared.TermRecord.{TermRecord}
use Rattle.terms.specs.Terms.{Term, unary, binary}
use Rattle.terms.specs.Bank.{Extends, term_at}
use Rattle.terms.proofs.Same.{same_true}
use Rattle.terms.proofs.Standing.{ternary_same}
use Rattle.banks.proofs.Gaining.{gained_held}
use Rattle.folding.proofs.Changes.{spared, stopped_some, site, underway_none, underway_more, underway_at, underway_is, underway_broken, underway_settled}
use Rattle.folding.proofs.rewriting.Rewriting.+rewrite.Goals as goal

pub returns-then-is_spared-clause-adding : goal.returns-then-is_spared-clause-adding
returns-then-is_spared-clause-adding t c =
    let s = c.args.self.now in
    let is = sym (spared s.bank.now s.count.now.terms s.is_bank s.change.now s.suits c.args.place (search rules)) in
    record { gained = gained_held s.bank.now s.count.now.terms _ s.is_bank (c.args.place, c.requires.inside, is); inside = c.requires.inside; is = is }

pub returns-in-Some-clause-adding : goal.returns-in-Some-clause-adding
returns-in-Some-clause-adding t c =
    let s = c.args.self.now in
    let k = s.is_known c.args.place c.in-Some.became c.in-Some.is in
    let is = same_true _ _ k.2 in
    record { gained = gained_held s.bank.now s.count.now.terms _ s.is_bank (c.in-Some.became, k.1, is); inside = k.1; is = is }

pub settle-requires-clause-became : goal.settle-requires-clause-became
settle-requires-clause-became t c =
    let s = c.args.self.now in
    (stopped_some s.bank.now s.count.now.terms s.is_bank c.args.place c.requires.inside s.change.now s.suits c.in-Some-stop.new (sym c.in-Some-stop.ensures) s.count.now.terms (term_at s.bank.now)).1

more : (p n m : ℕ) → n ≤ m → p < n → p < m
more p n m x y = omega arith

at_later : {rs rs' : List TermRecord} {n n' : ℕ} → Extends rs n rs' n' → {p : ℕ} → p < n → {t : Term} → term_at rs p ≡ t → term_at rs' p ≡ t
at_later e {p} lt is = (e.stays p lt).1 ∙ is

pub returns-in_err-a-in-Unary-clause-adding : goal.returns-in_err-a-in-Unary-clause-adding
returns-in_err-a-in-Unary-clause-adding t c =
    let s = c.args.self.now in
    let at = site s.suits s.is_bank c.requires.inside (sym c.in_default-stop.ensures) c.in-Unary.is in
    let w₀ = underway_none s.suits s.is_bank in
    underway_broken s.suits w₀ c.requires.inside at at.fit [] refl c.in_err-a-in-Unary.ensures.adding c.from_residual.result c.from_residual.ensures.1

pub settle-requires-in-Unary-clause-became : goal.settle-requires-in-Unary-clause-became
settle-requires-in-Unary-clause-became t c =
    let s = c.args.self.now in
    let at = site s.suits s.is_bank c.requires.inside (sym c.in_default-stop.ensures) c.in-Unary.is in
    let w₀ = underway_none s.suits s.is_bank in
    let w₁ = underway_more s.suits w₀ at.fit c.rewrite.ensures.change c.in_ok-a-in-Unary.ensures.adding in
    ap (unary c.in-Unary.f) (underway_at s.suits w₀ at.fit c.in_ok-a-in-Unary.ensures.adding) ∙ sym (underway_is s.suits w₁ c.requires.inside at)

pub returns-in_ok-a-in-Unary-clause-adding : goal.returns-in_ok-a-in-Unary-clause-adding
returns-in_ok-a-in-Unary-clause-adding t c =
    let s = c.args.self.now in
    let at = site s.suits s.is_bank c.requires.inside (sym c.in_default-stop.ensures) c.in-Unary.is in
    let w₀ = underway_none s.suits s.is_bank in
    let w₁ = underway_more s.suits w₀ at.fit c.rewrite.ensures.change c.in_ok-a-in-Unary.ensures.adding in
    underway_settled s.suits w₁ c.requires.inside at refl c.settle-in-Unary.new.self.bank.now c.settle-in-Unary.new.self.count.now.terms c.settle-in-Unary.result c.settle-in-Unary.ensures.adding

pub returns-in_err-a-in-Binary-clause-adding : goal.returns-in_err-a-in-Binary-clause-adding
returns-in_err-a-in-Binary-clause-adding t c =
    let s = c.args.self.now in
    let at = site s.suits s.is_bank c.requires.inside (sym c.in_default-stop.ensures) c.in-Binary.is in
    let w₀ = underway_none s.suits s.is_bank in
    underway_broken s.suits w₀ c.requires.inside at at.fit.0 (c.in-Binary.b ∷ []) refl c.in_err-a-in-Binary.ensures.adding c.from_residual-in_err-a-in-Binary.result c.from_residual-in_err-a-in-Binary.ensures.1

pub returns-in_err-b-in-Binary-clause-adding : goal.returns-in_err-b-in-Binary-clause-adding
returns-in_err-b-in-Binary-clause-adding t c =
    let s = c.args.self.now in
    let at = site s.suits s.is_bank c.requires.inside (sym c.in_default-stop.ensures) c.in-Binary.is in
    let w₀ = underway_none s.suits s.is_bank in
    let w₁ = underway_more s.suits w₀ at.fit.0 c.rewrite-in-Binary.ensures.change c.in_ok-a-in-Binary.ensures.adding in
    underway_broken s.suits w₁ c.requires.inside at at.fit.1 [] refl c.in_err-b-in-Binary.ensures.adding c.from_residual-in_err-b-in-Binary.result c.from_residual-in_err-b-in-Binary.ensures.1

pub settle-requires-in-Binary-clause-became : goal.settle-requires-in-Binary-clause-became
settle-requires-in-Binary-clause-became t c =
    let s = c.args.self.now in
    let at = site s.suits s.is_bank c.requires.inside (sym c.in_default-stop.ensures) c.in-Binary.is in
    let w₀ = underway_none s.suits s.is_bank in
    let w₁ = underway_more s.suits w₀ at.fit.0 c.rewrite-in-Binary.ensures.change c.in_ok-a-in-Binary.ensures.adding in
    let w₂ = underway_more s.suits w₁ at.fit.1 c.rewrite-in-Binary-2.ensures.change c.in_ok-b-in-Binary.ensures.adding in
    ap₂ (binary c.in-Binary.f) (at_later c.in_ok-b-in-Binary.ensures.adding.gained.extends c.in_ok-a-in-Binary.ensures.adding.inside (underway_at s.suits w₀ at.fit.0 c.in_ok-a-in-Binary.ensures.adding)) (underway_at s.suits w₁ at.fit.1 c.in_ok-b-in-Binary.ensures.adding) ∙ sym (underway_is s.suits w₂ c.requires.inside at)

pub returns-in_ok-b-in-Binary-clause-adding : goal.returns-in_ok-b-in-Binary-clause-adding
returns-in_ok-b-in-Binary-clause-adding t c =
    let s = c.args.self.now in
    let at = site s.suits s.is_bank c.requires.inside (sym c.in_default-stop.ensures) c.in-Binary.is in
    let w₀ = underway_none s.suits s.is_bank in
    let w₁ = underway_more s.suits w₀ at.fit.0 c.rewrite-in-Binary.ensures.change c.in_ok-a-in-Binary.ensures.adding in
    let w₂ = underway_more s.suits w₁ at.fit.1 c.rewrite-in-Binary-2.ensures.change c.in_ok-b-in-Binary.ensures.adding in
    underway_settled s.suits w₂ c.requires.inside at refl c.settle-in-Binary.new.self.bank.now c.settle-in-Binary.new.self.count.now.terms c.settle-in-Binary.result c.settle-in-Binary.ensures.adding

pub returns-in_err-a-in-Ternary-clause-adding : goal.returns-in_err-a-in-Ternary-clause-adding
returns-in_err-a-in-Ternary-clause-adding t c =
    let s = c.args.self.now in
    let at = site s.suits s.is_bank c.requires.inside (sym c.in_default-stop.ensures) c.in-Ternary.is in
    let w₀ = underway_none s.suits s.is_bank in
    underway_broken s.suits w₀ c.requires.inside at at.fit.0 (c.in-Ternary.b ∷ c.in-Ternary.c ∷ []) refl c.in_err-a-in-Ternary.ensures.adding c.from_residual-in_err-a-in-Ternary.result c.from_residual-in_err-a-in-Ternary.ensures.1

pub returns-in_err-b-in-Ternary-clause-adding : goal.returns-in_err-b-in-Ternary-clause-adding
returns-in_err-b-in-Ternary-clause-adding t c =
    let s = c.args.self.now in
    let at = site s.suits s.is_bank c.requires.inside (sym c.in_default-stop.ensures) c.in-Ternary.is in
    let w₀ = underway_none s.suits s.is_bank in
    let w₁ = underway_more s.suits w₀ at.fit.0 c.rewrite-in-Ternary.ensures.change c.in_ok-a-in-Ternary.ensures.adding in
    underway_broken s.suits w₁ c.requires.inside at at.fit.1 (c.in-Ternary.c ∷ []) refl c.in_err-b-in-Ternary.ensures.adding c.from_residual-in_err-b-in-Ternary.result c.from_residual-in_err-b-in-Ternary.ensures.1

pub returns-in_err-c-in-Ternary-clause-adding : goal.returns-in_err-c-in-Ternary-clause-adding
returns-in_err-c-in-Ternary-clause-adding t c =
    let s = c.args.self.now in
    let at = site s.suits s.is_bank c.requires.inside (sym c.in_default-stop.ensures) c.in-Ternary.is in
    let w₀ = underway_none s.suits s.is_bank in
    let w₁ = underway_more s.suits w₀ at.fit.0 c.rewrite-in-Ternary.ensures.change c.in_ok-a-in-Ternary.ensures.adding in
    let w₂ = underway_more s.suits w₁ at.fit.1 c.rewrite-in-Ternary-2.ensures.change c.in_ok-b-in-Ternary.ensures.adding in
    underway_broken s.suits w₂ c.requires.inside at at.fit.2 [] refl c.in_err-c-in-Ternary.ensures.adding c.from_residual-in_err-c-in-Ternary.result c.from_residual-in_err-c-in-Ternary.ensures.1

pub settle-requires-in-Ternary-clause-became : goal.settle-requires-in-Ternary-clause-became
settle-requires-in-Ternary-clause-became t c =
    let s = c.args.self.now in
    let at = site s.suits s.is_bank c.requires.inside (sym c.in_default-stop.ensures) c.in-Ternary.is in
    let w₀ = underway_none s.suits s.is_bank in
    let w₁ = underway_more s.suits w₀ at.fit.0 c.rewrite-in-Ternary.ensures.change c.in_ok-a-in-Ternary.ensures.adding in
    let w₂ = underway_more s.suits w₁ at.fit.1 c.rewrite-in-Ternary-2.ensures.change c.in_ok-b-in-Ternary.ensures.adding in
    let w₃ = underway_more s.suits w₂ at.fit.2 c.rewrite-in-Ternary-3.ensures.change c.in_ok-c-in-Ternary.ensures.adding in
    ternary_same c.in-Ternary.f (at_later c.in_ok-c-in-Ternary.ensures.adding.gained.extends (more _ _ _ c.in_ok-b-in-Ternary.ensures.adding.gained.extends.more c.in_ok-a-in-Ternary.ensures.adding.inside) (at_later c.in_ok-b-in-Ternary.ensures.adding.gained.extends c.in_ok-a-in-Ternary.ensures.adding.inside (underway_at s.suits w₀ at.fit.0 c.in_ok-a-in-Ternary.ensures.adding))) (at_later c.in_ok-c-in-Ternary.ensures.adding.gained.extends c.in_ok-b-in-Ternary.ensures.adding.inside (underway_at s.suits w₁ at.fit.1 c.in_ok-b-in-Ternary.ensures.adding)) (underway_at s.suits w₂ at.fit.2 c.in_ok-c-in-Ternary.ensures.adding) ∙ sym (underway_is s.suits w₃ c.requires.inside at)

pub returns-in_ok-c-in-Ternary-clause-adding : goal.returns-in_ok-c-in-Ternary-clause-adding
returns-in_ok-c-in-Ternary-clause-adding t c =
    let s = c.args.self.now in
    let at = site s.suits s.is_bank c.requires.inside (sym c.in_default-stop.ensures) c.in-Ternary.is in
    let w₀ = underway_none s.suits s.is_bank in
    let w₁ = underway_more s.suits w₀ at.fit.0 c.rewrite-in-Ternary.ensures.change c.in_ok-a-in-Ternary.ensures.adding in
    let w₂ = underway_more s.suits w₁ at.fit.1 c.rewrite-in-Ternary-2.ensures.change c.in_ok-b-in-Ternary.ensures.adding in
    let w₃ = underway_more s.suits w₂ at.fit.2 c.rewrite-in-Ternary-3.ensures.change c.in_ok-c-in-Ternary.ensures.adding in
    underway_settled s.suits w₃ c.requires.inside at refl c.settle-in-Ternary.new.self.bank.now c.settle-in-Ternary.new.self.count.now.terms c.settle-in-Ternary.result c.settle-in-Ternary.ensures.adding
