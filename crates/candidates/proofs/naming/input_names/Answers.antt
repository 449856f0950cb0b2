use Rattle.std.proofs.Common.{◌≡◌, suc, ◌+◌, ◌-◌, ◌*◌, ◌%◌, ◌^◌, [], ◌∷◌, ◌++◌, take, replicate, Some, sym, ap, ◌∙◌, arith, length-set}
use Rattle.std.specs.Prelude.{bit_or}
use Rattle.std.proofs.lemmas.Nat.{one_shl}
use Rattle.std.proofs.lemmas.List.{take_more_set, take-append-le}
use Rattle.forms.specs.Candidate.{or_none, names_for}
use Rattle.rows.specs.Names.{is_in}
use Rattle.candidates.proofs.Filling.{named_more, named_all, named_none, free_small, small-set, small-append, small-drop, zeros-small}
use Rattle.candidates.proofs.naming.input_names.Goals as goal

pub returns-in_err-name : goal.returns-in_err-name
returns-in_err-name c =
    let i = c.loop-slot.slot-index in
    let m : c.args.inputs - i ≡ suc (c.args.inputs - (i + 1)) = omega (arith, c.loop-slot-test.true, c.loop-slot.invariant.0) in
    let none = c.loop-slot.invariant.2
    ∙ (ap (λ k. or_none (names_for k (is_in c.loop-slot.names)) (λ ys. Some (take i c.loop-slot.slot-items ++ ys))) m
    ∙ named_none (c.args.inputs - (i + 1)) c.loop-slot.names (take i c.loop-slot.slot-items) (sym c.in_err-name.ensures)) in
    rw c.from_residual.ensures none

pub loop-slot-preserved : goal.loop-slot-preserved
loop-slot-preserved c =
    let x = c.in_ok-name.name in
    let i = c.loop-slot.slot-index in
    let items = c.loop-slot.slot-items in
    let names = c.loop-slot.names in
    let left = c.args.inputs - (i + 1) in
    let m : c.args.inputs - i ≡ suc (c.args.inputs - (i + 1)) = omega (arith, c.loop-slot-test.true, c.loop-slot.invariant.0) in
    let is = sym c.in_ok-name.ensures in
    let small = free_small (is_in names) x is in (
      length-set items i x ∙ c.loop-slot.invariant.0,
      small-set 32 items i x c.loop-slot.invariant.1 small,
      c.loop-slot.invariant.2
          ∙ (ap (λ k. or_none (names_for k (is_in names)) (λ ys. Some (take i items ++ ys))) m
          ∙ (named_more left names x (take i items) is
          ∙ (ap (λ k. or_none (names_for left (is_in (bit_or names k))) (λ ys. Some ((take i items ++ x ∷ []) ++ ys))) (sym (one_shl x 32 small))
          ∙ ap (λ l. or_none (names_for left (is_in (bit_or names (1 * 2 ^ x % 2 ^ 32)))) (λ ys. Some (l ++ ys))) (sym (take_more_set items i x (omega arith)))))),
    )

pub returns : goal.returns
returns c =
    let items = c.loop-slot.slot-items in (
      c.loop-slot.invariant.2
          ∙ (named_all c.args.inputs c.loop-slot.slot-index (is_in c.loop-slot.names) items (omega (arith, c.loop-slot.invariant.0))
          ∙ ap Some (sym (take-append-le c.args.inputs items _ (omega (arith, c.loop-slot.invariant.0))))),
      small-append 32 items _ c.loop-slot.invariant.1 (small-drop 32 c.args.inputs (replicate 4 0) (zeros-small 4)),
    )
