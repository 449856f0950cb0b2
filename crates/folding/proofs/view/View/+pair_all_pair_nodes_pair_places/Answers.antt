use Rattle.std.proofs.Common.{◌≡◌, ℕ, ◌+◌, ◌<◌, Bool, true, false, length, get_or, sym, subst, arith, rules}
use Rattle.std.proofs.lemmas.List.{length_push}
use Rattle.std.proofs.lemmas.Slice.Zip.{zip_turn, zip_end}
use Rattle.folding.specs.Pairing.{Narrowed, Renames, RenamesEach}
use Rattle.folding.proofs.Narrowing.{narrowed_name, narrowed_unary, narrowed_binary, narrowed_ternary, narrowed_each, narrowed_early, narrowed_pictured, pictured_later, pictured_more}
use Rattle.folding.proofs.view.View.+pair_all_pair_nodes_pair_places.Goals.{pair_all-In-Some, pair_all-After-pair_places}
use Rattle.folding.proofs.view.View.+pair_all_pair_nodes_pair_places.Goals as goal

-- the places of this turn
turn : (t : ℕ) (c : pair_all-In-Some t)
    → (length c.loop-old.yielded < length c.args.older.now) × (length c.loop-old.yielded < length c.args.newer.now) × ((d : ℕ) → c.in-Some.old.now ≡ get_or c.args.older.now (length c.loop-old.yielded) d) × ((d : ℕ) → c.in-Some.new.now ≡ get_or c.args.newer.now (length c.loop-old.yielded) d)
turn t c =
    zip_turn c.args.older.now c.args.newer.now c.loop-old.yielded c.into_iter-old-iterator.result c.loop-old.old-iterator c.next.new.self c.next.result (search rules) (search rules) c.loop-old.yielded_by (c.in-Some.old, c.in-Some.new) c.in-Some.is c.next.ensures.steps

-- the places so far and those of this turn
narrowed : (t : ℕ) (c : pair_all-After-pair_places t) (b : Bool) → Narrowed c.loop-old.to c.pair_places.new.to (Renames c.args.self.now.records.now c.in-Some.old.now c.in-Some.new.now) b
    → Narrowed c.args.to.now c.pair_places.new.to (RenamesEach c.args.self.now.records.now c.args.older.now c.args.newer.now (length c.loop-old.yielded + 1)) b
narrowed t c b here =
    let at = turn t (goal.at.pair_all-After-pair_places t c).In-Some in
    narrowed_each c.args.self.now.records.now c.args.older.now c.args.newer.now (length c.loop-old.yielded) c.args.to.now c.loop-old.to c.pair_places.new.to b c.in-Some.old.now c.in-Some.new.now (at.2 0) (at.3 0) c.loop-old.invariant.0 here

pub pair_all-pair_places-requires : goal.pair_all-pair_places-requires
pair_all-pair_places-requires t c =
    let at = turn t (goal.at.pair_all-pair_places-requires t c).In-Some in
    let lower = c.requires.older (length c.loop-old.yielded) at.0 in
    let fits = c.requires.newer (length c.loop-old.yielded) at.1 in
    (omega (arith, at.2 0), (record { pictures = omega arith; names = omega arith; pictured = c.loop-old.invariant.1 }, (omega (arith, at.2 0), omega (arith, at.3 0))))

pub pair_all-returns-then-not-pair_places : goal.pair_all-returns-then-not-pair_places
pair_all-returns-then-not-pair_places t c =
    let at = goal.at.pair_all-returns-then-not-pair_places t c in
    record {
      narrowed = narrowed_early c.args.self.now.records.now c.args.older.now c.args.newer.now (length c.loop-old.yielded + 1) (length c.args.older.now) c.args.to.now c.pair_places.new.to (omega (arith, (turn t at.In-Some).0)) (narrowed t at.After-pair_places false c.if-not-pair_places.ensures.narrowed);
      pictured = c.pair_places.ensures.pictured;
    }

pub pair_all-loop-old-preserved : goal.pair_all-loop-old-preserved
pair_all-loop-old-preserved t c = (
  subst (λ m. Narrowed c.args.to.now c.pair_places.new.to (RenamesEach c.args.self.now.records.now c.args.older.now c.args.newer.now m) true) (sym (length_push c.loop-old.yielded (c.in-Some.old, c.in-Some.new)))
      (narrowed t (goal.at.pair_all-loop-old-preserved t c).After-pair_places true c.if-not-pair_places.ensures.narrowed),
  c.pair_places.ensures.pictured,
)

pub pair_all-returns : goal.pair_all-returns
pair_all-returns t c =
    let end = zip_end c.args.older.now c.args.newer.now c.loop-old.yielded c.into_iter-old-iterator.result c.loop-old.old-iterator c.next.new.self c.next.result (search rules) (search rules) c.loop-old.yielded_by c.in-None.is c.next.ensures.steps in
    let same : length c.loop-old.yielded ≡ length c.args.older.now = omega (arith, end, c.requires.same) in
    record {
      narrowed = subst (λ k. Narrowed c.args.to.now c.loop-old.to (RenamesEach c.args.self.now.records.now c.args.older.now c.args.newer.now k) true) same c.loop-old.invariant.0;
      pictured = c.loop-old.invariant.1;
    }

pub pair_nodes-returns-in-Name-Name : goal.pair_nodes-returns-in-Name-Name
pair_nodes-returns-in-Name-Name t c =
    let v = c.args.self.now in
    record {
      narrowed = narrowed_name v.is_bank.ordered c.requires.older c.requires.newer c.args.to.now c.bind.new.to c.bind.result c.in-Name-Name.is-0 c.in-Name-Name.is-1 c.bind.ensures.narrowed;
      pictured = pictured_later v.records.now v.count.terms c.args.image.now c.args.to.now c.bind.new.to c.requires.walkable.pictured c.bind.ensures.stronger c.bind.ensures.named;
    }

pub pair_nodes-returns-then-f-g : goal.pair_nodes-returns-then-f-g
pair_nodes-returns-then-f-g t c =
    record {
      narrowed = narrowed_unary c.args.self.now.is_bank.ordered c.requires.older c.requires.newer c.args.to.now c.pair_all.new.to c.pair_all.result c.in-Unary-Unary.is-0 c.in-Unary-Unary.is-1 c.if-f-g.true c.pair_all.ensures.narrowed;
      pictured = c.pair_all.ensures.pictured;
    }

pub pair_nodes-returns-then-f-g-2 : goal.pair_nodes-returns-then-f-g-2
pair_nodes-returns-then-f-g-2 t c =
    record {
      narrowed = narrowed_binary c.args.self.now.is_bank.ordered c.requires.older c.requires.newer c.args.to.now c.pair_all-then-f-g-2.new.to c.pair_all-then-f-g-2.result c.in-Binary-Binary.is-0 c.in-Binary-Binary.is-1 c.if-f-g-2.true c.pair_all-then-f-g-2.ensures.narrowed;
      pictured = c.pair_all-then-f-g-2.ensures.pictured;
    }

pub pair_nodes-returns-then-f-g-3 : goal.pair_nodes-returns-then-f-g-3
pair_nodes-returns-then-f-g-3 t c =
    record {
      narrowed = narrowed_ternary c.args.self.now.is_bank.ordered c.requires.older c.requires.newer c.args.to.now c.pair_all-then-f-g-3.new.to c.pair_all-then-f-g-3.result c.in-Ternary-Ternary.is-0 c.in-Ternary-Ternary.is-1 c.if-f-g-3.true c.pair_all-then-f-g-3.ensures.narrowed;
      pictured = c.pair_all-then-f-g-3.ensures.pictured;
    }

pub pair_places-returns-in-Some : goal.pair_places-returns-in-Some
pair_places-returns-in-Some t c =
    record {
      narrowed = narrowed_pictured c.args.self.now.records.now c.args.self.now.count.terms c.args.image.now c.args.to.now c.args.older c.args.newer c.in-Some.place c.args.self.now.is_bank c.requires.newer c.requires.walkable.pictured c.in-Some.is;
      pictured = c.requires.walkable.pictured;
    }

pub pair_places-returns-then-paired : goal.pair_places-returns-then-paired
pair_places-returns-then-paired t c =
    let rs = c.args.self.now.records.now in
    let call = c.pair_nodes-paired in
    record {
      narrowed = call.ensures.narrowed;
      pictured = pictured_more rs c.args.self.now.count.terms call.new.image call.new.to c.args.older c.args.newer (omega arith) c.requires.newer (λ f h. ((c.if-paired.ensures.narrowed f).0 h).1) call.ensures.pictured;
    }
