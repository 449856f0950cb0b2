use Rattle.std.proofs.Common.{◌≡◌, vec_items, refl, arith, rules}
use Rattle.sheet.specs.declared.kind.Kind.{Kind}
use Rattle.reader.specs.Progress.{KindAt}
use Rattle.reader.proofs.Progressing.{no_kind, refused_at, good_at, next}
use Rattle.reader.proofs.Judgement.{obeys-keeps}
use Rattle.reader.proofs.reading.advance.Goals as goal

pub returns-in_err-kind : goal.returns-in_err-kind
returns-in_err-kind c =
    search (rules, no_kind c.args.bytes.now c.args.place c.args.draft.now (vec_items c.args.records.now) c.requires)

pub returns-in_err-record : goal.returns-in_err-record
returns-in_err-record c =
    let k = c.in_ok-kind.kind in
    let here : KindAt c.args.bytes.now c.args.place.byte k = search rules in
    let inside : k ≡ Kind.End → ⊥ = search rules in
    search (rules, refused_at c.args.bytes.now c.args.place c.args.draft.now (vec_items c.args.records.now) c.requires k here _ c.body_length.ensures inside)

pub add-requires : goal.add-requires
add-requires c =
    let k = c.in_ok-kind.kind in
    let here : KindAt c.args.bytes.now c.args.place.byte k = search rules in
    let good = good_at c.args.bytes.now c.args.place c.args.draft.now (vec_items c.args.records.now) c.requires k here _ c.body_length.ensures c.in_ok-record.record (search rules) in
    record { room = good.allowed.room; kept = search (rules, obeys-keeps, good.allowed.obeys) }

pub returns : goal.returns
returns c =
    let k = c.in_ok-kind.kind in
    let here : KindAt c.args.bytes.now c.args.place.byte k = search rules in
    (next c.args.bytes.now c.args.place c.args.draft.now (vec_items c.args.records.now) c.requires k here _ c.body_length.ensures c.in_ok-record.record c.add.new.self (vec_items c.push.new.self) _ (search rules) c.in_ok-add.ensures c.in_ok-push.ensures.items refl refl, omega arith, omega (arith, here.whole, c.body_length.ensures))
