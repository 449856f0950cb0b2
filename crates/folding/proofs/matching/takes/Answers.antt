use Rattle.std.proofs.Common.{refl}
use Rattle.sheet.specs.View.{sheet_of}
use Rattle.rows.specs.Records.{row_in}
use Rattle.folding.proofs.Taking.{room_none, takes_none, room_found, takes_answered, found_covers}
use Rattle.folding.proofs.matching.takes.Goals as goal

pub returns-in_default : goal.returns-in_default
returns-in_default c =
    let rs = c.args.bank.now in
    let n = c.args.count.now.terms in
    let s = sheet_of c.args.sheet.now in
    let older = row_in s rs c.args.older.now in
    let form = row_in s rs c.args.form.now in
    let none = c.in_default.ensures in
    record {
      answer = (c.are_comparable.ensures.0 c.if-not-are_comparable.false, room_none rs n older form none, takes_none rs n older form none);
      covers = tt;
      count = refl;
      stays = λ k lt. (refl, refl);
    }

pub returns : goal.returns
returns c =
    let rs = c.args.bank.now in
    let n = c.args.count.now.terms in
    let s = sheet_of c.args.sheet.now in
    let older = row_in s rs c.args.older.now in
    let form = row_in s rs c.args.form.now in
    let sound = c.are_comparable.ensures.0 c.if-not-are_comparable.false in
    let weighed = c.in_ok-entailed.ensures in
    let fits = c.in-Some.ensures in
    let found = takes_answered rs n older form sound.closed c.in-Some.renaming fits c.in_ok-entailed.entailed weighed.answer.1 in
    rw c.then_some.ensures (record {
      answer = (sound, room_found rs n older form sound.closed c.in-Some.renaming fits weighed.answer.0, found);
      covers = found_covers older form _ found;
      count = weighed.count;
      stays = weighed.stays;
    })
