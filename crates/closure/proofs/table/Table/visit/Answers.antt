use Rattle.std.proofs.Common.{◌≡◌, ◌<◌, true, false, Bool, ℕ, is_some, length, get_or, None, sym, refl, ap, ◌∙◌, subst, arith}
use Rattle.std.specs.Bool.{then_some}
use Rattle.closure.specs.Working.{bucket_of, Reaches, Grown, flag}
use Rattle.closure.proofs.Merging.{grown_none}
use Rattle.closure.proofs.Visiting.{grown_visit, swept_visit, swept_new}
use Rattle.closure.proofs.table.Table.visit.Goals as goal

some_where : (r : Bool) (x : ℕ) → is_some (then_some r x) ≡ r
some_where true x = refl
some_where false x = refl

pub returns-in-Some : goal.returns-in-Some
returns-in-Some c =
    let t = c.args.self.now in
    let p = c.args.places.now in
    let l = c.args.labels.now in
    let l' = c.join.new.labels in
    let r = c.join.result in
    let found = c.in-Some.ensures in
    let is = found.1 ∙ c.signature-sought.ensures in
    let joined : is_some c.then_some.result ≡ r = ap is_some c.then_some.ensures ∙ some_where r _ in
    record {
      seen = refl;
      grown = subst (λ b. Grown p.bank.now p.terms l l' (flag b)) (sym joined) (grown_visit p.bank.now p.terms p.ordered t.seen c.in-Some.j c.requires.inside found.0 l l' c.requires.rooted is r c.join.ensures);
      swept = λ no' swept. swept_visit p.bank.now p.terms p.ordered t.seen c.in-Some.j c.requires.inside found.0 l l' c.requires.rooted is t.heads t.next r c.join.ensures (sym joined ∙ no') swept;
    }

pub returns-in-None : goal.returns-in-None
returns-in-None c =
    let t = c.args.self.now in
    let p = c.args.places.now in
    let l = c.args.labels.now in
    let b = c.bucket-at.result in
    let i_in : t.seen < length t.next = omega arith in
    let b_in : b < length t.heads = omega arith in
    let b_is = c.bucket-at.ensures.value ∙ ap bucket_of c.signature-sought.ensures in
    record {
      seen = refl;
      grown = grown_none p.bank.now p.terms l c.requires.rooted;
      swept = λ _ swept. swept_new p.bank.now l t.heads t.next t.seen b t.chains i_in b_in b_is
          (λ j r e. c.in-None.ensures j (subst (λ u. Reaches t.next (get_or t.heads u None) j) c.bucket-at.ensures.value r) (e ∙ sym c.signature-sought.ensures)) swept;
    }
