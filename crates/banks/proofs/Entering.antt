-- A bank grows by one record exactly where that record is measured and no place below has its node.
use Rattle.std.proofs.Common.{◌≡◌, ℕ, ◌+◌, ◌<◌, List, [], length, get_or, set, Some, None, Option, sym, refl, ap, ◌∙◌, subst, ⊎_elim, arith}
use Rattle.std.proofs.lemmas.List.{get_or-set_same, set-get_or}
use Rattle.std.proofs.lemmas.Bool.{cases_lt}
use Rattle.terms.specs.declared.TermRecord.{TermRecord}
use Rattle.terms.specs.Terms.{height, name_set}
use Rattle.terms.specs.Bank.{Bank, Lacks, Measured, node_at, no_record, record_of, term_of, term_at}
use Rattle.terms.proofs.Standing.{term_at-ordered}
use Rattle.terms.proofs.Filing.{bank_less, bank_after, new_height, new_names}
use Rattle.closure.specs.Working.{bucket_of, Reaches, here, Chains}
use Rattle.closure.proofs.Chaining.{kept_on_chain}
use Rattle.banks.specs.Listing.{Listed}

record_is : (r q : TermRecord) → r.node ≡ q.node → r.height ≡ q.height → r.names ≡ q.names → r ≡ q
record_is r q e f g = ap (λ u. record { node = u; height = r.height; names = r.names }) e ∙ (ap (λ u. record { node = q.node; height = u; names = r.names }) f ∙ ap (λ u. record { node = q.node; height = q.height; names = u }) g)

set_same : (rs : List TermRecord) (i : ℕ) (r : TermRecord) → get_or rs i no_record ≡ r → set rs i r ≡ rs
set_same rs i r e = ap (set rs i) (sym e) ∙ set-get_or rs i no_record

module _ (rs : List TermRecord) (i : ℕ) where
  -- one record more
  pub bank_more : i < 512 → Bank rs i → Measured rs i → Lacks rs i (node_at rs i) → Bank rs (i + 1)
  bank_more few b m lacks =
      let is : get_or rs i no_record ≡ record_of rs (node_at rs i) = record_is (get_or rs i no_record) (record_of rs (node_at rs i)) refl m.2 m.3 in
      subst (λ ys. Bank ys (i + 1)) (set_same rs i (record_of rs (node_at rs i)) is) (bank_after rs i (node_at rs i) b m.1 m.0 few lacks)

  module _ (n : ℕ) (b : Bank rs n) (lt : i < n) where
    pub bank_measured : Measured rs i
    bank_measured =
        let less = bank_less rs n i (omega arith) b in
        let in' : i < length rs = omega (arith, b.ordered.inside) in
        let fit = b.ordered.fit i lt in
        let is = term_at-ordered rs n b.ordered i lt in
        (in', fit, b.heights i lt ∙ (ap height is ∙ sym (new_height rs i (node_at rs i) less fit in')), b.names i lt ∙ (ap name_set is ∙ sym (new_names rs i (node_at rs i) less fit in')))

    pub bank_lacks : Lacks rs i (node_at rs i)
    bank_lacks k below is =
        let j_in : k < n = omega arith in
        let e = b.once k i j_in lt (term_at-ordered rs n b.ordered k j_in ∙ (ap (term_of (term_at rs)) is ∙ sym (term_at-ordered rs n b.ordered i lt))) in
        omega (arith, e)

-- a place put on the chain of its bucket
pub listed_more : (rs : List TermRecord) (heads next : List (Option ℕ)) (i b : ℕ) → Chains heads next i → i < length next → b < length heads → b ≡ bucket_of (node_at rs i) → Listed rs heads next i → Listed rs (set heads b (Some i)) (set next i (get_or heads b None)) (i + 1)
listed_more rs heads next i b chains i_in b_in is listed j lt =
    ⊎_elim
    (λ h. kept_on_chain rs [] heads next i b chains i_in b_in (bucket_of (node_at rs j)) j (listed j h))
    (λ h. let z : j ≡ i = omega arith in
    subst (λ k. Reaches (set next i (get_or heads b None)) (get_or (set heads b (Some i)) (bucket_of (node_at rs k)) None) k) (sym z)
    (subst (λ p. Reaches (set next i (get_or heads b None)) p i) (sym (ap (λ u. get_or (set heads b (Some i)) u None) (sym is) ∙ get_or-set_same heads b (Some i) None b_in)) (here i)))
    (cases_lt j i)
