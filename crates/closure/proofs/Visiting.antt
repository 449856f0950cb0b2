-- One place looked up: where its signature is found its class is joined, and where it is not the table has it.
use Rattle.std.proofs.Common.{◌≡◌, ℕ, ◌+◌, ◌<◌, ◌≤◌, Bool, true, false, List, length, get_or, set, Some, None, Option, sym, ap, ◌∙◌, subst, add-zero, arith}
use Rattle.std.proofs.lemmas.Bool.{true≢false}
use Rattle.terms.specs.declared.TermRecord.{TermRecord}
use Rattle.terms.specs.Bank.{Ordered}
use Rattle.closure.specs.Working.{sig, Rooted, Joined, Grown, Swept, bucket_of, Reaches, Chains, flag}
use Rattle.closure.proofs.Theory.{congruent_sigs}
use Rattle.closure.proofs.Merging.{grown_join, grown_none, classes_few}
use Rattle.closure.proofs.Chaining.{tabled_found, tabled_more, closed_found, closed_new, new_signature}

module _ (rs : List TermRecord) (n : ℕ) (o : Ordered rs n) (i j : ℕ) (i_in : i < n) (j_in : j < i) (l l' : List ℕ) (rooted : Rooted n l) (is : sig rs l j ≡ sig rs l i) where
  pub grown_visit : (r : Bool) → Joined n i j l l' r → Grown rs n l l' (flag r)
  grown_visit true joined =
      grown_join rs n i j l l' i_in (omega arith) rooted joined.0 joined.1 (λ cs forced. congruent_sigs rs n cs l o forced i j i_in (omega arith) (sym is))
  grown_visit false joined = subst (λ m. Grown rs n l m 0) (sym joined.1) (grown_none rs n l rooted)

  pub swept_visit : (heads next : List (Option ℕ)) (r : Bool) → Joined n i j l l' r → r ≡ false → Swept rs l heads next i → Swept rs l' heads next (i + 1)
  swept_visit heads next true joined no' swept = absurd (true≢false no')
  swept_visit heads next false joined no' swept =
      subst (λ m. Swept rs m heads next (i + 1)) (sym joined.1)
      (tabled_found rs l heads next i j j_in is swept.0, closed_found rs l i j j_in is (sym joined.0) swept.1)

pub swept_new : (rs : List TermRecord) (l : List ℕ) (heads next : List (Option ℕ)) (i b : ℕ) → Chains heads next i → i < length next → b < length heads → b ≡ bucket_of (sig rs l i) → ((j : ℕ) → Reaches next (get_or heads b None) j → sig rs l j ≡ sig rs l i → ⊥) → Swept rs l heads next i → Swept rs l (set heads b (Some i)) (set next i (get_or heads b None)) (i + 1)
swept_new rs l heads next i b chains i_in b_in is none swept =
    (tabled_more rs l heads next i b chains i_in b_in is swept.0, closed_new rs l i (new_signature rs l heads next i b swept.0 is none) swept.1)

pub flagged_yes : (r : Bool) (j j' : ℕ) → r ≡ true → j' ≡ j + 1 → j' ≡ j + flag r
flagged_yes r j j' is e = e ∙ ap (λ b. j + flag b) (sym is)

pub flagged_no : (r : Bool) (j j' : ℕ) → r ≡ false → j' ≡ j → j' ≡ j + flag r
flagged_no r j j' is e = e ∙ (sym (add-zero j) ∙ ap (λ b. j + flag b) (sym is))

-- joins are few: each takes a class away
pub joins_few : (rs : List TermRecord) (n : ℕ) (l l' : List ℕ) (j : ℕ) → Grown rs n l l' j → j ≤ n
joins_few rs n l l' j g = omega (arith, g.counted, classes_few l n)
