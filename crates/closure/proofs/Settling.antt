-- Taking the conditions in one by one, and the end of it.
use Rattle.std.proofs.Common.{◌≡◌, ℕ, ◌+◌, ◌<◌, Bool, true, false, List, length, get_or, sym, refl, ◌∙◌, subst, ⊎_elim, arith}
use Rattle.std.proofs.lemmas.Bool.{cases_lt, true≢false}
use Rattle.terms.specs.declared.TermRecord.{TermRecord}
use Rattle.terms.specs.declared.Condition.{Condition}
use Rattle.terms.specs.declared.Sign.{Sign}
use Rattle.terms.specs.declared.Sign.TheVariants.{Equal, Different}
use Rattle.closure.specs.Labels.{no_condition, literals, label}
use Rattle.closure.specs.Working.{Closed, Settled, Spare, Joined, Grown, Assuming, Assumed, AssumedAs, flag}
use Rattle.closure.proofs.Theory.{congruent_given}
use Rattle.closure.proofs.Merging.{join_facts, join_meets, rooted_start, classes-start, forced_start}

pub assuming_start : (rs : List TermRecord) (n : ℕ) (conds : List Condition) (old l : List ℕ) → ((k : ℕ) → k < n → label l k ≡ k) → Spare n old l → Assuming rs n conds old l 0 0
assuming_start rs n conds old l own spare =
    record { rooted = rooted_start n l own; forced = forced_start rs n (literals rs conds) l own; meets = λ k lt. absurd (omega arith); counted = omega (arith, classes-start l n own); spare = spare }

module _ (rs : List TermRecord) (n : ℕ) (conds : List Condition) (old l l' : List ℕ) (j i : ℕ) (i_in : i < length conds) (left_in : (get_or conds i no_condition).left < n) (right-in : (get_or conds i no_condition).right < n) (lefts : (k : ℕ) → k < length conds → (get_or conds k no_condition).left < n) (rights : (k : ℕ) → k < length conds → (get_or conds k no_condition).right < n) (s : Assuming rs n conds old l j i) where
  one_more : (m : List ℕ) → ((k : ℕ) → k < i → (get_or conds k no_condition).sign ≡ Equal → label m (get_or conds k no_condition).left ≡ label m (get_or conds k no_condition).right) → ((get_or conds i no_condition).sign ≡ Equal → label m (get_or conds i no_condition).left ≡ label m (get_or conds i no_condition).right) → (k : ℕ) → k < i + 1 → (get_or conds k no_condition).sign ≡ Equal → label m (get_or conds k no_condition).left ≡ label m (get_or conds k no_condition).right
  one_more m old' new k lt =
      ⊎_elim (λ h. old' k h) (λ h. let z : i ≡ k = omega arith in subst (λ u. (get_or conds u no_condition).sign ≡ Equal → label m (get_or conds u no_condition).left ≡ label m (get_or conds u no_condition).right) z new) (cases_lt k i)

  by_join : (get_or conds i no_condition).sign ≡ Equal → (r : Bool) → Joined n (get_or conds i no_condition).left (get_or conds i no_condition).right l l' r → Assuming rs n conds old l' (j + flag r) (i + 1)
  by_join is true joined =
      let c = get_or conds i no_condition in
      let f = join_facts rs n c.left c.right l l' left_in right-in s.rooted joined.0 joined.1 in
      record {
        rooted = f.rooted;
        forced = f.forced (literals rs conds) (congruent_given rs conds i i_in is) s.forced;
        meets = one_more l' (λ k h e. f.coarser (get_or conds k no_condition).left (get_or conds k no_condition).right (lefts k (omega arith)) (rights k (omega arith)) (s.meets k h e)) (λ _. join_meets n c.left c.right l l' true left_in right-in joined);
        counted = omega (arith, f.counted, s.counted);
        spare = λ k le. f.spare k le ∙ s.spare k le;
      }
  by_join is false joined =
      subst (λ m. Assuming rs n conds old m (j + 0) (i + 1)) (sym joined.1)
      (record { rooted = s.rooted; forced = s.forced; meets = one_more l s.meets (λ _. joined.0); counted = omega (arith, s.counted); spare = s.spare })

  by_sign : (g : Sign) → (get_or conds i no_condition).sign ≡ g → (r : Bool) → AssumedAs g n (get_or conds i no_condition).left (get_or conds i no_condition).right l l' r → Assuming rs n conds old l' (j + flag r) (i + 1)
  by_sign Equal is r joined = by_join is r joined
  by_sign Different is true same = absurd (true≢false same.1)
  by_sign Different is false same =
      subst (λ m. Assuming rs n conds old m (j + 0) (i + 1)) (sym same.0)
      (record { rooted = s.rooted; forced = s.forced; meets = one_more l s.meets (λ e. let z : ◌≡◌ {A = ℕ} 0 1 = cc in absurd (omega (arith, z))); counted = omega (arith, s.counted); spare = s.spare })

  pub assuming_more : (r : Bool) → Assumed n (get_or conds i no_condition) l l' r → Assuming rs n conds old l' (j + flag r) (i + 1)
  assuming_more r assumed = by_sign (get_or conds i no_condition).sign refl r assumed

pub settled_end : (rs : List TermRecord) (n : ℕ) (conds : List Condition) (old l l' : List ℕ) (j k : ℕ) → ((k : ℕ) → k < length conds → (get_or conds k no_condition).left < n) → ((k : ℕ) → k < length conds → (get_or conds k no_condition).right < n) → Assuming rs n conds old l j (length conds) → Grown rs n l l' k → Closed rs n l' → Settled rs n conds l'
settled_end rs n conds old l l' j k lefts rights s g closed =
    record {
      rooted = g.rooted;
      closed = closed;
      forced = g.forced (literals rs conds) s.forced;
      meets = λ u lt e. g.coarser (get_or conds u no_condition).left (get_or conds u no_condition).right (lefts u lt) (rights u lt) (s.meets u lt e);
    }
