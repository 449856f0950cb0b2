-- A goal is entailed exactly where the conditions with its negation are impossible, and closing those.
use Rattle.std.proofs.Common.{◌≡◌, ℕ, zero, suc, ◌+◌, ◌<◌, ◌≤◌, Bool, true, false, ◌⊎◌, List, ◌∷◌, length, get_or, Decides, MatchBool, sym, refl, ap, subst, inl, inr, ⊎_elim, arith}
use Rattle.std.proofs.lemmas.Bool.{cases_eq, true≢false}
use Rattle.terms.specs.declared.TermRecord.{TermRecord}
use Rattle.terms.specs.declared.Condition.{Condition}
use Rattle.terms.specs.declared.Sign.{Sign}
use Rattle.terms.specs.declared.Sign.TheVariants.{Equal, Different}
use Rattle.terms.specs.Terms.{Term, eval, Literal, AreSigned, Sat, Entails}
use Rattle.terms.specs.Bank.{term_at, literal_of, Ordered}
use Rattle.closure.specs.Congruence.{Congruent, equation, itself, turned, chained, unaries, binaries, ternaries}
use Rattle.closure.specs.Labels.{no_condition, literals, label, classes, Ready, Answered}
use Rattle.closure.specs.Working.{Closed, Rooted, Forced, Meets, Broken, Settled, Spare, Joined, Grown, negated, opposite}
use Rattle.closure.proofs.Theory.{congruent_given, impossible, possible, by_congruence}
use Rattle.closure.proofs.Merging.{join_facts, join_meets, joins_bounded}

-- more literals join at least as much
congruent_more : (d : Literal) (cs : List Literal) → {s t : Term} → Congruent cs s t → Congruent (d ∷ cs) s t
congruent_more d cs (equation c has is) = equation c (suc has.0, omega (arith, has.1), has.2) is
congruent_more d cs (itself t) = itself t
congruent_more d cs (turned p) = turned (congruent_more d cs p)
congruent_more d cs (chained p q) = chained (congruent_more d cs p) (congruent_more d cs q)
congruent_more d cs (unaries f p) = unaries f (congruent_more d cs p)
congruent_more d cs (binaries f p q) = binaries f (congruent_more d cs p) (congruent_more d cs q)
congruent_more d cs (ternaries f p q r) = ternaries f (congruent_more d cs p) (congruent_more d cs q) (congruent_more d cs r)

pub never : (g : Sign) → g ≡ Different → g ≡ Equal → ⊥
never g p q = let z : ◌≡◌ {A = ℕ} 0 1 = cc in omega (arith, z)

meets_more : (d : Condition) (conds : List Condition) (l : List ℕ) → (d.sign ≡ Equal → label l d.left ≡ label l d.right) → Meets conds l → Meets (d ∷ conds) l
meets_more d conds l first meets zero lt is = first is
meets_more d conds l first meets (suc k) lt is = meets k (omega arith) is

-- a disequation added to conditions that are settled
pub settled_different : (rs : List TermRecord) (n : ℕ) (d : Condition) (conds : List Condition) (l : List ℕ) → d.sign ≡ Different → Settled rs n conds l → Settled rs n (d ∷ conds) l
settled_different rs n d conds l is s =
    record { rooted = s.rooted; closed = s.closed; forced = λ i lt. congruent_more (literal_of rs d) (literals rs conds) (s.forced i lt); meets = meets_more d conds l (λ e. absurd (never d.sign is e)) s.meets }

-- an equation added to conditions that are settled: joined, and saturated again
pub settled_equal : (rs : List TermRecord) (n : ℕ) (d : Condition) (conds : List Condition) (l l' l'' : List ℕ) (r : Bool) (j : ℕ) → d.sign ≡ Equal → d.left < n → d.right < n → ((k : ℕ) → k < length conds → (get_or conds k no_condition).left < n) → ((k : ℕ) → k < length conds → (get_or conds k no_condition).right < n) → Settled rs n conds l → Joined n d.left d.right l l' r → Grown rs n l' l'' j → Closed rs n l'' → Settled rs n (d ∷ conds) l''
settled_equal rs n d conds l l' l'' r j is left right lefts rights s joined grown closed =
    let same = join_meets n d.left d.right l l' r left right joined in
    let base : Forced rs n (literals rs (d ∷ conds)) l = λ i lt. congruent_more (literal_of rs d) (literals rs conds) (s.forced i lt) in
    let after = step r joined base in
    record {
      rooted = grown.rooted;
      closed = closed;
      forced = grown.forced (literals rs (d ∷ conds)) after.0;
      meets = meets_more d conds l'' (λ e. grown.coarser d.left d.right left right same) (λ k lt e. grown.coarser (get_or conds k no_condition).left (get_or conds k no_condition).right (lefts k lt) (rights k lt) (after.1 (get_or conds k no_condition).left (get_or conds k no_condition).right (lefts k lt) (rights k lt) (s.meets k lt e)));
    }
  where
    step : (r : Bool) → Joined n d.left d.right l l' r → Forced rs n (literals rs (d ∷ conds)) l → (Forced rs n (literals rs (d ∷ conds)) l') × ((i k : ℕ) → i < n → k < n → label l i ≡ label l k → label l' i ≡ label l' k)
    step true joined base =
        let f = join_facts rs n d.left d.right l l' left right s.rooted joined.0 joined.1 in
        (f.forced (literals rs (d ∷ conds)) (congruent_given rs (d ∷ conds) 0 (omega arith) is) base, f.coarser)
    step false joined base =
        (subst (Forced rs n (literals rs (d ∷ conds))) (sym joined.1) base, λ i k p q e. subst (λ m. label m i ≡ label m k) (sym joined.1) e)

pub broken_first : (d : Condition) (conds : List Condition) (l : List ℕ) → d.sign ≡ Different → label l d.left ≡ label l d.right → Broken (d ∷ conds) l
broken_first d conds l is e = (0, omega arith, is, e)

pub broken_later : (d : Condition) (conds : List Condition) (l : List ℕ) → Broken conds l → Broken (d ∷ conds) l
broken_later d conds l b = (suc b.0, omega (arith, b.1), b.2, b.3)

pub broken_cases : (d : Condition) (conds : List Condition) (l : List ℕ) → Broken (d ∷ conds) l → ((d.sign ≡ Different) × (label l d.left ≡ label l d.right)) ⊎ Broken conds l
broken_cases d conds l b = go b.0 b.1 b.2 b.3
  where
    go : (k : ℕ) → k < length (d ∷ conds) → (get_or (d ∷ conds) k no_condition).sign ≡ Different → label l (get_or (d ∷ conds) k no_condition).left ≡ label l (get_or (d ∷ conds) k no_condition).right → ((d.sign ≡ Different) × (label l d.left ≡ label l d.right)) ⊎ Broken conds l
    go zero lt is e = inl (is, e)
    go (suc k) lt is e = inr (k, omega arith, is, e)

signed_entails : (g : Sign) (a b : ℕ) → (AreSigned (opposite g) a b → ⊥) → AreSigned g a b
signed_entails Equal a b no' = ⊎_elim (λ e. e) (λ ne. absurd (no' ne)) (cases_eq a b)
signed_entails Different a b no' = no'

signed_against : (g : Sign) (a b : ℕ) → AreSigned g a b → AreSigned (opposite g) a b → ⊥
signed_against Equal a b e ne = ne e
signed_against Different a b ne e = ne e

pub entails_from_impossible : (rs : List TermRecord) (goal : Condition) (conds : List Condition) → (Sat (literals rs (negated goal ∷ conds)) → ⊥) → Entails (literals rs conds) (literal_of rs goal)
entails_from_impossible rs goal conds none m met =
    signed_entails goal.sign (eval m (term_at rs goal.left)) (eval m (term_at rs goal.right)) (λ h. none (m, (h, met)))

pub impossible_from_entails : (rs : List TermRecord) (goal : Condition) (conds : List Condition) → Entails (literals rs conds) (literal_of rs goal) → Sat (literals rs (negated goal ∷ conds)) → ⊥
impossible_from_entails rs goal conds entails sat =
    signed_against goal.sign (eval sat.0 (term_at rs goal.left)) (eval sat.0 (term_at rs goal.right)) (entails sat.0 sat.1.1) sat.1.0

-- the verdict of settled labels
pub verdict_of : (rs : List TermRecord) (n : ℕ) (conds : List Condition) (l : List ℕ) → Ordered rs n → n ≤ 512 → ((k : ℕ) → k < length conds → (get_or conds k no_condition).left < n) → ((k : ℕ) → k < length conds → (get_or conds k no_condition).right < n) → Settled rs n conds l → (b : Bool) → Decides b (Broken conds l) → MatchBool b (Sat (literals rs conds) → ⊥) (Sat (literals rs conds))
verdict_of rs n conds l o few lefts rights s true decides = impossible rs n conds l o few lefts rights s (decides.0 refl)
verdict_of rs n conds l o few lefts rights s false decides =
    possible rs n conds l o few lefts rights s (λ broken. let e = decides.1 broken in let z : ◌≡◌ {A = ℕ} 0 1 = cc in omega (arith, z))

pub answered : (rs : List TermRecord) (n : ℕ) (conds : List Condition) (old l : List ℕ) (b : Bool) (j : ℕ) → Ready rs n conds old → Settled rs n conds l → Decides b (Broken conds l) → j + classes n l ≡ n → Spare n old l → Answered rs n conds old l b j
answered rs n conds old l b j ready s decides counted spare =
    record {
      verdict = verdict_of rs n conds l ready.ordered ready.few ready.lefts ready.rights s b decides;
      smallest = by_congruence rs n conds l ready.ordered ready.few ready.lefts ready.rights s;
      counted = counted;
      bounded = joins_bounded n j l s.rooted counted;
      spare = spare;
    }

pub ready_more : (rs : List TermRecord) (n : ℕ) (goal : Condition) (conds : List Condition) (l : List ℕ) → goal.left < n → goal.right < n → Ready rs n conds l → Ready rs n (goal ∷ conds) l
ready_more rs n goal conds l left right ready =
    record { ordered = ready.ordered; few = ready.few; labelled = ready.labelled; lefts = more (λ c. c.left) left ready.lefts; rights = more (λ c. c.right) right ready.rights }
  where
    more : (part : Condition → ℕ) → part goal < n → ((k : ℕ) → k < length conds → part (get_or conds k no_condition) < n) → (k : ℕ) → k < length (goal ∷ conds) → part (get_or (goal ∷ conds) k no_condition) < n
    more part first rest zero lt = first
    more part first rest (suc k) lt = rest k (omega arith)

pub ready_less : (rs : List TermRecord) (n : ℕ) (goal : Condition) (conds : List Condition) (l : List ℕ) → Ready rs n (goal ∷ conds) l → (goal.left < n) × (goal.right < n) × Ready rs n conds l
ready_less rs n goal conds l ready =
    (ready.lefts 0 (omega arith), ready.rights 0 (omega arith), record { ordered = ready.ordered; few = ready.few; labelled = ready.labelled; lefts = λ k lt. ready.lefts (suc k) (omega arith); rights = λ k lt. ready.rights (suc k) (omega arith) })

-- the answer on a goal, from the settled conditions with its negation
pub concluded : (rs : List TermRecord) (n : ℕ) (goal : Condition) (conds : List Condition) (old l : List ℕ) (b : Bool) → Ready rs n (goal ∷ conds) old → Settled rs n (negated goal ∷ conds) l → Decides b (Broken (negated goal ∷ conds) l) → Decides b (Entails (literals rs conds) (literal_of rs goal))
concluded rs n goal conds old l b ready s decides =
    let less = ready_less rs n goal conds old ready in
    let neg = ready_more rs n (negated goal) conds old less.0 less.1 less.2 in
    by b (verdict_of rs n (negated goal ∷ conds) l neg.ordered neg.few neg.lefts neg.rights s b decides)
  where
    by : (b : Bool) → MatchBool b (Sat (literals rs (negated goal ∷ conds)) → ⊥) (Sat (literals rs (negated goal ∷ conds))) → Decides b (Entails (literals rs conds) (literal_of rs goal))
    by true none = (λ _. entails_from_impossible rs goal conds none, λ _. refl)
    by false sat = (λ e. absurd (true≢false (sym e)), λ entails. absurd (impossible_from_entails rs goal conds entails sat))

pub joined_spare : (n a b : ℕ) (l l' : List ℕ) (r : Bool) → Joined n a b l l' r → Spare n l l'
joined_spare n a b l l' true joined = joined.1.1
joined_spare n a b l l' false joined = λ k le. ap (λ m. label m k) joined.1

pub joined_rooted : (rs : List TermRecord) (n a b : ℕ) (l l' : List ℕ) (r : Bool) → a < n → b < n → Rooted n l → Joined n a b l l' r → Rooted n l'
joined_rooted rs n a b l l' true p q rooted joined = (join_facts rs n a b l l' p q rooted joined.0 joined.1).rooted
joined_rooted rs n a b l l' false p q rooted joined = subst (Rooted n) (sym joined.1) rooted
