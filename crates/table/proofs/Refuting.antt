-- By how many joins a branch's conditions are impossible, from what deciding them answers.
use Rattle.std.proofs.Common.{◌≡◌, ℕ, ◌-◌, ◌<◌, ◌≤◌, Bool, true, List, [], ◌∷◌, ◌++◌, MatchBool, Ok, subst, arith}
use Rattle.sheet.specs.System.{System}
use Rattle.terms.specs.Terms.{Term, Sat}
use Rattle.terms.specs.declared.Condition.{Condition}
use Rattle.terms.specs.declared.TermRecord.{TermRecord}
use Rattle.terms.specs.Bank.{term_at}
use Rattle.banks.specs.Room.{Holding}
use Rattle.banks.proofs.Gaining.{places_enough}
use Rattle.closure.specs.Labels.{literals, Ready, Answered}
use Rattle.forms.specs.Rows.{Row}
use Rattle.forms.specs.Counted.{ConditionsIn, sides_of}
use Rattle.table.specs.Offers.{Refuted}

-- any meaning meets no conditions
sat_none : Sat []
sat_none = (record { meaning = λ f vs. 0; values = λ x. 0; meaning_small = λ f vs. omega arith; values_small = λ x. omega arith }, tt)

-- so impossible conditions are between some terms
some_terms : (rs : List TermRecord) (n : ℕ) (conditions : List Condition) (labels : List ℕ) → Ready rs n conditions labels → (Sat (literals rs conditions) → ⊥) → 0 < n
some_terms rs n [] labels ready no' = absurd (no' sat_none)
some_terms rs n (c ∷ cs) labels ready no' = let lt : c.left < n = ready.lefts 0 (omega arith) in omega arith

-- there are fewer joins than terms in the bank, and no more terms in the bank than in any list that has all of them
pub refuted : (s : System) (row : Row) (number : ℕ) (seen : List Term) (rs : List TermRecord) (n : ℕ) (conditions : List Condition) (labels labels' : List ℕ) (impossible : Bool) (joins : ℕ)
    → ConditionsIn s row number seen (literals rs conditions) → Holding rs n (seen ++ sides_of (literals rs conditions)) → Ready rs n conditions labels → Answered rs n conditions labels labels' impossible joins → impossible ≡ true → Refuted s row number seen (Ok joins)
refuted s row number seen rs n conditions labels labels' impossible joins inside holds ready answer is =
    let no' : Sat (literals rs conditions) → ⊥ = subst (λ (b : Bool). MatchBool b (Sat (literals rs conditions) → ⊥) (Sat (literals rs conditions))) is answer.verdict in
    let some : 0 < n = some_terms rs n conditions labels ready no' in
    let fewer : joins ≤ n - 1 = answer.bounded in
    (literals rs conditions, inside, no', λ all has. (let enough = places_enough (term_at rs) n all (holds.only all has) holds.bank.once in omega arith))
