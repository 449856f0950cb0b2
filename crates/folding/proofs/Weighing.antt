-- An older row's conditions, renamed in the bank, are those that the renaming makes of them.
use Rattle.std.proofs.Common.{◌≡◌, ℕ, Bool, List, [], ◌∷◌, ◌++◌, map, length, get_or, Ok, Err, Decides, sym, refl, ap, ◌∙◌, subst, arith}
use Rattle.std.specs.List.{AllByRecursion as All}
use Rattle.std.proofs.lemmas.Simd.{map-map}
use Rattle.fault.specs.declared.TableFault.{TableFault}
use Rattle.terms.specs.declared.Condition.{Condition}
use Rattle.terms.specs.declared.TermRecord.{TermRecord}
use Rattle.terms.specs.Terms.{renamed, Literal, Entails}
use Rattle.terms.specs.Bank.{Stays, term_at, literal_of}
use Rattle.closure.specs.Labels.{no_condition, literals}
use Rattle.banks.specs.Room.{Roomy, Crowded}
use Rattle.banks.proofs.Gaining.{roomy_gained, crowded_overfull}
use Rattle.forms.specs.Matching.{renamed_in}
use Rattle.forms.specs.Counted.{sides_of}
use Rattle.rows.specs.Records.{Between}
use Rattle.folding.specs.declared.change.Change.TheVariants.{Rename}
use Rattle.folding.specs.declared.renaming.Renaming.{Renaming}
use Rattle.folding.specs.Rewriting.{arg, NoRoom, side_places, ConditionsChanged}
use Rattle.folding.specs.Matched.{sends, Weighed}
use Rattle.folding.proofs.RowPasses.{alike, literals_equal}

-- conditions between terms that stay
pub literals_stay : (rs rs' : List TermRecord) (n : ℕ) → Stays n rs rs' → (conds : List Condition) → Between n conds (length conds) → literals rs' conds ≡ literals rs conds
literals_stay rs rs' n stays conds between =
    alike (literal_of rs') (literal_of rs) no_condition no_condition conds conds refl
    (λ k lt. (let c = get_or conds k no_condition in
    literals_equal (literal_of rs' c) (literal_of rs c) (stays c.left (between.lefts k lt)).1 (stays c.right (between.rights k lt)).1 refl))

module _ (rs : List TermRecord) (n : ℕ) (r : Renaming) where
  pub sides_renamed : (conds : List Condition) → map (arg rs (Rename r.to)) (side_places conds) ≡ sides_of (map (renamed_in (sends r)) (literals rs conds))
  sides_renamed [] = refl
  sides_renamed (c ∷ cs) = ap (λ ts. renamed (sends r) (term_at rs c.left) ∷ renamed (sends r) (term_at rs c.right) ∷ ts) (sides_renamed cs)

  module _ (old new : List Condition) (rs' : List TermRecord) (n' : ℕ) (h : ConditionsChanged rs n (Rename r.to) old new rs' n') (same : length new ≡ length old) where
    literals-renamed : literals rs' new ≡ map (renamed_in (sends r)) (literals rs old)
    literals-renamed =
        alike (literal_of rs') (λ c. renamed_in (sends r) (literal_of rs c)) no_condition no_condition new old same
        (λ k lt. literals_equal (literal_of rs' (get_or new k no_condition)) (renamed_in (sends r) (literal_of rs (get_or old k no_condition))) (h.lefts k lt).1 (h.rights k lt).1 (h.signs k lt))
        ∙ sym (map-map (renamed_in (sends r)) (literal_of rs) old)

    pub goals_between : Between n' new (length new)
    goals_between = record { lefts = λ k lt. (h.lefts k (omega (arith, same))).0; rights = λ k lt. (h.rights k (omega (arith, same))).0 }

    pub weighed : (given : List Condition) → Between n given (length given) → (answer : Bool) → Decides answer (All (Entails (literals rs' given)) (literals rs' new)) → Weighed rs n (sends r) (literals rs old) (literals rs given) (Ok answer)
    weighed given b answer decides = (
      λ seen held. subst (λ ts. Roomy (seen ++ ts)) (sides_renamed old) (roomy_gained rs n seen held (map (arg rs (Rename r.to)) (side_places old)) rs' n' h.gained),
      subst (λ goals. Decides answer (All (Entails (literals rs given)) goals)) literals-renamed
          (subst (λ cs. Decides answer (All (Entails cs) (literals rs' new))) (literals_stay rs rs' n h.gained.extends.stays given b) decides),
    )

  pub unweighed : (old : List Condition) (rs' : List TermRecord) (n' : ℕ) (e : TableFault) → NoRoom rs n (Rename r.to) (side_places old) rs' n' e → (given : List Literal) → Weighed rs n (sends r) (literals rs old) given (Err e)
  unweighed old rs' n' e h given =
      (h.fault, λ seen held. subst (λ ts. Crowded (seen ++ ts)) (sides_renamed old) (crowded_overfull rs n seen held (map (arg rs (Rename r.to)) (side_places old)) h.over))

-- what is answered of the bank as it is given back
pub decided_back : (rs rs' : List TermRecord) (answer : Bool) (given goals : List Condition) → Decides answer (All (Entails (literals rs' given)) (literals rs' goals)) → rs' ≡ rs → Decides answer (All (Entails (literals rs given)) (literals rs goals))
decided_back rs rs' answer given goals h p = subst (λ bank. Decides answer (All (Entails (literals bank given)) (literals bank goals))) p h
