-- A document with one line more, in a bank with more terms.
use Rattle.std.proofs.Common.{◌≡◌, ℕ, zero, suc, ◌<◌, ◌≤◌, List, [], ◌∷◌, ◌++◌, sym, refl, ap, ◌∙◌, arith}
use Rattle.std.proofs.lemmas.List.{append_assoc, map_push, flat_map_more}
use Rattle.terms.specs.declared.TermRecord.{TermRecord}
use Rattle.terms.specs.declared.Condition.{Condition}
use Rattle.terms.specs.declared.Sign.{Sign}
use Rattle.terms.specs.Terms.{Term, Literal}
use Rattle.terms.specs.Bank.{term_at, literal_of, Extends}
use Rattle.closure.specs.Labels.{literals}
use Rattle.notation.specs.Written.{line, document, Between}

abbrev literal : Sign → Term → Term → Literal
literal g a b = record { left = a; right = b; sign = g }

literal_stays : (rs rs' : List TermRecord) (n n' : ℕ) (c : Condition) → Extends rs n rs' n' → c.left < n → c.right < n → literal_of rs' c ≡ literal_of rs c
literal_stays rs rs' n n' c e p q =
    ap (λ u. literal c.sign u (term_at rs' c.right)) (e.stays c.left p).1 ∙ ap (literal c.sign (term_at rs c.left)) (e.stays c.right q).1

literals_stay : (rs rs' : List TermRecord) (n n' : ℕ) → Extends rs n rs' n' → (conds : List Condition) → Between conds n → literals rs' conds ≡ literals rs conds
literals_stay rs rs' n n' e [] between = refl
literals_stay rs rs' n n' e (c ∷ conds) between =
    let first = between 0 (omega arith) in
    let p = literal_stays rs rs' n n' c e first.0 first.1 in
    let q = literals_stay rs rs' n n' e conds (λ k lt. between (suc k) (omega arith)) in
    cc

pub between_more : (conds : List Condition) (c : Condition) (n n' : ℕ) → n ≤ n' → c.left < n' → c.right < n' → Between conds n → Between (conds ++ (c ∷ [])) n'
between_more [] c n n' le p q between zero lt = (p, q)
between_more [] c n n' le p q between (suc k) lt = absurd (omega arith)
between_more (d ∷ conds) c n n' le p q between zero lt = let first = between 0 (omega arith) in (omega (arith, first.0), omega (arith, first.1))
between_more (d ∷ conds) c n n' le p q between (suc k) lt = between_more conds c n n' le p q (λ j h. between (suc j) (omega arith)) k (omega arith)

pub document_more : (rs rs' : List TermRecord) (n n' : ℕ) (conds : List Condition) (c : Condition) (text rest more : List ℕ) → Extends rs n rs' n' → Between conds n → text ≡ document (literals rs conds) ++ rest → rest ≡ line (literal_of rs' c) ++ more → text ≡ document (literals rs' (conds ++ (c ∷ []))) ++ more
document_more rs rs' n n' conds c text rest more e between is then =
    let same = literals_stay rs rs' n n' e conds between in
    let push = map_push (literal_of rs') conds c in
    let one = flat_map_more line [] (literals rs' conds) (literal_of rs' c) in
    is ∙ (ap (λ u. document u ++ rest) (sym same)
    ∙ (ap (λ u. document (literals rs' conds) ++ u) then
    ∙ (sym (append_assoc (document (literals rs' conds)) (line (literal_of rs' c)) more)
    ∙ ap (λ u. u ++ more) (one ∙ ap document (sym push)))))
