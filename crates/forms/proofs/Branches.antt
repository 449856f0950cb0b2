-- Answers to k questions and the branches below 2^k: each list of answers is one branch's.
use Rattle.std.proofs.Common.{◌≡◌, ℕ, zero, suc, ◌+◌, ◌*◌, ◌/◌, ◌%◌, ◌^◌, ◌<◌, Bool, true, false, cond, eqb, List, [], ◌∷◌, length, sym, refl, ap, ◌∙◌, arith}
use Rattle.std.proofs.lemmas.Nat.{pow-add}
use Rattle.std.proofs.lemmas.Bool.{eqb-true, eqb-false}
use Rattle.forms.specs.Candidate.{branch_answers}

abbrev pub branch_of : List Bool → ℕ
branch_of [] = 0
branch_of (b ∷ bs) = cond b 1 0 + 2 * branch_of bs

double : (k : ℕ) → 2 ^ suc k ≡ 2 * 2 ^ k
double k = let e : suc k ≡ 1 + k = omega arith in ap (λ n. 2 ^ n) e ∙ pow-add 2 1 k

pub branch_small : (bs : List Bool) → branch_of bs < 2 ^ length bs
branch_small [] = omega arith
branch_small (true ∷ bs) = let ih = branch_small bs in let d = double (length bs) in omega arith
branch_small (false ∷ bs) = let ih = branch_small bs in let d = double (length bs) in omega arith

pub answers_of_branch : (bs : List Bool) → branch_answers (length bs) (branch_of bs) ≡ bs
answers_of_branch [] = refl
answers_of_branch (true ∷ bs) =
    let n = branch_of bs in
    let half : (1 + 2 * n) / 2 ≡ n = omega arith in
    let rest : (1 + 2 * n) % 2 ≡ 1 = omega arith in
    let q = ap (branch_answers (length bs)) half ∙ answers_of_branch bs in
    let p = ap (λ r. eqb r 1) rest in
    cc
answers_of_branch (false ∷ bs) =
    let n = branch_of bs in
    let half : (0 + 2 * n) / 2 ≡ n = omega arith in
    let rest : (0 + 2 * n) % 2 ≡ 0 = omega arith in
    let q = ap (branch_answers (length bs)) half ∙ answers_of_branch bs in
    let p = ap (λ r. eqb r 1) rest in
    cc

low_bit : (b : ℕ) → cond (eqb (b % 2) 1) 1 0 ≡ b % 2
low_bit b = by (eqb (b % 2) 1) refl
  where
    by : (t : Bool) → eqb (b % 2) 1 ≡ t → cond t 1 0 ≡ b % 2
    by true is = sym (eqb-true (b % 2) 1 is)
    by false is = let no' = eqb-false (b % 2) 1 is in omega arith

pub branch_of_answers : (k b : ℕ) → b < 2 ^ k → branch_of (branch_answers k b) ≡ b
branch_of_answers zero b small = omega arith
branch_of_answers (suc k) b small =
    let d = double k in
    let half : b / 2 < 2 ^ k = omega arith in
    let ih = branch_of_answers k (b / 2) half in
    let l = low_bit b in
    omega arith

pub answers_long : (k b : ℕ) → length (branch_answers k b) ≡ k
answers_long zero b = refl
answers_long (suc k) b = ap suc (answers_long k (b / 2))
