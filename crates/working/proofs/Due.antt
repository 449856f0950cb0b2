-- The rows that are still due, in their order.
use Rattle.std.proofs.Common.{◌≡◌, ℕ, zero, suc, ◌+◌, ◌-◌, ◌<◌, ◌≤◌, List, [], ◌∷◌, ◌++◌, length, Ok, Err, Result, refl, sym, ap, ◌∙◌, arith, append_assoc}
use Rattle.std.specs.Prelude.{MatchResult}
use Rattle.std.specs.List.{range_with_len}
use Rattle.std.proofs.lemmas.List.{length-append}
use Rattle.std.proofs.lemmas.List.FromFn.{length-range_with_len}

-- a range with one number more
range_more : (a n b : ℕ) → a + n ≡ b → range_with_len a (suc n) ≡ range_with_len a n ++ b ∷ []
range_more a zero b is = let e : a ≡ b = omega (arith, is) in ap (λ x. x ∷ []) e
range_more a (suc n) b is = let e : a + 1 + n ≡ b = omega (arith, is) in ap (λ l. a ∷ l) (range_more (a + 1) n b e)

-- a row is pushed behind the others, where there is room
pub pushed : (from row to : ℕ) (old now new : List ℕ) (room now_room : ℕ) (result : Result Unit ℕ) → from ≤ row → row < to → length old + (to - from) ≤ room → now_room ≡ room
    → now ≡ old ++ range_with_len from (row - from)
    → MatchResult result (λ _. new ≡ now ++ row ∷ []) (λ back. (back ≡ row) × (new ≡ now) × (length now ≡ now_room))
    → new ≡ old ++ range_with_len from (row + 1 - from)
pushed from row to old now new room now_room (Ok done) low lt fits same is h =
    let one : row + 1 - from ≡ suc (row - from) = omega arith in
    let at : from + (row - from) ≡ row = omega arith in
    h ∙ (ap (λ l. l ++ row ∷ []) is ∙ (append_assoc old (range_with_len from (row - from)) (row ∷ []) ∙ ap (λ l. old ++ l) (sym (range_more from (row - from) row at) ∙ ap (range_with_len from) (sym one))))
pushed from row to old now new room now_room (Err back) low lt fits same is h =
    let l = length-append old (range_with_len from (row - from)) in
    let r = length-range_with_len from (row - from) in
    let e : length now ≡ length (old ++ range_with_len from (row - from)) = ap length is in
    absurd (omega (arith, l, r, e, h.2, same, fits, lt, low))

-- the first row that is due, and those after it
pub due_first : (r n row : ℕ) (rest : List ℕ) → range_with_len r n ≡ row ∷ rest → (row ≡ r) × (0 < n) × (rest ≡ range_with_len (r + 1) (n - 1))
due_first r zero row rest e = let z : ◌≡◌ {A = ℕ} 0 1 = cc in absurd (omega arith)
due_first r (suc n) row rest e =
    let first : r ≡ row = cc in
    let others : range_with_len (r + 1) n ≡ rest = cc in
    let less : n ≡ suc n - 1 = omega arith in
    (sym first, omega arith, sym others ∙ ap (range_with_len (r + 1)) less)

-- none is due
pub due_none : (r n : ℕ) → range_with_len r n ≡ [] → n ≡ 0
due_none r zero e = refl
due_none r (suc n) e = let z : ◌≡◌ {A = ℕ} 0 1 = cc in absurd (omega arith)

-- rows that are due, and those behind them
pub due_more : (a m n : ℕ) → range_with_len a m ++ range_with_len (a + m) n ≡ range_with_len a (m + n)
due_more a zero n = let e : a + 0 ≡ a = omega arith in let f : 0 + n ≡ n = omega arith in ap (λ x. range_with_len x n) e ∙ ap (range_with_len a) (sym f)
due_more a (suc m) n =
    let e : a + suc m ≡ a + 1 + m = omega arith in
    let f : suc m + n ≡ suc (m + n) = omega arith in
    ap (λ x. a ∷ (range_with_len (a + 1) m ++ range_with_len x n)) e ∙ (ap (λ l. a ∷ l) (due_more (a + 1) m n) ∙ ap (range_with_len a) (sym f))

-- the row that is taken out, and how many are left
pub record Taken (r rows row : ℕ) (due rest : List ℕ) : Type 0 where
  pub is : row ≡ r
  pub within : r < rows
  pub left : rest ≡ range_with_len (r + 1) (rows - r - 1)
  pub many : length rest ≡ rows - r - 1
  pub before : length due ≡ rows - r

pub due_taken : (r rows row : ℕ) (due rest : List ℕ) → due ≡ range_with_len r (rows - r) → due ≡ row ∷ rest → Taken r rows row due rest
due_taken r rows row due rest is first =
    let w = due_first r (rows - r) row rest (sym is ∙ first) in
    let l = ap length w.2 ∙ length-range_with_len (r + 1) (rows - r - 1) in
    record { is = w.0; within = omega (arith, w.1); left = w.2; many = l; before = ap length is ∙ length-range_with_len r (rows - r) }

-- behind the rows that are left, the new ones
pub due_next : (r rows rows' known : ℕ) (rest new : List ℕ) → r < rows → rows ≤ rows' → known ≡ rows → rest ≡ range_with_len (r + 1) (rows - r - 1) → new ≡ rest ++ range_with_len known (rows' - known) → new ≡ range_with_len (r + 1) (rows' - (r + 1))
due_next r rows rows' known rest new lt more same left is =
    let one : known ≡ r + 1 + (rows - r - 1) = omega (arith, same, lt) in
    let two : rows - r - 1 + (rows' - known) ≡ rows' - (r + 1) = omega (arith, same, lt, more) in
    let at : rest ++ range_with_len known (rows' - known) ≡ range_with_len (r + 1) (rows - r - 1) ++ range_with_len (r + 1 + (rows - r - 1)) (rows' - known) =
    ap (λ l. l ++ range_with_len known (rows' - known)) left ∙ ap (λ k. range_with_len (r + 1) (rows - r - 1) ++ range_with_len k (rows' - known)) one in
    is ∙ (at ∙ (due_more (r + 1) (rows - r - 1) (rows' - known) ∙ ap (range_with_len (r + 1)) two))

pub due_many : (rest new : List ℕ) (known n : ℕ) → new ≡ rest ++ range_with_len known n → length new ≡ length rest + n
due_many rest new known n is = ap length is ∙ (length-append rest (range_with_len known n) ∙ ap (λ k. length rest + k) (length-range_with_len known n))
