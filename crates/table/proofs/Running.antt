-- Calls one after another, each answered in its place.
use Rattle.std.proofs.Common.{◌≡◌, ℕ, zero, suc, ◌+◌, ◌<◌, List, [], ◌∷◌, ◌++◌, length, take, map, slice_index_or, slice_set, refl, sym, ap, ◌∙◌, arith}
use Rattle.std.proofs.lemmas.List.{take_more, take_more_set, length-map, get_or-map, set-get_or}
use Rattle.rules.specs.declared.Answer.{Answer}
use Rattle.rules.specs.declared.Call.{Call}
use Rattle.rules.specs.declared.Entry.{Entry}
use Rattle.rules.proofs.Promised.{played_more}
use Rattle.table.specs.declared.table.Table.{Table}
use Rattle.table.specs.Answers.{answer_of, call_of}
use Rattle.table.specs.Standing.{Performs, PlayedBy, KeepsMemory}

-- memory that is kept by one call and by the next is kept by both
pub keeps_more : (old mid new : Table) → KeepsMemory old mid → KeepsMemory mid new → KeepsMemory old new
keeps_more old mid new h w =
    record { bank = w.bank ∙ h.bank; rows = w.rows ∙ h.rows; marks = w.marks ∙ h.marks; work = w.work ∙ h.work }

-- one call more
pub played_by_more : (old mid new : Table) (calls : List Call) (answers : List Answer) (call : Call) (answer : Answer) → PlayedBy old calls answers mid → Performs mid call answer new → PlayedBy old (calls ++ call ∷ []) (answers ++ answer ∷ []) new
played_by_more old mid new calls answers call answer h w = λ s limit at stands.
    let p = h s limit at stands in
    let q = w s limit p.0 p.2 in
    (q.0, played_more s limit calls answers at p.0 q.0 call answer p.1 q.1, q.2)

map_set : {A B : Type 0} (f : A → B) (xs : List A) (k : ℕ) (x : A) → map f (slice_set xs k x) ≡ slice_set (map f xs) k (f x)
map_set f [] k x = refl
map_set f (y ∷ ys) zero x = refl
map_set f (y ∷ ys) (suc k) x = ap (λ zs. f y ∷ zs) (map_set f ys k x)

-- an entry with its answer in its place
module _ (entries : List Entry) (k : ℕ) (entry d : Entry) (same : call_of entry ≡ call_of (slice_index_or entries k d)) (within : k < length entries) where
  pub calls_stay : map call_of (slice_set entries k entry) ≡ map call_of entries
  calls_stay =
      map_set call_of entries k entry
      ∙ (ap (slice_set (map call_of entries) k) (same ∙ sym (get_or-map call_of entries k d (call_of d) within)) ∙ set-get_or (map call_of entries) k (call_of d))

  pub calls_more : take (k + 1) (map call_of (slice_set entries k entry)) ≡ take k (map call_of entries) ++ call_of (slice_index_or entries k d) ∷ []
  calls_more =
      let inside : k < length (map call_of entries) = omega (arith, length-map entries call_of) in
      ap (take (k + 1)) calls_stay
      ∙ (take_more (map call_of entries) k (call_of d) inside ∙ ap (λ (c : Call). take k (map call_of entries) ++ c ∷ []) (get_or-map call_of entries k d (call_of d) within))

  pub answers_more : take (k + 1) (map answer_of (slice_set entries k entry)) ≡ take k (map answer_of entries) ++ answer_of entry ∷ []
  answers_more =
      let inside : k < length (map answer_of entries) = omega (arith, length-map entries answer_of) in
      ap (take (k + 1)) (map_set answer_of entries k entry) ∙ take_more_set (map answer_of entries) k (answer_of entry) inside

  pub run_more : (old mid new : Table) → PlayedBy old (take k (map call_of entries)) (take k (map answer_of entries)) mid → Performs mid (call_of (slice_index_or entries k d)) (answer_of entry) new → PlayedBy old (take (k + 1) (map call_of (slice_set entries k entry))) (take (k + 1) (map answer_of (slice_set entries k entry))) new
  run_more old mid new h w =
      rw (calls_more, answers_more)
      (played_by_more old mid new (take k (map call_of entries)) (take k (map answer_of entries)) (call_of (slice_index_or entries k d)) (answer_of entry) h w)
