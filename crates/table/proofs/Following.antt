-- A standing of an open table while the bank's terms stay, and as it grows.
use Rattle.std.proofs.Common.{◌≡◌, ◌≢◌, ℕ, suc, ◌+◌, ◌^◌, ◌<◌, ◌≤◌, List, [], ◌∷◌, ◌++◌, length, take, map, option_map, slice_index_or, slice_set, Option, Some, None, refl, sym, ap, ap₂, ◌∙◌, subst, arith, length-set, below_more, get_or-set_other, get_or-set_same, length-take-le}
use Rattle.std.specs.List.{slice_get}
use Rattle.std.proofs.lemmas.List.{take_more_set, get_or-take, map-append, length-map}
use Rattle.std.proofs.lemmas.Option.{slice_get-get_or, slice_get-map, slice_get_past}
use Rattle.sheet.specs.System.{System}
use Rattle.sheet.specs.View.{sheet_of}
use Rattle.sheet.specs.declared.sheet.Sheet.{Sheet}
use Rattle.terms.specs.declared.TermRecord.{TermRecord}
use Rattle.terms.specs.Bank.{Bank, Stays, Extends}
use Rattle.forms.specs.Rows.{Row}
use Rattle.rows.specs.declared.row.RowRecord.{RowRecord}
use Rattle.rows.specs.Records.{row_in, Inside}
use Rattle.candidates.specs.Outcome.{Kept}
use Rattle.folding.specs.Matched.{Closed}
use Rattle.rules.specs.declared.Mark.{Mark}
use Rattle.table.specs.Memory.{no_row, Fitting, FitsIfOpen}
use Rattle.table.specs.Offers.{Comparable, Workable}
use Rattle.table.specs.Standing.{IsOpenWith}
use Rattle.table.proofs.Lists.{get_taken}
use Rattle.table.proofs.Staying.{row_stays, inside_more}

-- a bank that is kept is extended by nothing
pub extends_kept : (rs rs' : List TermRecord) (n n' : ℕ) → Bank rs n → Kept rs n rs' n' → Extends rs n rs' n'
extends_kept rs rs' n n' bank kept = subst (Extends rs n rs') (sym kept.count) (record { bank = kept.bank bank; more = omega arith; stays = kept.records })

-- a row of the table stays one as the bank grows
pub comparable_more : (s : System) (rs rs' : List TermRecord) (n n' : ℕ) (r : RowRecord) → Extends rs n rs' n' → Comparable s rs n r → Comparable s rs' n' r
comparable_more s rs rs' n n' r e h =
    record {
      inside = inside_more s n n' 16 r e.more h.inside;
      closed = subst Closed (sym (row_stays s rs rs' n 16 r e.stays h.inside)) h.closed;
    }

-- memory fits still as the bank grows
pub fitting_more : (s : System) (rs rs' : List TermRecord) (n n' : ℕ) (rows : List RowRecord) (used limit : ℕ) (marks marks' : List Mark) (work work' : List ℕ) → Fitting s rs n rows used limit marks work → Extends rs n rs' n' → length rs' ≡ length rs → length marks' ≡ length marks → length work' ≡ length work → Fitting s rs' n' rows used limit marks' work'
fitting_more s rs rs' n n' rows used limit marks marks' work work' f e l m w =
    record {
      lengths = record { bank = l ∙ f.lengths.bank; rows = f.lengths.rows; marks = m ∙ f.lengths.marks; work = w ∙ f.lengths.work };
      bank = e.bank;
      within = f.within;
      limited = f.limited;
      comparable = λ k p. comparable_more s rs rs' n n' (slice_index_or rows k no_row) e (f.comparable k p);
    }

-- and with a row more
pub fitting_pushed : (s : System) (rs : List TermRecord) (n : ℕ) (rows : List RowRecord) (used limit : ℕ) (marks : List Mark) (work : List ℕ) (form : RowRecord) → Fitting s rs n rows used limit marks work → Comparable s rs n form → used < limit → Fitting s rs n (slice_set rows used form) (used + 1) limit marks work
fitting_pushed s rs n rows used limit marks work form f here free =
    let room : used < length rows = omega (arith, f.lengths.rows, f.limited) in
    record {
      lengths = record { bank = f.lengths.bank; rows = length-set rows used form ∙ f.lengths.rows; marks = f.lengths.marks; work = f.lengths.work };
      bank = f.bank;
      within = omega arith;
      limited = f.limited;
      comparable = below_more (λ k. Comparable s rs n (slice_index_or (slice_set rows used form) k no_row)) used
          (λ k p. let ne : k ≢ used = omega arith in rw get_or-set_other (f.comparable k p))
          (rw get_or-set_same here);
    }

-- what holds of an open table's memory, with the sheet that the standing has
module _ (o : Option Sheet) (sheet : Sheet) (is : o ≡ Some sheet) where
  pub fitting : (rs : List TermRecord) (n : ℕ) (rows : List RowRecord) (used limit : ℕ) (marks : List Mark) (work : List ℕ) → FitsIfOpen o rs n rows used limit marks work → Fitting (sheet_of sheet) rs n rows used limit marks work
  fitting rs n rows used limit marks work f = subst (λ (x : Option Sheet). FitsIfOpen x rs n rows used limit marks work) is f

  pub fits : (rs : List TermRecord) (n : ℕ) (rows : List RowRecord) (used limit : ℕ) (marks : List Mark) (work : List ℕ) → Fitting (sheet_of sheet) rs n rows used limit marks work → FitsIfOpen o rs n rows used limit marks work
  fits rs n rows used limit marks work f = subst (λ (x : Option Sheet). FitsIfOpen x rs n rows used limit marks work) (sym is) f

  pub open_with : (kept : ℕ) (s : System) (limit : ℕ) → IsOpenWith o kept s limit → (sheet_of sheet ≡ s) × (kept ≡ limit)
  open_with kept s limit h = subst (λ (x : Option Sheet). IsOpenWith x kept s limit) is h

-- rows of a standing are those of the records
rows_stay : (s : System) (rs rs' : List TermRecord) (n : ℕ) → Stays n rs rs' → (xs : List RowRecord) → ((k : ℕ) → k < length xs → Inside s n 16 (slice_index_or xs k no_row)) → map (row_in s rs') xs ≡ map (row_in s rs) xs
rows_stay s rs rs' n stays [] inside = refl
rows_stay s rs rs' n stays (x ∷ xs) inside =
    let first = row_stays s rs rs' n 16 x stays (inside 0 (omega arith)) in
    let rest = rows_stay s rs rs' n stays xs (λ k p. inside (suc k) (omega arith)) in
    ap₂ (λ (r : Row) (l : List Row). r ∷ l) first rest

module _ (s : System) (rs : List TermRecord) (n : ℕ) (rows : List RowRecord) (used limit : ℕ) (marks : List Mark) (work : List ℕ) (f : Fitting s rs n rows used limit marks work) where
  few : used ≤ length rows
  few = omega (arith, f.within, f.limited, f.lengths.rows)

  pub front_stays : (rs' : List TermRecord) → Stays n rs rs' → map (row_in s rs') (take used rows) ≡ map (row_in s rs) (take used rows)
  front_stays rs' stays =
      rows_stay s rs rs' n stays (take used rows)
      (λ k p. let lt : k < used = omega (arith, length-take-le used rows few) in rw (get_or-take used rows k no_row lt) (f.comparable k lt).inside)

  -- a row of the table, as the standing has it
  pub row_at : (r : ℕ) → r < used → slice_get (map (row_in s rs) (take used rows)) r ≡ Some (row_in s rs (slice_index_or rows r no_row))
  row_at r lt =
      let within : r < length rows = omega (arith, few) in
      slice_get-map (row_in s rs) (take used rows) r
      ∙ ap (option_map (row_in s rs)) (get_taken used rows r lt ∙ slice_get-get_or rows r no_row within)

  pub no_row_at : (r : ℕ) → used ≤ r → slice_get (map (row_in s rs) (take used rows)) r ≡ None
  no_row_at r past =
      let long : length (map (row_in s rs) (take used rows)) ≡ used = length-map (take used rows) (row_in s rs) ∙ length-take-le used rows few in
      let le : length (map (row_in s rs) (take used rows)) ≤ r = omega arith in
      slice_get_past (map (row_in s rs) (take used rows)) r le

  -- with the form as one row more
  pub rows_pushed : (rs' : List TermRecord) (form : RowRecord) → Stays n rs rs' → used < limit → map (row_in s rs') (take (used + 1) (slice_set rows used form)) ≡ map (row_in s rs) (take used rows) ++ row_in s rs' form ∷ []
  rows_pushed rs' form stays free =
      let room : used < length rows = omega (arith, f.lengths.rows, f.limited) in
      ap (map (row_in s rs')) (take_more_set rows used form room)
      ∙ (map-append (row_in s rs') (take used rows) (form ∷ []) ∙ ap (λ (l : List Row). l ++ row_in s rs' form ∷ []) (front_stays rs' stays))

  -- what the work on a branch asks of memory
  pub workable : (r number : ℕ) → r < used → number < 2 ^ length s.questions → Workable s rs n (slice_index_or rows r no_row) number work
  workable r number lt branch =
      record {
        sound = record { bank = f.bank; long = f.lengths.bank; row = (f.comparable r lt).inside };
        branch = branch;
        labelled = omega (arith, f.lengths.work);
      }
