-- What the work on a branch answers is what the rules say of the branch.
use Rattle.std.proofs.Common.{◌≡◌, ℕ, ◌<◌, ◌≤◌, Bool, true, List, length, take, map, slice_index_or, Some, None, Ok, Err, inl, inr, sym, ap, ◌∙◌, subst}
use Rattle.std.specs.List.{slice_get}
use Rattle.fault.specs.declared.TableFault.{TableFault}
use Rattle.fault.specs.declared.TableFault.TheVariants.{NamesExhausted, TermsExhausted, Satisfiable, NoRenaming, UnsafeForm, RowLimit}
use Rattle.sheet.specs.System.{System}
use Rattle.sheet.specs.View.{sheet_of}
use Rattle.sheet.specs.declared.sheet.Sheet.{Sheet}
use Rattle.terms.specs.declared.TermRecord.{TermRecord}
use Rattle.banks.specs.Room.{Holding}
use Rattle.forms.specs.Rows.{Row}
use Rattle.rows.specs.declared.row.RowRecord.{RowRecord}
use Rattle.rows.specs.Records.{row_in}
use Rattle.candidates.specs.Outcome.{Kept}
use Rattle.rules.specs.declared.Branch.{Branch}
use Rattle.rules.specs.Standing.{Standing}
use Rattle.rules.specs.Rules.{IsOut, IsHigh, IsWithin, Strikes, Merges, Keeps, StrikeRefused, MergeRefused, KeepRefused}
use Rattle.rules.specs.Promises.{FewerJoins}
use Rattle.table.specs.declared.table.Table.{Table}
use Rattle.table.specs.Memory.{no_row, Fitting}
use Rattle.table.specs.Offers.{Refuted, Covered, Proposed}
use Rattle.table.specs.Standing.{Stands}
use Rattle.table.proofs.Following.{fitting, open_with, row_at, no_row_at, front_stays}
use Rattle.table.proofs.Staying.{holding_kept}

-- the row of a branch that is out
module _ (s : System) (at : Standing) (b : Branch) (row : Row) (here : slice_get at.rows b.row ≡ Some row) where
  pub struck : (joins : ℕ) → Refuted s row b.number at.terms (Ok joins) → Strikes s at b × FewerJoins s at b joins
  struck joins h = ((row, here, (h.0, h.1, h.2)), (row, here, (h.0, h.1, h.3)))

  pub not_struck : IsOut at b → (e : TableFault) → Refuted s row b.number at.terms (Err e) → StrikeRefused s at b e
  not_struck out NamesExhausted h = (out, (row, here, h))
  not_struck out TermsExhausted h = (out, (row, here, h))
  not_struck out Satisfiable h = (out, (row, here, h))
  not_struck out e h = absurd h

  module _ (target height : ℕ) (older : Row) (there : slice_get at.rows target ≡ Some older) (within : IsWithin s height) where
    pub merged : (done : Unit {0}) → Covered s row b.number older height at.terms (Ok done) → Merges s at b target height
    merged done h = record { older = older; is_row = there; within = within; form = h.0; seen = h.1; built = (row, here, h.2); roomy = h.3; takes = h.4 }

    pub not_merged : IsOut at b → (e : TableFault) → Covered s row b.number older height at.terms (Err e) → MergeRefused s at b target height e
    not_merged out NamesExhausted h = (older, (out, there, within), (row, here, h))
    not_merged out TermsExhausted (inl h) = (older, (out, there, within), inl (row, here, h))
    not_merged out TermsExhausted (inr h) = (older, (out, there, within), inr (h.0, h.1, (row, here, h.2), h.3))
    not_merged out NoRenaming h = (older, (out, there, within), (h.0, h.1, (row, here, h.2), h.3, h.4))
    not_merged out e h = absurd h

  module _ (limit height : ℕ) (is_full : Bool) (within : IsWithin s height) (rs' : List TermRecord) (n' : ℕ) where
    pub kept : (r : RowRecord) → length at.rows < limit → (h : Proposed s row b.number height is_full at.terms rs' n' (Ok r)) → Keeps s at limit b height (row_in s rs' r) h.0
    kept r free h = record { within = within; built = (row, here, h.1); roomy = h.2; safe = h.3; free = free }

    pub not_kept : IsOut at b → (is_full ≡ true → limit ≤ length at.rows) → (e : TableFault) → Proposed s row b.number height is_full at.terms rs' n' (Err e) → KeepRefused s at limit b height e
    not_kept out full NamesExhausted h = (out, within, (row, here, h))
    not_kept out full TermsExhausted (inl h) = (out, within, inl (row, here, h))
    not_kept out full TermsExhausted (inr h) = (out, within, inr (h.0, h.1, (row, here, h.2), h.3))
    not_kept out full UnsafeForm h = (out, within, (h.0, h.1, (row, here, h.2), h.3, h.4))
    not_kept out full RowLimit h = (out, within, (h.0.0, h.0.1, (row, here, h.0.2), h.0.3, h.0.4, full h.1))
    not_kept out full e h = absurd h

-- an open table, and what it stands for
module _ (t : Table) (s : System) (limit : ℕ) (at : Standing) (stands : Stands s limit t at) (sheet : Sheet) (is : t.sheet ≡ Some sheet) where
  pub same : sheet_of sheet ≡ s
  same = (open_with t.sheet sheet is t.limit s limit stands.opened).0

  pub same_limit : t.limit ≡ limit
  same_limit = (open_with t.sheet sheet is t.limit s limit stands.opened).1

  pub fit : Fitting s t.bank.now t.count.terms t.rows.now t.used t.limit t.marks.now t.work.now
  fit =
      subst (λ (x : System). Fitting x t.bank.now t.count.terms t.rows.now t.used t.limit t.marks.now t.work.now) same
      (fitting t.sheet sheet is t.bank.now t.count.terms t.rows.now t.used t.limit t.marks.now t.work.now t.fits)

  -- the rows of the standing
  pub row_here : (r : ℕ) → r < t.used → slice_get at.rows r ≡ Some (row_in s t.bank.now (slice_index_or t.rows.now r no_row))
  row_here r lt =
      ap (λ (rows : List Row). slice_get rows r) (sym stands.rows)
      ∙ row_at s t.bank.now t.count.terms t.rows.now t.used t.limit t.marks.now t.work.now fit r lt

  pub no_row_here : (r : ℕ) → t.used ≤ r → slice_get at.rows r ≡ None
  no_row_here r past =
      ap (λ (rows : List Row). slice_get rows r) (sym stands.rows)
      ∙ no_row_at s t.bank.now t.count.terms t.rows.now t.used t.limit t.marks.now t.work.now fit r past

  -- the height bound of the sheet is that of the system
  pub high : (h : ℕ) → sheet.bound < h → IsHigh s h
  high h above = (sheet.bound, ap (λ (x : System). x.bound) (sym same), above)

  pub not_high : (h : ℕ) → h ≤ sheet.bound → IsWithin s h
  not_high h below = (sheet.bound, ap (λ (x : System). x.bound) (sym same), below)

  -- while the bank's terms stay, so do the rows and the terms of the standing
  module _ (rs' : List TermRecord) (n' : ℕ) (kept : Kept t.bank.now t.count.terms rs' n') where
    pub rows_kept : map (row_in s rs') (take t.used t.rows.now) ≡ at.rows
    rows_kept = front_stays s t.bank.now t.count.terms t.rows.now t.used t.limit t.marks.now t.work.now fit rs' kept.records ∙ stands.rows

    pub terms_kept : Holding rs' n' at.terms
    terms_kept = holding_kept t.bank.now rs' t.count.terms n' at.terms stands.terms kept
