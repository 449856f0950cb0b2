-- Each table stands for a standing.
use Rattle.std.proofs.Common.{ℕ, List, Option, Some, None, refl, sym, subst}
use Rattle.sheet.specs.declared.sheet.Sheet.{Sheet}
use Rattle.sheet.specs.System.{System, nothing}
use Rattle.sheet.specs.View.{sheet_of}
use Rattle.terms.specs.declared.TermRecord.{TermRecord}
use Rattle.terms.specs.Bank.{Bank}
use Rattle.terms.proofs.Filing.{bank_none}
use Rattle.banks.proofs.Gaining.{holding_own}
use Rattle.rows.specs.declared.row.RowRecord.{RowRecord}
use Rattle.rules.specs.declared.Mark.{Mark}
use Rattle.table.specs.Memory.{FitsIfOpen}
use Rattle.table.specs.Standing.{IsOpenWith, AlwaysStands}

-- a table has a bank, and a sheet with which it is open
known : (o : Option Sheet) (kept : ℕ) (rs : List TermRecord) (n : ℕ) (rows : List RowRecord) (used : ℕ) (marks : List Mark) (work : List ℕ) → FitsIfOpen o rs n rows used kept marks work → (s : System) × (limit : ℕ) × IsOpenWith o kept s limit × Bank rs n
known None kept rs n rows used marks work f = (nothing, 0, tt, subst (Bank rs) (sym f.terms) (bank_none rs))
known (Some sheet) kept rs n rows used marks work f = (sheet_of sheet, kept, (refl, refl), f.bank)

pub always_stands : AlwaysStands
always_stands t =
    let k = known t.sheet t.limit t.bank.now t.count.terms t.rows.now t.used t.marks.now t.work.now t.fits in
    (k.0, k.1, _, record { opened = k.2; rows = refl; marks = refl; terms = holding_own t.bank.now t.count.terms k.3 })
