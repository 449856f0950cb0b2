-- Every fault with its number, its layer and its place, and the text that shows it. Assumes nothing.
use Rattle.std.specs.Prelude.{ℕ, List, ◌++◌, Some, None, codes, decimal, Option}
use Rattle.fault.specs.declared.Layer.{Layer}
use Rattle.fault.specs.declared.SheetFault.TheVariants.{Truncated, UnknownLetter, BadBody, TooMany, Repeated, Incomplete, TrailingBytes}
use Rattle.fault.specs.declared.TableFault.TheVariants.{BadMemory, UnsafeStart, NoSuchBranch, NotWaiting, NotOut, HeightAboveBound, NamesExhausted, TermsExhausted, Satisfiable, NoRenaming, UnsafeForm, RowLimit}
use Rattle.fault.specs.declared.BenchFault.TheVariants.{TooManySteps, InputsLength, StartsLength}
use Rattle.fault.specs.declared.ModelFault.TheVariants.{ZeroModulus}
use Rattle.fault.specs.declared.Place.{Place}
use Rattle.fault.specs.declared.Fault.{Fault}

pub record Values : Type 0 where
  pub number : ℕ
  pub layer : Layer
  pub place : Option Place

abbrev sheet : ℕ → Place → Values
sheet n p = record { number = n; layer = Layer.Sheet; place = Some p }

abbrev table : ℕ → Values
table n = record { number = n; layer = Layer.Table; place = None }

abbrev bench : ℕ → Values
bench n = record { number = n; layer = Layer.Bench; place = None }

abbrev model : ℕ → Values
model n = record { number = n; layer = Layer.Model; place = None }

abbrev pub values_of : Fault → Values
values_of (Fault.Sheet Truncated p) = sheet 1 p
values_of (Fault.Sheet UnknownLetter p) = sheet 2 p
values_of (Fault.Sheet BadBody p) = sheet 3 p
values_of (Fault.Sheet TooMany p) = sheet 4 p
values_of (Fault.Sheet Repeated p) = sheet 5 p
values_of (Fault.Sheet Incomplete p) = sheet 6 p
values_of (Fault.Sheet TrailingBytes p) = sheet 7 p
values_of (Fault.Table BadMemory) = table 8
values_of (Fault.Table UnsafeStart) = table 9
values_of (Fault.Table NoSuchBranch) = table 10
values_of (Fault.Table NotWaiting) = table 11
values_of (Fault.Table NotOut) = table 12
values_of (Fault.Table HeightAboveBound) = table 13
values_of (Fault.Table NamesExhausted) = table 14
values_of (Fault.Table TermsExhausted) = table 15
values_of (Fault.Table Satisfiable) = table 16
values_of (Fault.Table NoRenaming) = table 17
values_of (Fault.Table UnsafeForm) = table 18
values_of (Fault.Table RowLimit) = table 19
values_of (Fault.Bench TooManySteps) = bench 20
values_of (Fault.Bench InputsLength) = bench 21
values_of (Fault.Bench StartsLength) = bench 22
values_of (Fault.Model ZeroModulus) = model 23

-- `sheet fault N record R byte P`; the other layers' faults have no place
abbrev pub text_of : Fault → List ℕ
text_of (Fault.Sheet k p) = codes "sheet fault " ++ (decimal (values_of (Fault.Sheet k p)).number ++ (codes " record " ++ (decimal p.record ++ (codes " byte " ++ decimal p.byte))))
text_of (Fault.Table k) = codes "table fault " ++ decimal (values_of (Fault.Table k)).number
text_of (Fault.Bench k) = codes "bench fault " ++ decimal (values_of (Fault.Bench k)).number
text_of (Fault.Model k) = codes "model fault " ++ decimal (values_of (Fault.Model k)).number
