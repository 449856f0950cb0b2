-- What a line that begins with holds says.
use Rattle.std.proofs.Common.{◌≡◌, ℕ, ◌+◌, true, false, List, Ok, Err, Result, sym, refl, ap, ◌∙◌, subst, arith, codes, nat_eq}
use Rattle.std.specs.List.{starts_with}
use Rattle.std.specs.Prelude.{IfOk}
use Rattle.std.proofs.lemmas.Option.{same_Some}
use Rattle.fault.specs.declared.TableFault.{TableFault}
use Rattle.fault.specs.declared.TableFault.TheVariants.{BadMemory, UnsafeStart, NoSuchBranch, NotWaiting, NotOut, HeightAboveBound, NamesExhausted, TermsExhausted, Satisfiable, NoRenaming, UnsafeForm, RowLimit}
use Rattle.forms.specs.Rows.{first_row}
use Rattle.forms.specs.Safety.{Safe}
use Rattle.rules.specs.declared.Answer.{Answer}
use Rattle.rules.specs.declared.Branch.{Branch}
use Rattle.rules.specs.declared.Call.{Call}
use Rattle.rules.specs.declared.Call.TheVariants.{Verdict}
use Rattle.rules.specs.declared.Counts.{Counts}
use Rattle.rules.specs.declared.Outcome.{Outcome}
use Rattle.rules.specs.Promises.{Answered, AlwaysTrue}
use Rattle.rules.specs.Standing.{Standing, opening, waiting, out}
use Rattle.rules.specs.Working.{EndsAs, WorksFrom, WorkedThrough, verdict_of}
use Rattle.rules.specs.Working.WorksFrom.{finished, passed, settled, stopped}
use Rattle.rules.proofs.Accounts.{played_turns}
use Rattle.rules.proofs.Plants.{settles}
use Rattle.rules.proofs.Worked.{work_played}
use Rattle.sheet.specs.Lawful.{Lawful}
use Rattle.sheet.specs.System.{System}
use Rattle.verdict_text.specs.Checked.{SheetLine, row_limit}
use Rattle.verdict_text.specs.Checked.SheetLine.{unsafe_start, worked}
use Rattle.verdict_text.specs.Lines.{line_of}

pub if_ok : {A E : Type 0} (r : Result A E) (P Q : A → Type 0) → ((x : A) → P x → Q x) → IfOk r P → IfOk r Q
if_ok (Ok x) P Q f p = f x p
if_ok (Err e) P Q f p = tt

false_true : {X : Type 0} → false ≡ true → X
false_true {X} e = let z : ◌≡◌ {A = ℕ} 0 1 = cc in absurd (omega arith)

tell : Outcome → ℕ
tell Outcome.Holds = 0
tell (Outcome.Open w o) = 1
tell (Outcome.Unknown b) = 2
tell (Outcome.Full b) = 3

ends_otherwise : {X : Type 0} (b : Branch) (fault : TableFault) (outcome : Outcome) → EndsAs b fault outcome → outcome ≡ Outcome.Holds → X
unfolding tell
ends_otherwise b UnsafeForm outcome e is = absurd (omega (arith, ap tell (sym e ∙ is)))
ends_otherwise b NamesExhausted outcome e is = absurd (omega (arith, ap tell (sym e ∙ is)))
ends_otherwise b TermsExhausted outcome e is = absurd (omega (arith, ap tell (sym e ∙ is)))
ends_otherwise b RowLimit outcome e is = absurd (omega (arith, ap tell (sym e ∙ is)))
ends_otherwise b BadMemory outcome e is = absurd e
ends_otherwise b UnsafeStart outcome e is = absurd e
ends_otherwise b NoSuchBranch outcome e is = absurd e
ends_otherwise b NotWaiting outcome e is = absurd e
ends_otherwise b NotOut outcome e is = absurd e
ends_otherwise b HeightAboveBound outcome e is = absurd e
ends_otherwise b Satisfiable outcome e is = absurd e
ends_otherwise b NoRenaming outcome e is = absurd e

-- work that ends with holds leaves no branch waiting or out
none_left : {s : System} {limit : ℕ} {at after : Standing} {b : Branch} {calls : List Call} {answers : List Answer} {outcome : Outcome} → WorksFrom s limit at b calls answers outcome after → outcome ≡ Outcome.Holds → waiting after + out after ≡ 0
none_left {s} {limit} (finished at b answer outcome past is answered) holds =
    let a : Answer.Holds ≡ answer = same_Some Answer.Holds answer (ap verdict_of (sym holds) ∙ is) in
    (subst (λ z. Answered s limit at Verdict z at) (sym a) answered).1.1
none_left (passed at after b mark calls answers outcome is other rest) holds = none_left rest holds
none_left (settled at mid end after b made calls given answers outcome took offered rest) holds = none_left rest holds
none_left (stopped at mid after b made given fault outcome took offered gave ends) holds = ends_otherwise b fault outcome ends holds

-- and so the invariant is always true
holds_always : (s : System) → Lawful s → Safe s (first_row s) → (limit : ℕ) (calls : List Call) (answers : List Answer) (after : Standing) → WorkedThrough s limit (opening s) calls answers Outcome.Holds after → AlwaysTrue s
holds_always s lawful safe limit calls answers after work =
    settles s lawful safe limit calls after (played_turns s limit calls answers (opening s) after (work_played s limit (opening s) after calls answers Outcome.Holds work)) (none_left work refl)

-- no other line begins so
only_holds : (s : System) → Lawful s → Safe s (first_row s) → (line : List ℕ) (calls : List Call) (answers : List Answer) (outcome : Outcome) (after : Standing) → WorkedThrough s row_limit (opening s) calls answers outcome after → (c : Counts) → line ≡ line_of outcome c → starts_with nat_eq line (codes "holds") ≡ true → AlwaysTrue s
only_holds s lawful safe line calls answers Outcome.Holds after work c is begins = holds_always s lawful safe row_limit calls answers after work
only_holds s lawful safe line calls answers (Outcome.Open w o) after work c is begins = false_true (ap (λ l. starts_with nat_eq l (codes "holds")) (sym is) ∙ begins)
only_holds s lawful safe line calls answers (Outcome.Unknown b) after work c is begins = false_true (ap (λ l. starts_with nat_eq l (codes "holds")) (sym is) ∙ begins)
only_holds s lawful safe line calls answers (Outcome.Full b) after work c is begins = false_true (ap (λ l. starts_with nat_eq l (codes "holds")) (sym is) ∙ begins)

pub line_says : (s : System) → Lawful s → (line : List ℕ) → SheetLine s line → starts_with nat_eq line (codes "holds") ≡ true → AlwaysTrue s
line_says s lawful line (unsafe_start bad is) begins = false_true (ap (λ l. starts_with nat_eq l (codes "holds")) (sym is) ∙ begins)
line_says s lawful line (worked safe calls answers outcome after work is) begins = only_holds s lawful safe line calls answers outcome after work _ is begins
