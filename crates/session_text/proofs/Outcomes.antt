-- What comes of an opening and its calls.
use Rattle.std.proofs.Common.{◌≡◌, ℕ, List, length, Some, None, Option, subst}
use Rattle.std.proofs.Math.Seq.{take-length}
use Rattle.fault.specs.declared.TableFault.{TableFault}
use Rattle.fault.specs.declared.TableFault.TheVariants.{BadMemory, UnsafeStart, NoSuchBranch, NotWaiting, NotOut, HeightAboveBound, NamesExhausted, TermsExhausted, Satisfiable, NoRenaming, UnsafeForm, RowLimit}
use Rattle.sheet.specs.System.{System}
use Rattle.rules.specs.declared.Answer.{Answer}
use Rattle.rules.specs.declared.Call.{Call}
use Rattle.rules.specs.declared.Counts.{Counts}
use Rattle.rules.specs.Calls.{ComesTo}
use Rattle.rules.specs.Laws.{Played}
use Rattle.rules.specs.Promises.{Promises, Opens, OpenRefused}
use Rattle.rules.specs.Standing.{Standing, counts_of, unopened}
use Rattle.session_text.specs.Session.{Worked, opened, refused}

-- memory that fits refuses nothing
still_refused : (s : System) (limit : ℕ) (fits : Type 0) (e : TableFault) → fits → OpenRefused s limit fits e → OpenRefused s limit (Unit {0}) e
still_refused s limit fits BadMemory f r = λ h. r (h.0, h.1, f)
still_refused s limit fits UnsafeStart f r = (r.0, r.1, tt, r.3)
still_refused s limit fits NoSuchBranch f r = r
still_refused s limit fits NotWaiting f r = r
still_refused s limit fits NotOut f r = r
still_refused s limit fits HeightAboveBound f r = r
still_refused s limit fits NamesExhausted f r = r
still_refused s limit fits TermsExhausted f r = r
still_refused s limit fits Satisfiable f r = r
still_refused s limit fits NoRenaming f r = r
still_refused s limit fits UnsafeForm f r = r
still_refused s limit fits RowLimit f r = r

module _ (s : System) (limit : ℕ) (fits : Type 0) (calls : List Call) (answers : List Answer) (refusal : Option TableFault) (counts : Counts) where
  pub worked_through : refusal ≡ None → Opens s limit fits → Promises s limit calls answers → ((at : Standing) → ComesTo s limit calls at → counts ≡ counts_of at) → Worked s limit calls answers refusal counts
  worked_through none opens promises counted =
      let at = (promises.leads (length calls)).0 in
      let comes : ComesTo s limit calls at = subst (λ (cs : List Call). ComesTo s limit cs at) (take-length calls) (promises.leads (length calls)).1 in
      opened at none (opens.0, opens.1, tt, opens.3) promises comes (counted at comes)

  pub worked_refused : (e : TableFault) (at : Standing) → refusal ≡ Some e → fits → OpenRefused s limit fits e → Played s limit unopened calls answers at → counts ≡ counts_of at → Worked s limit calls answers refusal counts
  worked_refused e at some f r played counted = refused e at some (still_refused s limit fits e f r) played counted
