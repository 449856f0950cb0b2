-- Calls one after another, by the rules alone. Assumes nothing.
use Rattle.std.specs.Prelude.{◌≡◌, ℕ, ◌⊎◌, List, [], ◌∷◌, ◌++◌, Some}
use Rattle.fault.specs.declared.TableFault.{TableFault}
use Rattle.sheet.specs.System.{System}
use Rattle.terms.specs.Terms.{Term}
use Rattle.forms.specs.Rows.{Row}
use Rattle.rules.specs.declared.Branch.{Branch}
use Rattle.rules.specs.declared.Call.{Call}
use Rattle.rules.specs.declared.Call.TheVariants.{Take, GiveBack, Strike, Merge, Keep, Verdict}
use Rattle.rules.specs.declared.Mark.TheVariants.{Waiting, Out, Struck, Merged, Kept}
use Rattle.rules.specs.Standing.{Standing, mark_of, marked, all_waiting, opening}
use Rattle.rules.specs.Rules.{IsOut, Strikes, Merges, Keeps, TakeRefused, GiveBackRefused}
use Rattle.rules.specs.Rules.{StrikeRefused, MergeRefused, KeepRefused}

-- the standing after an accepted keep: the form is the next row, and its branches wait
abbrev pub kept_as : System → Standing → Branch → Row → List Term → Standing
kept_as s at b form seen =
    record {
      rows = at.rows ++ form ∷ [];
      marks = (marked at b Kept).marks ++ all_waiting s ∷ [];
      terms = seen;
    }

module _ (s : System) (limit : ℕ) where
  -- The rules bear the call: nothing that it needs is wanting, and its ground is there.
  abbrev pub Borne : Standing → Call → Type 0
  Borne at (Take b) = mark_of at b ≡ Some Waiting
  Borne at (GiveBack b) = IsOut at b
  Borne at (Strike b) = IsOut at b × Strikes s at b
  Borne at (Merge b target h) = IsOut at b × Merges s at b target h
  Borne at (Keep b h) =
      IsOut at b × ((form : Row) × (seen : List Term) × Keeps s at limit b h form seen)
  Borne at Verdict = Unit {0}

  -- a rule refuses the call, and this fault is the first
  abbrev pub RefusedBy : Standing → Call → TableFault → Type 0
  RefusedBy at (Take b) e = TakeRefused s at b e
  RefusedBy at (GiveBack b) e = GiveBackRefused s at b e
  RefusedBy at (Strike b) e = StrikeRefused s at b e
  RefusedBy at (Merge b target h) e = MergeRefused s at b target h e
  RefusedBy at (Keep b h) e = KeepRefused s at limit b h e
  RefusedBy at Verdict e = ⊥

  -- what an accepted call makes of what the calls had come to
  abbrev pub Makes : Standing → Call → Standing → Type 0
  Makes at (Take b) after = after ≡ marked at b Out
  Makes at (GiveBack b) after = after ≡ marked at b Waiting
  Makes at (Strike b) after = after ≡ marked at b Struck
  Makes at (Merge b target h) after = after ≡ marked at b Merged
  Makes at (Keep b h) after =
      (form : Row) × (seen : List Term) × Keeps s at limit b h form seen
      × (after ≡ kept_as s at b form seen)
  Makes at Verdict after = after ≡ at

  -- One call: accepted, and then it makes something of what the calls had come to; or refused, and
  -- then it changes nothing.
  abbrev pub Turn : Standing → Call → Standing → Type 0
  Turn at c after =
      (Borne at c × Makes at c after) ⊎ (((e : TableFault) × RefusedBy at c e) × (after ≡ at))

  -- one call after another
  abbrev pub Turns : Standing → List Call → Standing → Type 0
  Turns at [] after = after ≡ at
  Turns at (c ∷ cs) after = (mid : Standing) × Turn at c mid × Turns mid cs after

  -- what the calls come to, from the opening of the table on
  abbrev pub ComesTo : List Call → Standing → Type 0
  ComesTo calls at = Turns (opening s) calls at
