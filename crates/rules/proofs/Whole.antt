-- The three promises from answers that the rules give.
use Rattle.std.proofs.Common.{◌≡◌, ℕ, zero, suc, ◌+◌, List, [], ◌∷◌, take, Some, refl, subst}
use Rattle.std.specs.List.{slice_get}
use Rattle.std.proofs.lemmas.Option.{none-some, same_Some}
use Rattle.sheet.specs.System.{System}
use Rattle.rules.specs.declared.Answer.{Answer}
use Rattle.rules.specs.declared.Answer.TheVariants.{Holds}
use Rattle.rules.specs.declared.Call.{Call}
use Rattle.rules.specs.declared.Call.TheVariants.{Take, GiveBack, Strike, Merge, Keep, Verdict}
use Rattle.rules.specs.Standing.{Standing, opening, waiting, out}
use Rattle.rules.specs.Promises.{Answered}
use Rattle.rules.specs.Laws.{Played}
use Rattle.rules.specs.Safety.{Keeping}
use Rattle.rules.proofs.Accounts.{played_turns}
use Rattle.rules.proofs.Plants.{settles}
use Rattle.rules.proofs.Promised.{answered_promises}

-- where a call answers holds, no branch is waiting or out
settled_at : (s : System) (limit : ℕ) (at : Standing) (call : Call) (after : Standing) → Answered s limit at call Holds after → waiting at + out at ≡ 0
settled_at s limit at (Take b) after h = absurd h.1
settled_at s limit at (GiveBack b) after h = absurd h.1
settled_at s limit at (Strike b) after h = absurd h.1
settled_at s limit at (Merge b t h') after h = absurd h.1
settled_at s limit at (Keep b h') after h = absurd h.1
settled_at s limit at Verdict after h = h.1.1

-- where answer k is holds, the first k calls come to a standing with no branch waiting or out
held_at : (s : System) (limit : ℕ) (k : ℕ) (calls : List Call) (answers : List Answer) (from at : Standing) → Played s limit from calls answers at → slice_get answers k ≡ Some Holds → (mid : Standing) × Played s limit from (take k calls) (take k answers) mid × (waiting mid + out mid ≡ 0)
held_at s limit k [] [] from at h is = absurd (none-some Holds is)
held_at s limit zero (c ∷ cs) (a ∷ ans) from at h is =
    (from, refl, settled_at s limit from c h.0 (subst (λ z. Answered s limit from c z h.0) (same_Some a Holds is) h.1))
held_at s limit (suc k) (c ∷ cs) (a ∷ ans) from at h is =
    let w = held_at s limit k cs ans h.0 at h.2 is in (w.0, (h.0, h.1, w.1), w.2)
held_at s limit k [] (a ∷ ans) from at h is = absurd h
held_at s limit k (c ∷ cs) [] from at h is = absurd h

pub keeping : Keeping
keeping s lawful safe limit calls answers at h =
    answered_promises s limit calls answers at h (λ k is.
    let w = held_at s limit k calls answers (opening s) at h is in
    settles s lawful safe limit (take k calls) w.0 (played_turns s limit (take k calls) (take k answers) (opening s) w.0 w.1) w.2)
