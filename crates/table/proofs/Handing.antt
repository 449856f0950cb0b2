-- The answer of a call is that of the work on its branch, whether the ticket was spent or handed back.
use Rattle.std.proofs.Common.{◌≡◌, ℕ, Ok, Err, Result, refl}
use Rattle.fault.specs.declared.TableFault.{TableFault}
use Rattle.table.specs.declared.ticket.Ticket.{Ticket}
use Rattle.table.specs.Answers.{answer_of_offer, answer_of_strike, done, joined, settled}

pub done_settled : (ticket : Ticket) (made : Result Unit TableFault) → done made ≡ answer_of_offer (settled ticket made)
done_settled ticket (Ok u) = refl
done_settled ticket (Err e) = refl

pub joined_settled : (ticket : Ticket) (made : Result ℕ TableFault) → joined made ≡ answer_of_strike (settled ticket made)
joined_settled ticket (Ok joins) = refl
joined_settled ticket (Err e) = refl
