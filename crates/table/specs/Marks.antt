-- What an event makes of a branch's mark. Assumes nothing.
use Rattle.std.specs.Prelude.{Ok, Err, Result}
use Rattle.fault.specs.declared.TableFault.{TableFault}
use Rattle.fault.specs.declared.TableFault.TheVariants.{NotWaiting, NotOut}
use Rattle.rules.specs.declared.Mark.{Mark}
use Rattle.rules.specs.declared.Mark.TheVariants.{Waiting, Out, Struck, Merged, Kept}
use Rattle.table.specs.declared.mark.Event.{Event}
use Rattle.table.specs.declared.mark.Event.TheVariants.{Take, GiveBack, Strike, Merge, Keep}

-- a branch that is out becomes this; no other may
abbrev pub if_out : Mark → Mark → Result Mark TableFault
if_out new Out = Ok new
if_out new Waiting = Err NotOut
if_out new Struck = Err NotOut
if_out new Merged = Err NotOut
if_out new Kept = Err NotOut

-- a branch that is waiting becomes this; no other may
abbrev pub if_waiting : Mark → Mark → Result Mark TableFault
if_waiting new Waiting = Ok new
if_waiting new Out = Err NotWaiting
if_waiting new Struck = Err NotWaiting
if_waiting new Merged = Err NotWaiting
if_waiting new Kept = Err NotWaiting

abbrev pub next_mark : Event → Mark → Result Mark TableFault
next_mark Take mark = if_waiting Out mark
next_mark GiveBack mark = if_out Waiting mark
next_mark Strike mark = if_out Struck mark
next_mark Merge mark = if_out Merged mark
next_mark Keep mark = if_out Kept mark
