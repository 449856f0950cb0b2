use Rattle.table.proofs.table.Table.make.Goals as goal

pub returns-in-Ok-clause-performs : goal.returns-in-Ok-clause-performs
returns-in-Ok-clause-performs c = rw c.in-Take.is c.in-Ok.ensures.performs

pub returns-in-Err-clause-performs : goal.returns-in-Err-clause-performs
returns-in-Err-clause-performs c = rw c.in-Take.is c.in-Err.ensures.performs

pub returns-in-Ok-give_back-clause-performs : goal.returns-in-Ok-give_back-clause-performs
returns-in-Ok-give_back-clause-performs c = rw c.in-GiveBack.is c.in-Ok-give_back.ensures.performs

pub returns-in-Err-give_back-clause-performs : goal.returns-in-Err-give_back-clause-performs
returns-in-Err-give_back-clause-performs c = rw (c.in-GiveBack.is, c.refused.ensures) c.in-Err-give_back.ensures.performs

pub returns-in-Ok-strike-clause-performs : goal.returns-in-Ok-strike-clause-performs
returns-in-Ok-strike-clause-performs c = rw c.in-Strike.is c.in-Ok-strike.ensures.performs

pub returns-in-Err-strike-clause-performs : goal.returns-in-Err-strike-clause-performs
returns-in-Err-strike-clause-performs c = rw (c.in-Strike.is, c.refused-in-Err-strike.ensures) c.in-Err-strike.ensures.performs

pub returns-in-Ok-merge-clause-performs : goal.returns-in-Ok-merge-clause-performs
returns-in-Ok-merge-clause-performs c = rw c.in-Merge.is c.in-Ok-merge.ensures.performs

pub returns-in-Err-merge-clause-performs : goal.returns-in-Err-merge-clause-performs
returns-in-Err-merge-clause-performs c = rw (c.in-Merge.is, c.refused-in-Err-merge.ensures) c.in-Err-merge.ensures.performs

pub returns-in-Ok-keep-clause-performs : goal.returns-in-Ok-keep-clause-performs
returns-in-Ok-keep-clause-performs c = rw c.in-Keep.is c.in-Ok-keep.ensures.performs

pub returns-in-Err-keep-clause-performs : goal.returns-in-Err-keep-clause-performs
returns-in-Err-keep-clause-performs c = rw (c.in-Keep.is, c.refused-in-Err-keep.ensures) c.in-Err-keep.ensures.performs

pub returns-in-Holds-clause-performs : goal.returns-in-Holds-clause-performs
returns-in-Holds-clause-performs c = rw c.in-Verdict.is c.in-Holds.ensures

pub returns-in-Open-clause-performs : goal.returns-in-Open-clause-performs
returns-in-Open-clause-performs c = rw c.in-Verdict.is c.in-Open.ensures
