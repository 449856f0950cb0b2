use Rattle.std.proofs.Common.{sym}
use Rattle.reader.proofs.Progressing.{unfinished, overlong, ended}
use Rattle.reader.proofs.reading.finish.Goals as goal

pub returns-then-not-is_complete : goal.returns-then-not-is_complete
returns-then-not-is_complete c =
    unfinished c.args.bytes.now c.args.place c.args.draft.now c.args.records.now c.requires.read c.requires.end (sym c.if-not-is_complete.ensures)

pub returns-then-place-bytes : goal.returns-then-place-bytes
returns-then-place-bytes c =
    overlong c.args.bytes.now c.args.place c.args.draft.now c.args.records.now c.requires.read c.requires.end (sym c.if-not-is_complete.ensures) c.if-place-bytes.true

pub returns : goal.returns
returns c =
    ended c.args.bytes.now c.args.place c.args.draft.now c.args.records.now c.requires.read c.requires.end (sym c.if-not-is_complete.ensures) c.if-place-bytes.false
