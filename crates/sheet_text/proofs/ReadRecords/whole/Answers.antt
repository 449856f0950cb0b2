use Rattle.std.proofs.Common.{◌++◌, length, string_bytes, refl, ap, ◌∙◌}
use Rattle.sheet.specs.Format.{written_all}
use Rattle.sheet_text.specs.Lines.{lines_of}
use Rattle.sheet_text.proofs.Places.{ok_glued}
use Rattle.sheet_text.proofs.ReadRecords.whole.Goals as goal

pub returns : goal.returns
returns c =
    let items = c.args.self.now.records.now in
    ok_glued (lines_of 0 0 items) (string_bytes c.push_records.new.text) (string_bytes c.push_line.new.text) (string_bytes c.writeln.new.self) (length items) c.in_ok-place.place (length items) (length (written_all items)) (c.in_ok-place.ensures.1 ∙ ap (λ l. l ++ lines_of 0 0 items) c.in_ok-text.ensures.bytes) c.in_ok-push_line.ensures c.in_ok-writeln.ensures.bytes refl c.in_ok-place.ensures.0
