use Rattle.std.proofs.Common.{string_bytes}
use Rattle.sheet_text.specs.Lines.{numbers_of}
use Rattle.sheet_text.proofs.Places.{glued}
use Rattle.sheet_text.proofs.push_line.Goals as goal

pub returns : goal.returns
returns c =
    glued (string_bytes c.args.text.now) _ (numbers_of c.args.body.now) _ (string_bytes c.write.new.self) (string_bytes c.push_numbers.new.text) (string_bytes c.push_str.new.self) c.in_ok-write.ensures.bytes c.in_ok-push_numbers.ensures c.in_ok-push_str.ensures.bytes
