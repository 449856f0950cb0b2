use Rattle.folding.proofs.Descending.{unary_step, binary_first, binary_second, ternary_first, ternary_second, ternary_third}
use Rattle.folding.proofs.view.View.step_down.Goals as goal

pub returns-in-Unary : goal.returns-in-Unary
returns-in-Unary c =
    let s = unary_step c.args.self.now.records.now c.args.self.now.count.terms c.args.self.now.is_bank c.args.place c.requires.inside c.requires.high c.in-Unary.field-0 c.in-Unary.a c.in-Unary.is in
    record { lower = s.lower; way = s.way; one = s.one }

pub returns-then-self-a : goal.returns-then-self-a
returns-then-self-a c =
    let s = binary_first c.args.self.now.records.now c.args.self.now.count.terms c.args.self.now.is_bank c.args.place c.requires.inside c.requires.high c.in-Binary.field-0 c.in-Binary.a c.in-Binary.b c.in-Binary.is c.if-self-a.true in
    record { lower = s.lower; way = s.way; one = s.one }

pub returns-else-self-a : goal.returns-else-self-a
returns-else-self-a c =
    let s = binary_second c.args.self.now.records.now c.args.self.now.count.terms c.args.self.now.is_bank c.args.place c.requires.inside c.requires.high c.in-Binary.field-0 c.in-Binary.a c.in-Binary.b c.in-Binary.is c.if-self-a.false in
    record { lower = s.lower; way = s.way; one = s.one }

pub returns-then-self-a-2 : goal.returns-then-self-a-2
returns-then-self-a-2 c =
    let s = ternary_first c.args.self.now.records.now c.args.self.now.count.terms c.args.self.now.is_bank c.args.place c.requires.inside c.requires.high c.in-Ternary.field-0 c.in-Ternary.a c.in-Ternary.b c.in-Ternary.c c.in-Ternary.is c.if-self-a-2.true in
    record { lower = s.lower; way = s.way; one = s.one }

pub returns-then-self-b : goal.returns-then-self-b
returns-then-self-b c =
    let s = ternary_second c.args.self.now.records.now c.args.self.now.count.terms c.args.self.now.is_bank c.args.place c.requires.inside c.requires.high c.in-Ternary.field-0 c.in-Ternary.a c.in-Ternary.b c.in-Ternary.c c.in-Ternary.is c.if-self-a-2.false c.if-self-b.true in
    record { lower = s.lower; way = s.way; one = s.one }

pub returns-else-self-b : goal.returns-else-self-b
returns-else-self-b c =
    let s = ternary_third c.args.self.now.records.now c.args.self.now.count.terms c.args.self.now.is_bank c.args.place c.requires.inside c.requires.high c.in-Ternary.field-0 c.in-Ternary.a c.in-Ternary.b c.in-Ternary.c c.in-Ternary.is c.if-self-a-2.false c.if-self-b.false in
    record { lower = s.lower; way = s.way; one = s.one }
