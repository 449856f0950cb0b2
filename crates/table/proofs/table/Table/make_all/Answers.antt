use Rattle.std.proofs.Common.{◌≡◌, ◌≤◌, take, map, length, refl, ◌∙◌, arith, slice_index_or}
use Rattle.std.proofs.lemmas.List.{length-map, take_all}
use Rattle.rules.specs.declared.Entry.{Entry}
use Rattle.rules.specs.declared.Answer.TheVariants.{Taken}
use Rattle.rules.specs.declared.Call.TheVariants.{Take}
use Rattle.table.specs.Answers.{answer_of, call_of}
use Rattle.table.proofs.Running.{calls_stay, run_more, keeps_more}
use Rattle.table.proofs.table.Table.make_all.Goals as goal

pub loop-k-init : goal.loop-k-init
loop-k-init c =
    (refl, (λ s limit at stands. (at, refl, stands)), record { bank = refl; rows = refl; marks = refl; work = refl })

pub loop-k-preserved : goal.loop-k-preserved
loop-k-preserved c =
    let entries = c.loop-k.entries in
    let k = c.loop-k.k in
    let d : Entry = record { call = Take (record { row = 0; number = 0 }); answer = Taken (record { row = 0; number = 0 }) } in
    let entry : Entry = record { call = (slice_index_or entries k d).call; answer = c.make.result } in (
      calls_stay entries k entry d refl (omega arith) ∙ c.loop-k.invariant.0,
      run_more entries k entry d refl (omega arith) c.args.self.now c.loop-k.self c.make.new.self c.loop-k.invariant.1 c.make.ensures.performs,
      keeps_more c.args.self.now c.loop-k.self c.make.new.self c.loop-k.invariant.2 c.make.ensures.memory,
    )

pub returns : goal.returns
returns c =
    let entries = c.loop-k.entries in
    let k = c.loop-k.k in
    let past : length entries ≤ k = omega arith in
    let calls : take k (map call_of entries) ≡ map call_of entries = take_all k (map call_of entries) (omega (arith, length-map entries call_of)) in
    let answers : take k (map answer_of entries) ≡ map answer_of entries = take_all k (map answer_of entries) (omega (arith, length-map entries answer_of)) in
    record { calls = c.loop-k.invariant.0; played = rw (calls, answers) at c.loop-k.invariant.1; memory = c.loop-k.invariant.2 }
