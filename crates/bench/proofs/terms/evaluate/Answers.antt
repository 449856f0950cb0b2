use Rattle.std.proofs.Common.{◌≡◌, ◌<◌, ◌≤◌, Bool, List, map, length, get_or, take, vec_items, ap, ◌∙◌, subst, arith}
use Rattle.sheet.specs.declared.syntax.TermEntry.{TermEntry}
use Rattle.sheet.specs.Stored.{term_in}
use Rattle.sheet.specs.Truth.{Meaning, term_value, term_values}
use Rattle.bench.specs.Values.{Due}
use Rattle.bench.proofs.Evaluating.{informed_at, value_at, value_past, pass_new, pass_over, beq_due, beq_other}
use Rattle.bench.proofs.terms.evaluate.Goals as goal
use Rattle.bench.proofs.terms.evaluate.Goals.{in-None, in-Some+then-entry-late, in-Some+else-entry-late}

pub loop-k-preserved : goal.loop-k-preserved
loop-k-preserved g c =
    let m : Meaning = g.M.Model.meaning c.args.model.now in
    let entries = vec_items c.args.sheet.now.parts.terms in
    let terms = map term_in entries in
    let all = term_values m c.args.readings.now c.args.inputs.now terms in
    let k = c.loop-k.k in
    let inside : k < length c.loop-k.values = omega arith in
    let old = c.loop-k.invariant in
    let here = c.as_slice-terms.ensures.value in
    elim c.match-get.branch [
      | in-None w ↦
          let out : length entries ≤ k = subst (λ (l : List TermEntry). length l ≤ k) here w.in-None.ensures.lookup.3 in
          let p = pass_new c.args.late terms all c.loop-k.values c.match-get.values k inside old.past old.early 0 w.values-is (value_past m c.args.readings.now c.args.inputs.now entries k out) in
          record { past = p.0; early = p.1; kept = (ap g.M.Model.meaning w.model-is ∙ old.kept.0, ap g.M.Model.lenders w.model-is ∙ old.kept.1) }
      | in-Some+then-entry-late w ↦
          let entry = w.in-Some.entry.now in
          let l : k < length entries = subst (λ (l : List TermEntry). k < length l) here w.in-Some.ensures.lookup.3.0 in
          let got : entry ≡ get_or entries k entry = subst (λ (l : List TermEntry). entry ≡ get_or l k entry) here w.in-Some.ensures.lookup.1 in
          let due = subst (λ (b : Bool). Due c.args.late b) (informed_at c.args.sheet.now.parts c.args.sheet.now.informed k entry l got) (beq_due c.args.late entry.info.has_input w.if-entry-late.true) in
          let is = value_at m c.args.readings.now c.args.inputs.now entries c.args.late c.loop-k.values k w.value_of_term.result entry l got due (w.value_of_term.ensures.answer ∙ ap (λ (f : Meaning). term_value f c.args.readings.now c.args.inputs.now (take k c.loop-k.values) entry.term) old.kept.0) old.past in
          let p = pass_new c.args.late terms all c.loop-k.values c.match-get.values k inside old.past old.early w.value_of_term.result w.values-is is in
          record { past = p.0; early = p.1; kept = (ap g.M.Model.meaning w.model-is ∙ (w.value_of_term.ensures.kept.0 ∙ old.kept.0), ap g.M.Model.lenders w.model-is ∙ (w.value_of_term.ensures.kept.1 ∙ old.kept.1)) }
      | in-Some+else-entry-late w ↦
          let entry = w.in-Some.entry.now in
          let l : k < length entries = subst (λ (l : List TermEntry). k < length l) here w.in-Some.ensures.lookup.3.0 in
          let got : entry ≡ get_or entries k entry = subst (λ (l : List TermEntry). entry ≡ get_or l k entry) here w.in-Some.ensures.lookup.1 in
          let other = subst (λ (b : Bool). b ≡ c.args.late → ⊥) (informed_at c.args.sheet.now.parts c.args.sheet.now.informed k entry l got) (beq_other c.args.late entry.info.has_input w.if-entry-late.false) in
          let p = pass_over c.args.late terms all c.loop-k.values c.match-get.values k inside old.past old.early w.values-is other in
          record { past = p.0; early = p.1; kept = (ap g.M.Model.meaning w.model-is ∙ old.kept.0, ap g.M.Model.lenders w.model-is ∙ old.kept.1) }
    ]
