-- What a proof leans on of a lawful sheet: its rules one by one, and how many things it has at most.
use Rattle.std.proofs.Common.{◌≡◌, ◌≤◌, Bool, true, length}
use Rattle.std.proofs.Math.Bool.{Bool-set}
use Rattle.std.proofs.Math.Logic.{∥∥₁_elim}
use Rattle.std.proofs.lemmas.Bool.{leb-true}
use Rattle.sheet.specs.Lawful.{Lawful}
use Rattle.sheet.specs.System.{System}

module _ (s : System) (lawful : ∥ Lawful s ∥₁) where
  -- a rule is an equation of truth values, so that one knows it
  of : (x : Bool) → (Lawful s → x ≡ true) → x ≡ true
  of x f = ∥∥₁_elim lawful (Bool-set x true) f

  pub lawful_sheet : Lawful s
  lawful_sheet =
      record {
        few = record { bits = of _ (λ l. l.few.bits); symbols = of _ (λ l. l.few.symbols); readings = of _ (λ l. l.few.readings); inputs = of _ (λ l. l.few.inputs); terms = of _ (λ l. l.few.terms); questions = of _ (λ l. l.few.questions); claims = of _ (λ l. l.few.claims); formulas = of _ (λ l. l.few.formulas); choices = of _ (λ l. l.few.choices) };
        each = record { symbols = of _ (λ l. l.each.symbols); readings = of _ (λ l. l.each.readings); terms = of _ (λ l. l.each.terms); questions = of _ (λ l. l.each.questions); claims = of _ (λ l. l.each.claims); formulas = of _ (λ l. l.each.formulas); choices = of _ (λ l. l.each.choices); next_bits = of _ (λ l. l.each.next_bits); next_readings = of _ (λ l. l.each.next_readings); invariant = of _ (λ l. l.each.invariant); bound = of _ (λ l. l.each.bound) };
      }

  pub few_bits : length s.bits ≤ 16
  few_bits = leb-true (length s.bits) 16 lawful_sheet.few.bits

  pub few_readings : length s.readings ≤ 6
  few_readings = leb-true (length s.readings) 6 lawful_sheet.few.readings

  pub few_inputs : s.inputs ≤ 4
  few_inputs = leb-true s.inputs 4 lawful_sheet.few.inputs

  pub few_questions : length s.questions ≤ 6
  few_questions = leb-true (length s.questions) 6 lawful_sheet.few.questions

  pub few_claims : length s.claims ≤ 4
  few_claims = leb-true (length s.claims) 4 lawful_sheet.few.claims

  pub few_formulas : length s.formulas ≤ 64
  few_formulas = leb-true (length s.formulas) 64 lawful_sheet.few.formulas

  pub few_choices : length s.choices ≤ 64
  few_choices = leb-true (length s.choices) 64 lawful_sheet.few.choices
