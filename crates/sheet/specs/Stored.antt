-- The transition system that the stored things of a sheet stand for. Assumes nothing.
use Rattle.std.specs.Prelude.{◌≡◌, ℕ, map, vec_items, Option}
use Rattle.sheet.specs.declared.parts.Parts.{Parts}
use Rattle.sheet.specs.declared.syntax.Formula.{Formula}
use Rattle.sheet.specs.declared.syntax.FormulaEntry.{FormulaEntry}
use Rattle.sheet.specs.declared.syntax.FormulaInfo.{FormulaInfo}
use Rattle.sheet.specs.declared.syntax.Term.{Term}
use Rattle.sheet.specs.declared.syntax.TermEntry.{TermEntry}
use Rattle.sheet.specs.declared.syntax.TermInfo.{TermInfo}
use Rattle.sheet.specs.Rules.{term_infos, formula_infos}
use Rattle.sheet.specs.System.{System}

abbrev pub term_in : TermEntry → Term
term_in e = e.term

abbrev pub term_info_in : TermEntry → TermInfo
term_info_in e = e.info

abbrev pub formula_in : FormulaEntry → Formula
formula_in e = e.formula

abbrev pub formula_info_in : FormulaEntry → FormulaInfo
formula_info_in e = e.info

abbrev pub system_of : Parts → Option ℕ → Option ℕ → System
system_of p v h = record { bits = vec_items p.bits; symbols = vec_items p.symbols; readings = vec_items p.readings; inputs = p.inputs; terms = map term_in (vec_items p.terms); questions = vec_items p.questions; claims = vec_items p.claims; formulas = map formula_in (vec_items p.formulas); choices = vec_items p.choices; invariant = v; bound = h }

-- what is stored with each term and formula is what the rules say of it
pub record Informed (p : Parts) : Type 0 where
  pub terms : map term_info_in (vec_items p.terms) ≡ term_infos (map term_in (vec_items p.terms))
  pub formulas : map formula_info_in (vec_items p.formulas) ≡ formula_infos (map formula_in (vec_items p.formulas))
