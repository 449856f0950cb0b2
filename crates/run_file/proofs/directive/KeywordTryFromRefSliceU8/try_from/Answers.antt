use Rattle.std.proofs.Common.{◌≡◌, ℕ, List, Ok, codes, length, sym, refl, ap, ◌∙◌, arith, rules}
use Rattle.std.proofs.lemmas.Slice.Eq.{HasBytesAt, text_from_reads}
use Rattle.run_file.specs.Directive.{keyword_of}
use Rattle.run_file.specs.declared.directive.Keyword.{Keyword}
use Rattle.run_file.proofs.directive.KeywordTryFromRefSliceU8.try_from.Goals as goal

reads : (k : Keyword) (word name : List ℕ) → keyword_of name ≡ Ok k → length word ≡ length name → HasBytesAt word 0 name → Ok k ≡ keyword_of word
reads k word name is long bytes = sym (ap keyword_of (text_from_reads word name long bytes) ∙ is)

pub returns-in-listed : goal.returns-in-listed
returns-in-listed c = reads _ c.args.word.now (codes "listed") refl (omega arith) (search rules)

pub returns-in-affine : goal.returns-in-affine
returns-in-affine c = reads _ c.args.word.now (codes "affine") refl (omega arith) (search rules)

pub returns-in-entry : goal.returns-in-entry
returns-in-entry c = reads _ c.args.word.now (codes "entry") refl (omega arith) (search rules)

pub returns-in-curve : goal.returns-in-curve
returns-in-curve c = reads _ c.args.word.now (codes "curve") refl (omega arith) (search rules)

pub returns-in-start : goal.returns-in-start
returns-in-start c = reads _ c.args.word.now (codes "start") refl (omega arith) (search rules)

pub returns-in-steps : goal.returns-in-steps
returns-in-steps c = reads _ c.args.word.now (codes "steps") refl (omega arith) (search rules)

pub returns-in-inputs : goal.returns-in-inputs
returns-in-inputs c = reads _ c.args.word.now (codes "inputs") refl (omega arith) (search rules)
