use Rattle.std.proofs.Common.{◌≡◌, ℕ, List, Ok, codes, length, sym, refl, ap, ◌∙◌, arith, rules}
use Rattle.std.proofs.lemmas.Slice.Eq.{HasBytesAt, text_from_reads}
use Rattle.script.specs.Keywords.{keyword_of}
use Rattle.script.specs.declared.keyword.Keyword.{Keyword}
use Rattle.script.proofs.keyword.KeywordTryFromRefSliceU8.try_from.Goals as goal

reads : (k : Keyword) (word name : List ℕ) → keyword_of name ≡ Ok k → length word ≡ length name → HasBytesAt word 0 name → Ok k ≡ keyword_of word
reads k word name is long bytes = sym (ap keyword_of (text_from_reads word name long bytes) ∙ is)

pub returns-in-take : goal.returns-in-take
returns-in-take c = reads _ c.args.word.now (codes "take") refl (omega arith) (search rules)

pub returns-in-give : goal.returns-in-give
returns-in-give c = reads _ c.args.word.now (codes "give") refl (omega arith) (search rules)

pub returns-in-strike : goal.returns-in-strike
returns-in-strike c = reads _ c.args.word.now (codes "strike") refl (omega arith) (search rules)

pub returns-in-merge : goal.returns-in-merge
returns-in-merge c = reads _ c.args.word.now (codes "merge") refl (omega arith) (search rules)

pub returns-in-keep : goal.returns-in-keep
returns-in-keep c = reads _ c.args.word.now (codes "keep") refl (omega arith) (search rules)

pub returns-in-verdict : goal.returns-in-verdict
returns-in-verdict c = reads _ c.args.word.now (codes "verdict") refl (omega arith) (search rules)

pub returns-in-open : goal.returns-in-open
returns-in-open c = reads _ c.args.word.now (codes "open") refl (omega arith) (search rules)
