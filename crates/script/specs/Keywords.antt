-- The first word of a line. Assumes nothing.
use Rattle.std.specs.Prelude.{ℕ, List, Ok, Err, codes, Result, if◌then◌else◌}
use Rattle.std.specs.Str.{bytes_eq}
use Rattle.script.specs.declared.error.Problem.{Problem}
use Rattle.script.specs.declared.error.Problem.TheVariants.{UnknownWord}
use Rattle.script.specs.declared.keyword.Keyword.{Keyword}
use Rattle.script.specs.declared.keyword.Keyword.TheVariants.{Take, Give, Strike, Merge, Keep, Verdict, Open}

abbrev pub name_of : Keyword → List ℕ
name_of Take = codes "take"
name_of Give = codes "give"
name_of Strike = codes "strike"
name_of Merge = codes "merge"
name_of Keep = codes "keep"
name_of Verdict = codes "verdict"
name_of Open = codes "open"

abbrev named : Keyword → List ℕ → Result Keyword Problem → Result Keyword Problem
named k word others = if bytes_eq word (name_of k) then Ok k else others

-- the keyword that the word is
abbrev pub keyword_of : List ℕ → Result Keyword Problem
keyword_of word = named Take word (named Give word (named Strike word (named Merge word (named Keep word (named Verdict word (named Open word (Err UnknownWord)))))))
