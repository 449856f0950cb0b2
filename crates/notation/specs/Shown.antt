-- Answers as they are printed. Assumes nothing.
use Rattle.std.specs.Prelude.{ℕ, List, ◌++◌, codes, decimal}
use Rattle.notation.specs.declared.Unread.{Unread}
use Rattle.notation.specs.declared.Unread.TheVariants.{NoTerm, NoSuchName, NoSuchSymbol, TwoArities, NoArgumentEnd, NoSign, LineGoesOn, TooManyTerms, Memory}
use Rattle.notation.specs.declared.document.Stopped.{Stopped}
use Rattle.notation.specs.declared.document.Answer.{Answer}
use Rattle.notation.specs.declared.document.Answer.TheVariants.{Impossible, Possible, Full, Unreadable}

abbrev pub reason_text : Unread → List ℕ
reason_text NoTerm = codes "a term is expected"
reason_text NoSuchName = codes "a name is x0 to x31"
reason_text NoSuchSymbol = codes "a symbol is s0 to s255"
reason_text TwoArities = codes "a symbol is used with two arities"
reason_text NoArgumentEnd = codes "a comma or a closing bracket is expected"
reason_text NoSign = codes "' = ' or ' # ' is expected"
reason_text LineGoesOn = codes "the line should end here"
reason_text TooManyTerms = codes "more than 512 terms"
reason_text Memory = codes "no memory is left"

abbrev pub stopped_text : Stopped → List ℕ
stopped_text s = codes "line " ++ (decimal s.line ++ (codes ": " ++ reason_text s.why))

abbrev pub answer_text : Answer → List ℕ
answer_text (Impossible j) = codes "impossible joins " ++ decimal j
answer_text Possible = codes "possible"
answer_text Full = codes "full"
answer_text (Unreadable s) = stopped_text s
