use Rattle.std.proofs.Common.{◌≡◌, ◌+◌, ◌*◌, rules, arith}
use Rattle.notation.proofs.Numbers.{one_digit, two_digits, three_digits}
use Rattle.notation.proofs.words.number.Goals as goal

pub returns-then-first-eq0 : goal.returns-then-first-eq0
returns-then-first-eq0 c =
    let d = c.in_ok-first.ensures in one_digit c.in_ok-first.first _ _ d.0 d.1

pub returns-in_default : goal.returns-in_default
returns-in_default c =
    let d = c.in_ok-first.ensures in one_digit c.in_ok-first.first _ _ d.0 d.1

pub returns-in_default-digit : goal.returns-in_default-digit
returns-in_default-digit c =
    let d = c.in_ok-first.ensures in
    let e = c.in-Some.ensures in
    two_digits c.in_ok-first.first c.in-Some.second _ _ _ (omega arith) d.0 e.0 d.1 e.1

pub returns : goal.returns
returns c =
    let d = c.in_ok-first.ensures in
    let e = c.in-Some.ensures in
    let f = c.in-Some-digit.ensures in
    let is : c.in_ok-three.three ≡ (c.in_ok-first.first * 10 + c.in-Some.second) * 10 + c.in-Some-digit.third = search rules in
    rw is (three_digits c.in_ok-first.first c.in-Some.second c.in-Some-digit.third _ _ _ _ (omega arith) d.0 e.0 f.0 d.1 e.1 f.1)
