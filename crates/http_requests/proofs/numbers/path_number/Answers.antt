use Rattle.std.proofs.Common.{◌≡◌, Some, sym, ap, ◌∙◌, arith}
use Rattle.http_requests.proofs.PathNumbers.{path_number-some, path_number-zero, path_number-none}
use Rattle.http_requests.proofs.numbers.path_number.Goals as goal

pub returns-in_default : goal.returns-in_default
returns-in_default c = sym (path_number-none c.args.text.now c.in_default.ensures.none)

pub returns-then-number-eq0 : goal.returns-then-number-eq0
returns-then-number-eq0 c =
    let zero : c.in-Some.number ≡ 0 = omega (arith, c.if-number-eq0.true) in
    sym (path_number-zero c.args.text.now (c.in-Some.ensures.value ∙ ap Some zero))

pub returns-else-number-eq0 : goal.returns-else-number-eq0
returns-else-number-eq0 c =
    sym (path_number-some c.args.text.now c.in-Some.number c.in-Some.ensures.value (omega (arith, c.if-number-eq0.false)) (omega arith))
