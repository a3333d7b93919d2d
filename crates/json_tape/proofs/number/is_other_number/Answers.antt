use Rattle.std.proofs.Common.{is_some, true, false, sym, ap, ◌∙◌}
use Rattle.serde_json.specs.Read.{number_from}
use Rattle.json_tape.proofs.Numbers.{number_of-digits, number_of-minus, scan-behind}
use Rattle.json_tape.proofs.number.is_other_number.Goals as goal

pub returns-then-has_minus : goal.returns-then-has_minus
returns-then-has_minus c =
    let s = c.args.bytes.now in
    c.is_below_zero.ensures
    ∙ ap (λ p. is_some (number_from true p)) (c.scan.ensures.parts ∙ scan-behind s)
    ∙ ap is_some (sym (number_of-minus s (sym c.if-has_minus.ensures.value)))

pub returns-else-has_minus : goal.returns-else-has_minus
returns-else-has_minus c =
    let s = c.args.bytes.now in
    c.is_above_zero.ensures
    ∙ ap (λ p. is_some (number_from false p)) c.scan-else-has_minus.ensures.parts
    ∙ ap is_some (sym (number_of-digits s (sym c.if-has_minus.ensures.value)))
