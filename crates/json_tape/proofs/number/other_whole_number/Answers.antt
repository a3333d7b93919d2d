use Rattle.std.proofs.Common.{drop, false, option_and_then, sym, ap, ◌∙◌}
use Rattle.fast_float.specs.Text.{scan}
use Rattle.serde_json.specs.Find.{as_u64}
use Rattle.serde_json.specs.Read.{number_from}
use Rattle.json_tape.proofs.Numbers.{as_u64-minus, number_of-digits, number_of-minus}
use Rattle.json_tape.proofs.number.other_whole_number.Goals as goal

pub returns-then-has_minus : goal.returns-then-has_minus
returns-then-has_minus c =
    let s = c.args.bytes.now in
    sym
    (ap (option_and_then as_u64) (number_of-minus s (sym c.if-has_minus.ensures.value))
    ∙ as_u64-minus (scan (drop 1 s)))

pub returns-else-has_minus : goal.returns-else-has_minus
returns-else-has_minus c =
    let s = c.args.bytes.now in
    c.whole_numeral.ensures
    ∙ ap (λ p. option_and_then as_u64 (number_from false p)) c.scan.ensures.parts
    ∙ ap (option_and_then as_u64) (sym (number_of-digits s (sym c.if-has_minus.ensures.value)))
