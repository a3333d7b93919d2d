use Rattle.std.proofs.Common.{sym, ◌∙◌, arith}
use Rattle.common_types.proofs.Values.{digits_behind-past}
use Rattle.common_types.proofs.decimals.value_up_to.Goals as goal

pub returns-then-most-number : goal.returns-then-most-number
returns-then-most-number c =
    sym (digits_behind-past c.args.most c.loop-digits.number c.loop-digits.digits.now c.in-len1-up.len_at_least
    (omega (arith, c.if-most-number.true, c.value_of.ensures.value)))
    ∙ c.loop-digits.invariant.value
