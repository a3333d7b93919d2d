use Rattle.std.proofs.Common.{◌*◌, ◌^◌, ◌≤◌, arith}
use Rattle.weight_exact.proofs.Powering.{none_past}
use Rattle.weight_exact.proofs.power_table.powers_up_to.Goals as goal

pub returns-in_default-clause-all : goal.returns-in_default-clause-all
returns-in_default-clause-all c two e within fits =
    let last = c.loop-exponent._exponent in
    let over : 2 ^ 128 ≤ c.args.base ^ last * c.args.base =
    rw (← c.loop-exponent.invariant.power, ← c.from-factor.ensures) (omega (arith, c.in_default.ensures)) in
    omega (arith, none_past c.args.base last e two over fits)
