use Rattle.std.proofs.Common.{arith}
use Rattle.std.proofs.lemmas.Grind.{common_steps}
use Rattle.weight_exact.proofs.Powering.{pow-eq-zero}
use Rattle.weight_exact.proofs.power_table.PowerTable.vanishes.Goals as goal

pub returns-then-self-eq0 : goal.returns-then-self-eq0
returns-then-self-eq0 c =
    let zero = pow-eq-zero c.self.inside.base c.args.exponent in
    rw (← c.self.view_is) (grind (arith, common_steps, zero))

pub returns-else-self-eq0 : goal.returns-else-self-eq0
returns-else-self-eq0 c =
    let zero = pow-eq-zero c.self.inside.base c.args.exponent in
    rw (← c.self.view_is) (grind (arith, common_steps, zero))
