use Rattle.std.proofs.Common.{sym, ◌∙◌}
use Rattle.weight_exact.proofs.Powering.{pow_small}
use Rattle.weight_exact.proofs.power_table.PowerTable.power.Goals as goal

pub returns-then-exponent-gt0 : goal.returns-then-exponent-gt0
returns-then-exponent-gt0 c =
    rw (← c.self.view_is) (c.from.ensures ∙ sym (pow_small c.self.inside.base c.args.exponent c.if-self-lt2.true c.if-exponent-gt0.true))
