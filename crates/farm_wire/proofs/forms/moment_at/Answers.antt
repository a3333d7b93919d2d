use Rattle.std.proofs.Common.{◌∙◌}
use Rattle.farm_wire.proofs.MadeValues.{moment_at-result}
use Rattle.farm_wire.proofs.forms.moment_at.Goals as goal

pub returns : goal.returns
returns c = c.ok.ensures.value ∙ moment_at-result c.of.result c.args.ms c.of.ensures.taken c.of.ensures.kept
