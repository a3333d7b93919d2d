use Rattle.std.proofs.Common.{◌∙◌}
use Rattle.farm_wire.proofs.MadeValues.{id_named-result}
use Rattle.worker_agent.proofs.members.id_named.Goals as goal

pub returns : goal.returns
returns c =
    c.ok.ensures.value
    ∙ id_named-result c.read.result c.args.text.now c.read.ensures.taken c.read.ensures.bytes c.read.ensures.refused
