use Rattle.std.proofs.Common.{◌∙◌, sym}
use Rattle.farm_wire.proofs.Quoted.{escape-plain}
use Rattle.farm_wire.proofs.text.is_plain.Goals as goal

pub returns : goal.returns
returns c = λ plain. escape-plain c.args.text.now (sym c.all_plain.ensures ∙ plain)
