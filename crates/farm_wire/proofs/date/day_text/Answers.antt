use Rattle.farm_wire.proofs.Calendar.{date_text-day}
use Rattle.std.proofs.Common.{◌∙◌}
use Rattle.std.proofs.lemmas.Result.{IfOk-weaker}
use Rattle.farm_wire.proofs.date.day_text.Goals as goal

pub returns : goal.returns
returns c =
    IfOk-weaker c.date_text.result _ _
    (λ text found. found.2 ∙ date_text-day found.0 c.args.day c.requires found.1) c.date_text.ensures.date
