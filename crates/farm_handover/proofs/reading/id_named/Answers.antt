use Rattle.std.proofs.Common.{◌∙◌}
use Rattle.farm_handover.proofs.Ids.{id_named-none, id_named-some}
use Rattle.farm_handover.proofs.reading.id_named.Goals as goal

pub returns-in_err-ok : goal.returns-in_err-ok
returns-in_err-ok c =
    c.from_residual.ensures
    ∙ id_named-none c.from_hex.result c.args.word.now c.from_hex.ensures c.in_err-ok.ensures.value

pub returns : goal.returns
returns c =
    id_named-some c.from_hex.result c.args.word.now c.in_ok-ok.field-0 c.of.result c.from_hex.ensures
    c.in_ok-ok.ensures.value c.of.ensures
