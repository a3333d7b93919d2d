use Rattle.std.proofs.Common.{◌∙◌, []}
use Rattle.farm_wire.proofs.Written.{behind, cancelled_pieces, joined-cancelled, put_behind-joined}
use Rattle.farm_wire.proofs.reply.cancelled.Goals as goal

pub returns : goal.returns
returns c =
    c.into_text.ensures
    ∙ behind _ c.in_ok-put.ensures (behind _ c.in_ok-put_number.ensures c.in_ok-out.ensures)
    ∙ put_behind-joined [] (cancelled_pieces c.args.search)
    ∙ joined-cancelled c.args.search
