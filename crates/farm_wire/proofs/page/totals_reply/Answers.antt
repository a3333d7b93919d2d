use Rattle.std.proofs.Common.{◌∙◌, []}
use Rattle.farm_wire.proofs.Written.{behind, joined-totals, put_behind-joined, totals_pieces}
use Rattle.farm_wire.proofs.page.totals_reply.Goals as goal

pub returns : goal.returns
returns c =
    c.into_text.ensures
    ∙ behind _ c.in_ok-put.ensures (behind _ c.in_ok-put_number-8.ensures
    (behind _ c.in_ok-put_number-7.ensures (behind _ c.in_ok-put_number-6.ensures (behind _ c.in_ok-put_text.ensures
    (behind _ c.in_ok-put_number-5.ensures (behind _ c.in_ok-put_number-4.ensures (behind _ c.in_ok-put_number-3.ensures
    (behind _ c.in_ok-put_number-2.ensures (behind _ c.in_ok-put_number.ensures c.in_ok-out.ensures)))))))))
    ∙ put_behind-joined [] (totals_pieces c.args.kind.now c.args.totals.now)
    ∙ joined-totals c.args.kind.now c.args.totals.now
