use Rattle.std.proofs.Common.{◌∙◌, [], ap}
use Rattle.farm_wire.proofs.Written.{behind, joined, joined-ordered, ordered_pieces, put_behind-joined}
use Rattle.farm_wire.proofs.reply.ordered.Goals as goal

pub returns : goal.returns
returns c =
    let a = c.args in
    c.into_text.ensures
    ∙ behind _ c.in_ok-put.ensures
    (behind _ c.in_ok-put_number-3.ensures (behind _ c.in_ok-put_number-2.ensures (behind _ c.in_ok-put_number.ensures
    (behind _ c.in_ok-put_text.ensures (behind _ c.in_ok-put_commit.ensures c.in_ok-out.ensures)))))
    ∙ put_behind-joined [] (ordered_pieces a.order a.commit.now a.search a.day c.as_str.result.now)
    ∙ ap (λ date. joined (ordered_pieces a.order a.commit.now a.search a.day date))
    (c.as_str.ensures.value ∙ c.in_ok-date.ensures)
    ∙ joined-ordered a.order a.commit.now a.search a.day
