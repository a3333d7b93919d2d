use Rattle.std.proofs.Common.{◌∙◌, [], ap}
use Rattle.farm_wire.proofs.Written.{behind, joined, joined-opened, opened_pieces, put_behind-joined}
use Rattle.farm_wire.proofs.reply.opened.Goals as goal

pub returns : goal.returns
returns c =
    let a = c.args in
    c.into_text.ensures
    ∙ behind _ c.in_ok-put.ensures (behind _ c.in_ok-put_text.ensures (behind _ c.in_ok-put_number-2.ensures
    (behind _ c.in_ok-put_culprit.ensures (behind _ c.in_ok-put_number.ensures c.in_ok-out.ensures))))
    ∙ put_behind-joined [] (opened_pieces a.search a.budget a.standing c.standing_word.result.now)
    ∙ ap (λ word. joined (opened_pieces a.search a.budget a.standing word)) c.standing_word.ensures
    ∙ joined-opened a.search a.budget a.standing
