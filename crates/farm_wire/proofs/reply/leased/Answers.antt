use Rattle.std.proofs.Common.{◌∙◌, ℕ, List, [], ap}
use Rattle.farm_wire.proofs.Written.{behind, joined, joined-leased, leased_pieces, put_behind-joined}
use Rattle.farm_wire.specs.Replies.{stage_word}
use Rattle.farm_wire.proofs.reply.leased.Goals as goal

pub returns : goal.returns
returns c =
    let a = c.args in
    let text : List ℕ → List ℕ → List ℕ =
    λ word test. joined (leased_pieces a.run a.due.search a.due.position a.commit.now a.deadline word test)
    in
    c.into_text.ensures
    ∙ behind _ c.in_ok-put.ensures (behind _ c.in_ok-put_text-2.ensures (behind _ c.in_ok-put_text.ensures
    (behind _ c.in_ok-put_number-4.ensures (behind _ c.in_ok-put_number-3.ensures (behind _ c.in_ok-put_number-2.ensures
    (behind _ c.in_ok-put_number.ensures (behind _ c.in_ok-put_commit.ensures c.in_ok-out.ensures)))))))
    ∙ put_behind-joined []
    (leased_pieces a.run a.due.search a.due.position a.commit.now a.deadline c.stage_word.result.now c.text.result.now)
    ∙ ap (λ word. text word c.text.result.now) c.stage_word.ensures
    ∙ ap (λ test. text (stage_word a.due.stage) test) c.text.ensures.text
    ∙ joined-leased a.run a.due.search a.due.stage a.due.position a.commit.now a.test.now a.deadline
