use Rattle.std.proofs.Common.{◌∙◌, ℕ, List, [], ap}
use Rattle.farm_wire.proofs.Written.{behind, joined, joined-reported, put_behind-joined, reported_pieces}
use Rattle.farm_wire.specs.Members.{culprit_in}
use Rattle.farm_wire.specs.Pieces.{fate_name}
use Rattle.farm_wire.proofs.reply.report_text.Goals as goal

pub returns : goal.returns
returns c =
    let a = c.args in
    let fate = a.fate.now in
    let verdict = a.verdict.now in
    let text : (name word : List ℕ) → List ℕ =
    λ name word. joined (reported_pieces a.run a.search a.standing name fate word verdict) in
    let word = c.standing_word.result.now in
    c.into_text.ensures
    ∙ behind _ c.in_ok-put.ensures (behind _ c.in_ok-put_text-3.ensures
    (behind _ c.in_ok-put_text-2.ensures (behind _ c.in_ok-put_number-2.ensures (behind _ c.in_ok-put_number.ensures
    (behind _ c.in_ok-put_text.ensures (behind _ c.in_ok-put_culprit.ensures c.in_ok-out.ensures))))))
    ∙ put_behind-joined [] (reported_pieces a.run a.search a.standing c.fate_name.result.now fate word verdict)
    ∙ ap (λ it. text it word) c.fate_name.ensures
    ∙ ap (λ it. text (fate_name (culprit_in a.standing)) it) c.standing_word.ensures
    ∙ joined-reported a.run a.search verdict fate a.standing
