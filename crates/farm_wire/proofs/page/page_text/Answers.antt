use Rattle.std.proofs.Common.{◌∙◌, ℕ, List, [], ap}
use Rattle.farm_wire.proofs.Written.{behind, joined, joined-page, page_pieces, put_behind-joined}
use Rattle.farm_wire.specs.Members.{standing_word}
use Rattle.farm_wire.proofs.page.page_text.Goals as goal

pub returns : goal.returns
returns c =
    let page = c.args.page.now in
    let word = standing_word page.standing in
    let untestable = c.as_slice-2.result.now in
    let text : (shares word test untestable : List ℕ) → List (List ℕ) =
    λ shares word test untestable. page_pieces page shares word test untestable in
    c.into_text.ensures
    ∙ behind _ c.in_ok-put-2.ensures
    (behind _ c.in_ok-put_number-5.ensures (behind _ c.in_ok-put_positions.ensures (behind _ c.in_ok-put_text-2.ensures
    (behind _ c.in_ok-put_text.ensures
    (behind _ c.in_ok-put_numbers.ensures (behind _ c.in_ok-put.ensures (behind _ c.in_ok-put_number-4.ensures
    (behind _ c.in_ok-put_number-3.ensures (behind _ c.in_ok-put_culprit.ensures (behind _ c.in_ok-put_number-2.ensures
    (behind _ c.in_ok-put_commit_if.ensures (behind _ c.in_ok-put_number.ensures c.in_ok-out.ensures))))))))))))
    ∙ put_behind-joined [] (text c.as_slice.result.now c.standing_word.result.now c.text.result.now untestable)
    ∙ ap (λ it. joined (text it c.standing_word.result.now c.text.result.now untestable)) c.as_slice.ensures
    ∙ ap (λ it. joined (text page.shares it c.text.result.now untestable)) c.standing_word.ensures
    ∙ ap (λ it. joined (text page.shares word it untestable)) c.text.ensures.text
    ∙ ap (λ it. joined (text page.shares word page.test it)) c.as_slice-2.ensures
    ∙ joined-page page
