use Rattle.std.proofs.Common.{◌∙◌, ℕ, List, ◌++◌, ap}
use Rattle.std.proofs.lemmas.Result.{on_ok_weaker}
use Rattle.farm_wire.specs.Members.{standing_word}
use Rattle.farm_wire.specs.Pieces.{counted_name}
use Rattle.farm_wire.proofs.Written.{behind, joined, put_behind-joined}
use Rattle.farm_wire.proofs.WrittenSearches.{joined-search, search_pieces}
use Rattle.farm_wire.proofs.searches.put_search.Goals as goal

pub returns : goal.returns
returns c =
    let old = c.args.out.now in
    let line = c.args.line.now in
    let text : (name word test : List ℕ) → (opened : ℕ) → List (List ℕ) =
    λ name word test opened. search_pieces c.args.piece.now line name word test opened in
    let name = counted_name line.commit in
    let word = standing_word line.standing in
    on_ok_weaker c.put-2.result
    (λ put.
    behind _ put (behind _ c.in_ok-put_text-2.ensures (behind _ c.in_ok-put_number-5.ensures
    (behind _ c.in_ok-put_text.ensures (behind _ c.in_ok-put_number-4.ensures (behind _ c.in_ok-put_number_if.ensures
    (behind _ c.in_ok-put_number-3.ensures (behind _ c.in_ok-put_number-2.ensures (behind _ c.in_ok-put_culprit.ensures
    (behind _ c.in_ok-put_number.ensures (behind _ c.in_ok-put_commit_if.ensures c.in_ok-put.ensures))))))))))
    ∙ put_behind-joined old
    (text c.counted_name.result.now c.standing_word.result.now c.text.result.now c.ms.result)
    ∙ ap (λ it. old ++ joined (text it c.standing_word.result.now c.text.result.now c.ms.result)) c.counted_name.ensures
    ∙ ap (λ it. old ++ joined (text name it c.text.result.now c.ms.result)) c.standing_word.ensures
    ∙ ap (λ it. old ++ joined (text name word it c.ms.result)) c.text.ensures.text
    ∙ ap (λ it. old ++ joined (text name word line.test it)) c.ms.ensures.number
    ∙ ap (λ it. old ++ it) (joined-search c.args.piece.now line))
    c.put-2.ensures
