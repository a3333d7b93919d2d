use Rattle.std.proofs.Common.{◌∙◌, ℕ, List, ◌++◌, ap}
use Rattle.std.proofs.lemmas.Result.{on_ok_weaker}
use Rattle.farm_types.specs.Moment.{moment_ms}
use Rattle.farm_wire.specs.Replies.{stage_word}
use Rattle.farm_wire.proofs.Written.{behind, joined, put_behind-joined}
use Rattle.farm_wire.proofs.WrittenRuns.{joined-run, run_pieces}
use Rattle.farm_wire.proofs.runs.put_run.Goals as goal

pub returns : goal.returns
returns c =
    let old = c.args.out.now in
    let line = c.args.line.now in
    let text : (leased : ℕ) → (stage worker : List ℕ) → List (List ℕ) =
    λ leased stage worker. run_pieces c.args.piece.now line leased stage worker in
    on_ok_weaker c.put-2.result
    (λ put.
    behind _ put (behind _ c.in_ok-put_text-2.ensures (behind _ c.in_ok-put_verdict.ensures
    (behind _ c.in_ok-put_text.ensures (behind _ c.in_ok-put_number-4.ensures (behind _ c.in_ok-put_reported.ensures
    (behind _ c.in_ok-put_number-3.ensures (behind _ c.in_ok-put_number-2.ensures (behind _ c.in_ok-put_fate.ensures
    (behind _ c.in_ok-put_number.ensures (behind _ c.in_ok-put_commit.ensures c.in_ok-put.ensures))))))))))
    ∙ put_behind-joined old (text c.ms.result c.stage_word.result.now c.text.result.now)
    ∙ ap (λ it. old ++ joined (text it c.stage_word.result.now c.text.result.now)) c.ms.ensures.number
    ∙ ap (λ it. old ++ joined (text (moment_ms line.leased) it c.text.result.now)) c.stage_word.ensures
    ∙ ap (λ it. old ++ joined (text (moment_ms line.leased) (stage_word line.stage) it)) c.text.ensures.text
    ∙ ap (λ it. old ++ it) (joined-run c.args.piece.now line))
    c.put-2.ensures
