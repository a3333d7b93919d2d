use Rattle.std.proofs.Common.{◌∙◌, [], ap}
use Rattle.farm_wire.proofs.Written.{behind, joined, put_behind-joined}
use Rattle.farm_wire.proofs.WrittenRuns.{joined-runs, runs_pieces}
use Rattle.farm_wire.proofs.runs.runs_text.Goals as goal

pub returns : goal.returns
returns c =
    let page = c.args.page.now in
    c.into_text.ensures
    ∙ behind _ c.in_ok-put-2.ensures (behind _ c.in_ok-put_number-2.ensures (behind _ c.in_ok-put_runs.ensures
    (behind _ c.in_ok-put.ensures (behind _ c.in_ok-put_number.ensures c.in_ok-out.ensures))))
    ∙ put_behind-joined [] (runs_pieces page c.as_slice.result.now)
    ∙ ap (λ runs. joined (runs_pieces page runs)) c.as_slice.ensures
    ∙ joined-runs page
