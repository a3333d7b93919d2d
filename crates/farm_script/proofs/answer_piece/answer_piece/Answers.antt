use Rattle.std.proofs.Common.{Err, ap}
use Rattle.std.proofs.lemmas.Result.{err_from_is_err_and}
use Rattle.farm_script.proofs.Answering.{handed_on, reached-fail_first, reached-stop_first, reached-stop_before}
use Rattle.farm_script.proofs.answer_piece.answer_piece.Goals as goal

pub returns-in_err-end_line-clause-stops : goal.returns-in_err-end_line-clause-stops
returns-in_err-end_line-clause-stops g c =
    let p = err_from_is_err_and c.from_residual.result c.from_residual.ensures.1 in
    rw p.1 (reached-stop_first (c.in-Some.ensures.ended c.loop-end.line) c.loop-end.invariant.answered
    c.in_err-end_line.ensures.stops)

pub returns-in_err-end_line-clause-fails : goal.returns-in_err-end_line-clause-fails
returns-in_err-end_line-clause-fails g c is =
    let same = handed_on _ _ _ c.from_residual.ensures.1 is in
    reached-fail_first (c.in-Some.ensures.ended c.loop-end.line) c.loop-end.invariant.answered
    (c.in_err-end_line.ensures.fails (ap (λ f. Err f) same))

pub returns-in_err-hold-clause-stops : goal.returns-in_err-hold-clause-stops
returns-in_err-hold-clause-stops g c =
    let p = err_from_is_err_and c.from_residual-in_err-hold.result c.from_residual-in_err-hold.ensures.1 in
    rw p.1 (reached-stop_before c.loop-end.invariant.answered)
