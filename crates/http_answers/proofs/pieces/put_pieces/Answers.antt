use Rattle.std.proofs.Common.{Result, Ok, Err, OnErr}
use Rattle.http_answers.proofs.Joined.{stopped-front}
use Rattle.http_answers.proofs.pieces.put_pieces.Goals as goal

on_err : {A E : Type 0} (r : Result A E) {P : Type 0} → P → OnErr r P
on_err (Ok x) p = tt
on_err (Err e) p = p

pub returns-in_err-put_all-clause-stopped : goal.returns-in_err-put_all-clause-stopped
returns-in_err-put_all-clause-stopped g c =
    let stop = c.in_err-put_all.ensures.stopped in
    let pieces = c.args.pieces.now in
    on_err c.from_residual.result
    (stopped-front pieces c.loop-piece.piece-index stop.0 _ _ _ _ c.loop-piece-test.true stop.1 c.loop-piece.invariant.appended stop.2)
