use Rattle.std.proofs.Common.{Result, Ok, Err, OnErr, ap}
use Rattle.farm_script.proofs.Answering.{fails-first, handed_on, stops-unshown}
use Rattle.farm_script.proofs.answer_line.answer_line.Goals as goal

on_err : {A E : Type 0} (r : Result A E) {P : Type 0} → P → OnErr r P
on_err (Ok a) p = tt
on_err (Err e) p = p

pub returns-in_err-reply-clause-stops : goal.returns-in_err-reply-clause-stops
returns-in_err-reply-clause-stops g c =
    on_err c.from_residual.result (stops-unshown _ _ _ _ _ c.in_err-reply.ensures.err)

pub returns-in_err-reply-clause-fails : goal.returns-in_err-reply-clause-fails
returns-in_err-reply-clause-fails g c is =
    let same = handed_on _ _ _ c.from_residual.ensures.1 is in
    let undecided = c.in_err-reply.ensures.undecided (ap (λ f. Err f) same) in
    fails-first _ _ _ _ _ _ undecided.0 undecided.1
