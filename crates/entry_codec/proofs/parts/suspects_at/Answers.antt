use Rattle.std.proofs.lemmas.Result.{err_from_is_err_and}
use Rattle.entry_codec.specs.Reading.{suspects_at}
use Rattle.entry_codec.proofs.Suspects.{ends, goes_on, is_done}
use Rattle.entry_codec.proofs.parts.suspects_at.Goals as goal

pub loop-preserved : goal.loop-preserved
loop-preserved c =
    rw c.in_ok-push.ensures.items
    (goes_on c.loop.suspects.items c.args.count c.loop.counter c.loop.rest.now c.in_ok-suspect.suspect
    c.in_ok-suspect.after.now
    (suspects_at c.args.count c.args.bytes.now) c.loop-test.true c.in_ok-suspect.ensures c.loop.invariant)

pub returns-in_err-suspect : goal.returns-in_err-suspect
returns-in_err-suspect c =
    let p = err_from_is_err_and c.from_residual.result c.from_residual.ensures.1 in
    rw (p.1, p.2)
    (ends c.in_err-suspect.field-0.0 c.loop.suspects.items c.args.count c.loop.counter c.loop.rest.now
    (suspects_at c.args.count c.args.bytes.now) c.loop-test.true c.in_err-suspect.ensures c.loop.invariant)

pub returns : goal.returns
returns c =
    is_done c.loop.suspects.items c.args.count c.loop.counter c.loop.rest.now
    (suspects_at c.args.count c.args.bytes.now)
    c.loop-test.false c.loop.invariant
