use Rattle.std.proofs.lemmas.Result.{err_from_is_err_and}
use Rattle.entry_codec.specs.Reading.{suspects_at}
use Rattle.entry_codec.proofs.Suspects.{goes_on, is_done}
use Rattle.audit_check.proofs.Suspects.{ends}
use Rattle.audit_check.proofs.parts.suspects.Goals as goal

pub loop-preserved : goal.loop-preserved
loop-preserved c =
    rw c.in_ok-push.ensures.items
    (goes_on c.loop.found.items c.args.count c.loop.counter c.loop.rest.now c.in_ok-one.one
    c.in_ok-one.behind.now
    (suspects_at c.args.count c.args.bytes.now) c.loop-test.true c.in_ok-one.ensures c.loop.invariant)

pub returns-in_err-one : goal.returns-in_err-one
returns-in_err-one c =
    let p = err_from_is_err_and c.from_residual.result c.from_residual.ensures.1 in
    rw (p.1, p.2)
    (ends c.in_err-one.field-0.0 c.loop.found.items c.args.count c.loop.counter c.loop.rest.now
    (suspects_at c.args.count c.args.bytes.now) c.loop-test.true c.in_err-one.ensures c.loop.invariant)

pub returns : goal.returns
returns c =
    is_done c.loop.found.items c.args.count c.loop.counter c.loop.rest.now
    (suspects_at c.args.count c.args.bytes.now)
    c.loop-test.false c.loop.invariant
