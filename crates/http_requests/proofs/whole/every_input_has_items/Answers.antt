use Rattle.std.proofs.Common.{arith}
use Rattle.http_requests.proofs.Inputs.{read-closed, read-ended, read-on, read-some}
use Rattle.http_requests.proofs.whole.every_input_has_items.Goals as goal

pub returns-then-request : goal.returns-then-request
returns-then-request c =
    read-closed c.args.bytes.now c.loop-request.from c.in-Request.request c.loop-request.invariant.so_far c.in-Request.ensures.says
    c.if-request.true

pub loop-request-smaller : goal.loop-request-smaller
loop-request-smaller c =
    let some = read-some c.args.bytes.now c.loop-request.from c.in-Request.request c.in-Request.ensures.says c.if-request.false in
    omega (arith, some.0, some.1, c.loop-request.invariant.within)

pub loop-request-preserved : goal.loop-request-preserved
loop-request-preserved c =
    let some = read-some c.args.bytes.now c.loop-request.from c.in-Request.request c.in-Request.ensures.says c.if-request.false in
    record {
      within = omega (arith, some.1, c.loop-request.invariant.within);
      so_far = read-on c.args.bytes.now c.loop-request.from c.in-Request.request c.loop-request.invariant.so_far c.in-Request.ensures.says
          c.if-request.false;
    }

pub returns-in-End : goal.returns-in-End
returns-in-End c = read-ended c.args.bytes.now c.loop-request.from c.loop-request.invariant.so_far c.in-End.ensures.says.1
