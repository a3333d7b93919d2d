use Rattle.std.proofs.lemmas.Result.{on_ok_weaker}
use Rattle.farm_wire.specs.Replies.{run_data}
use Rattle.farm_wire.proofs.WrittenItems.{items-none, items-some, no-items}
use Rattle.farm_wire.proofs.runs.put_runs.Goals as goal

pub returns-in_ok-put_run-in-Some : goal.returns-in_ok-put_run-in-Some
returns-in_ok-put_run-in-Some c =
    on_ok_weaker c.put_more.result
    (λ put. items-some run_data c.args.out.now c.put_run.new.out c.put_more.new.out c.args.lines.now
    c.in-Some.more.now c.in-Some.first.now c.in-Some.ensures.cases.0 c.in_ok-put_run-in-Some.ensures put)
    c.put_more.ensures

pub returns-in-None : goal.returns-in-None
returns-in-None c =
    on_ok_weaker c.put.result
    (λ put. items-none run_data c.args.out.now c.put.new.self c.args.lines.now
    (no-items c.args.lines.now c.in-None.ensures.cases) put)
    c.put.ensures
