use Rattle.std.proofs.Common.{rules}
use Rattle.farm_drill.proofs.Crossing.{lent}
use Rattle.farm_drill.proofs.Passes.{joined-keeps, kept-by}
use Rattle.farm_drill.proofs.crew.+start_all.Goals as goal

pub spawn_with-requires-send-F : goal.spawn_with-requires-send-F
spawn_with-requires-send-F g t c κs within = search lent depth 20

pub start_all-rest-requires-clause-by_plan : goal.start_all-rest-requires-clause-by_plan
start_all-rest-requires-clause-by_plan g t c κs within =
    kept-by c.args.pass c.split-mine.new.pass c.split-mine.ensures.same c.requires.by_plan

pub start_all-rest-requires-in-Err-clause-by_plan : goal.start_all-rest-requires-in-Err-clause-by_plan
start_all-rest-requires-in-Err-clause-by_plan g t c κs within =
    kept-by c.args.pass c.split-mine.new.pass c.split-mine.ensures.same c.requires.by_plan

pub returns-in-Ok-clause-keeps : goal.returns-in-Ok-clause-keeps
returns-in-Ok-clause-keeps g t c =
    joined-keeps c.args.farm.now c.args.pass c.split-mine.new.pass c.split-mine.result c.start_all-rest.result.0
    c.join-given.result.0 c.join.new.pass c.split-mine.ensures.same c.split-mine.ensures.other
    c.start_all-rest.ensures.keeps (search rules) c.join.ensures.first c.join.ensures.second c.join.ensures.mine
    c.join.ensures.faults c.join.ensures.pending c.join.ensures.stake

pub returns-in-Err-clause-keeps : goal.returns-in-Err-clause-keeps
returns-in-Err-clause-keeps g t c =
    joined-keeps c.args.farm.now c.args.pass c.split-mine.new.pass c.split-mine.result
    c.start_all-rest-in-Err.result.0 c.spawn_with-given.result.0 c.join-in-Err.new.pass c.split-mine.ensures.same
    c.split-mine.ensures.other c.start_all-rest-in-Err.ensures.keeps (search rules) c.join-in-Err.ensures.first
    c.join-in-Err.ensures.second c.join-in-Err.ensures.mine c.join-in-Err.ensures.faults c.join-in-Err.ensures.pending
    c.join-in-Err.ensures.stake
