use Rattle.link_io.specs.Streams.{streams}
use Rattle.farm_script.specs.FarmRule.{farm_rule}
use Rattle.farm_script.specs.FoundedRun.{founding, in_memory}
use Rattle.farm_script.proofs.Completing.{completes-founded}
use Rattle.farm_script.proofs.Endings.{none-rose, stopped-at_first}
use Rattle.farm_script.proofs.founded.run_founded.Goals as goal

pub returns-in-Err-clause-ends : goal.returns-in-Err-clause-ends
returns-in-Err-clause-ends g c =
    let first = founding c.args.settings c.args.at in
    let before = streams g.S.Source g.K.Sink c.args.input.now c.args.output.now in
    (first, stopped-at_first farm_rule (in_memory before first))

pub returns-clause-completes : goal.returns-clause-completes
returns-clause-completes g c =
    let before = streams g.S.Source g.K.Sink c.args.input.now c.args.output.now in
    let after = streams g.S.Source g.K.Sink c.run_script.new.input c.run_script.new.output in
    completes-founded c.run_script.result before after c.run_script.ensures.completes
    (λ is. none-rose (c.run_script.ensures.store_fault is))
