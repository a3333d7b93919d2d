use Rattle.std.proofs.Common.{◌∙◌}
use Rattle.std.proofs.lemmas.Result.{on_ok_weaker}
use Rattle.farm_wire.proofs.CommaTexts.{number-next, numbers-all}
use Rattle.farm_wire.proofs.text.JsonText.put_more_positions.Goals as goal

pub loop-position-preserved : goal.loop-position-preserved
loop-position-preserved c =
    let l = c.loop-position in
    number-next l.self c.put_number.new.self c.args.positions.now l.position-index _ c.loop-position-test.true
    c.in_ok-put_number.ensures
    ∙ l.invariant

pub returns : goal.returns
returns c =
    on_ok_weaker c.put.result
    (λ put. numbers-all c.args.self.now c.loop-position.self c.put.new.self c.args.positions.now
    c.loop-position.position-index c.loop-position-test.false c.loop-position.invariant put)
    c.put.ensures
