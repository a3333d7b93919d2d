use Rattle.drill_plan.proofs.Asked.{ask-is}
use Rattle.drill_plan.proofs.ask.planned_ask.Goals as goal

pub returns : goal.returns
returns c =
    ask-is c.args.search _ _ _ _ _ c.from.ensures c.in_ok-test_name.ensures c.commit_numbered.ensures
    c.in_ok-suspects_of.ensures c.planned_suspects-suspects.ensures
