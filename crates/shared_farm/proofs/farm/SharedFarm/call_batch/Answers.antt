use Rattle.std.proofs.Common.{List, subst}
use Rattle.farm_store.specs.declared.asking.Ask.{Ask}
use Rattle.shared_farm.specs.Turns.{IsTurn}
use Rattle.shared_farm.proofs.farm.SharedFarm.call_batch.Goals as goal

pub returns-in_default-clause-turn : goal.returns-in_default-clause-turn
returns-in_default-clause-turn g c =
    let alone = c.ask_alone-asked in
    subst (λ (l : List Ask). IsTurn g.D.Disk.count l alone.result.0 c.args.pass.now alone.new.pass)
    c.deref.ensures.value
    alone.ensures.had.turn
