use Rattle.std.proofs.Common.{◌≡◌, Bool, List, MatchBool, subst, sym}
use Rattle.farm_entry.specs.declared.entry.Entry.{Entry}
use Rattle.shared_farm.proofs.ByCommands.{by-whole}
use Rattle.farm_drill.specs.Ends.{RevertsEnded}
use Rattle.farm_drill.specs.Steps.{GivesOrder}
use Rattle.farm_drill.proofs.Orders.{order-says}
use Rattle.farm_drill.proofs.reverts.take_revert.Goals as goal

pub returns-clause-given : goal.returns-clause-given
returns-clause-given c =
    let H : List Entry = c.args.store.now.history in
    let new : List Entry = c.ask.new.store.history in
    subst (λ (b : Bool). MatchBool b (GivesOrder H c.args.key new) ((new ≡ H) × RevertsEnded new))
    (sym c.is_ok.ensures.value)
    (order-says H c.args.key c.in_ok-agent.agent c.next_revert_moment-at.result c.in_ok-given.given new c.requires.legal c.requires.by_commands
    c.requires.founded c.next_revert_moment-at.ensures c.requires.free (c.in_ok-given.ensures.says c.requires.decided))

pub returns-clause-by_commands : goal.returns-clause-by_commands
returns-clause-by_commands c = c.in_ok-given.ensures.by_commands
    (by-whole c.args.store.now.history c.args.store.now.pending c.requires.decided c.requires.by_commands)
