use Rattle.farm_state.specs.declared.turns.FarmTurns.TheInside.{Inside}
use Rattle.farm_state.proofs.Closing.{may-pop, popped-turns}
use Rattle.farm_state.proofs.turns.FarmTurns.pop.Goals as goal

pub undo-requires : goal.undo-requires
undo-requires c =
    may-pop c.self.inside c.args.self.now c.pop.new.self.items c.in-Some.change c.self.invariant c.self.view_is
    c.requires c.in-Some.ensures.items

pub invariant_of-self : goal.invariant_of-self
invariant_of-self c =
    let t : Inside = record { state = c.pop-2.new.self; active = c.undo.new.active; changes = c.pop.new.self } in
    popped-turns c.self.inside t c.args.self.now c.in-Some.change c.self.invariant c.self.view_is c.requires
    c.in-Some.ensures.items c.pop-2.ensures c.undo.ensures.turns c.undo.ensures.count
