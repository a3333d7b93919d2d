use Rattle.std.proofs.Common.{Bool, List, ap, subst, sym, ◌∙◌}
use Rattle.farm_store.specs.Answering.{CallSays}
use Rattle.common_types.specs.Rows.{IsOlder}
use Rattle.common_types.specs.declared.row.Row.{Row}
use Rattle.shared_farm.specs.Answered.{own_places}
use Rattle.shared_farm.proofs.Accounting.{IsTold, call-told}
use Rattle.shared_farm.proofs.Turning.{IsServed, IsServing, served-keeps, served-own, served-turn, serving-givable, taken-found}
use Rattle.shared_farm.proofs.farm.SharedFarm.call.Goals.{After-own_places-turn}
use Rattle.shared_farm.proofs.farm.SharedFarm.call.Goals as goal

-- the turn of the caller, when the store has answered
serving : (g : _) (c : After-own_places-turn g) → IsServing g.D.Disk.count c.args.pass.now
    c.turn-turn.result.before c.deref_mut.result.now.store c.call-result.new.self.store c.own_places-turn.result
    c.has_failed.result
serving g c =
    let turn = c.turn-turn in
    record {
      held_is = turn.ensures.pass;
      some = c.requires.ready.some;
      places = turn.ensures.places;
      taken = taken-found g.D.Disk.count c.args.pass.now turn.result.before turn.result.value.value.store
          c.deref_mut.result.now.store (ap (λ l. l.store) c.deref_mut.ensures.value) turn.ensures.taken
          turn.ensures.settled turn.ensures.seen
          turn.ensures.faults;
      answered = c.call-result.ensures.goes_on;
      own_is = c.own_places-turn.ensures ∙ ap (λ l. own_places l.store) c.deref.ensures;
      told = subst (λ (b : Bool). IsTold c.call-result.new.self.store b) (sym c.has_failed.ensures)
          (call-told c.args.command.now c.args.at c.call-result.result c.deref_mut.result.now.store
          c.call-result.new.self.store
          c.call-result.ensures.says);
    }

pub back-requires-clause-places : goal.back-requires-clause-places
back-requires-clause-places g c =
    (serving-givable (serving g (goal.at.back-requires-clause-places g c).After-own_places-turn)).places

pub back-requires-clause-settled : goal.back-requires-clause-settled
back-requires-clause-settled g c =
    (serving-givable (serving g (goal.at.back-requires-clause-settled g c).After-own_places-turn)).settled

pub back-requires-clause-logged : goal.back-requires-clause-logged
back-requires-clause-logged g c =
    subst (λ (l : List Row). IsOlder l c.call-result.new.self.log)
    (ap (λ l. l.log) c.deref_mut.ensures.value ∙ sym c.turn-turn.ensures.log) c.call-result.ensures.told

pub back-requires-clause-owned : goal.back-requires-clause-owned
back-requires-clause-owned g c =
    (serving-givable (serving g (goal.at.back-requires-clause-owned g c).After-own_places-turn)).accounts

-- and when it was given back
served : (g : _) (c : goal.After-ring_next g) → IsServed g.D.Disk.count c.args.pass.now c.back.new.pass
    c.turn-turn.result.before c.deref_mut.result.now.store c.call-result.new.self.store c.own_places-turn.result
    c.has_failed.result
served g c = record {
  serving = serving g (goal.at.returns-clause-own g c).After-own_places-turn;
  lock = c.self.inside.lock;
  log = c.call-result.new.self.log;
  new_is = c.back.ensures.pass;
}

pub returns-clause-turn : goal.returns-clause-turn
returns-clause-turn g c =
    let answer = c.call-result in
    served-turn (served g c) (CallSays c.args.command.now c.args.at answer.result) answer.result c.has_failed.ensures
    answer.ensures.says
    answer.ensures.cause

pub returns-clause-own : goal.returns-clause-own
returns-clause-own g c = served-own (served g c)

pub returns-clause-keeps : goal.returns-clause-keeps
unfolding served
returns-clause-keeps g c = served-keeps (served g c) c.args.self.now c.self.view_is
