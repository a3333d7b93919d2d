use Rattle.std.proofs.Common.{Bool, List, length, arith, ap, refl, subst, sym, ◌∙◌}
use Rattle.common_types.specs.Rows.{IsOlder}
use Rattle.common_types.specs.declared.row.Row.{Row}
use Rattle.turn_lock.specs.Known.{Known}
use Rattle.shared_farm.specs.Answered.{own_places}
use Rattle.shared_farm.proofs.Accounting.{IsTold, batch-told}
use Rattle.shared_farm.proofs.Members.{had-turn}
use Rattle.shared_farm.proofs.Turning.{IsServed, IsServing, over-after, says-alone, serving-givable, taken-found}
use Rattle.shared_farm.proofs.sharing.ask_alone.Goals.{After-own_places-turn}
use Rattle.shared_farm.proofs.sharing.ask_alone.Goals as goal

-- the turn of the caller, when the store has answered
serving : (g : _) (c : After-own_places-turn g) → IsServing g.D.Disk.count c.args.pass.now
    c.turn-turn.result.before c.deref_mut.result.now.store c.call_batch-result.new.self.store c.own_places-turn.result
    c.has_failed.result
serving g c =
    let turn = c.turn-turn in
    record {
      held_is = turn.ensures.pass;
      some = c.requires.ready.some;
      places = turn.ensures.places;
      taken = taken-found g.D.Disk.count c.args.pass.now turn.result.before turn.result.value.value.store
          c.deref_mut.result.now.store (ap (λ l. l.store) c.deref_mut.ensures.value) turn.ensures.taken
          turn.ensures.settled turn.ensures.seen
          turn.ensures.faults;
      answered = c.call_batch-result.ensures.goes_on;
      own_is = c.own_places-turn.ensures ∙ ap (λ l. own_places l.store) c.deref.ensures;
      told = subst (λ (b : Bool). IsTold c.call_batch-result.new.self.store b) (sym c.has_failed.ensures)
          (batch-told c.args.asks.now c.call_batch-result.result c.deref_mut.result.now.store
          c.call_batch-result.new.self.store c.call_batch-result.ensures.says);
    }

pub back-requires-clause-places : goal.back-requires-clause-places
back-requires-clause-places g c =
    (serving-givable (serving g (goal.at.back-requires-clause-places g c).After-own_places-turn)).places

pub back-requires-clause-settled : goal.back-requires-clause-settled
back-requires-clause-settled g c =
    (serving-givable (serving g (goal.at.back-requires-clause-settled g c).After-own_places-turn)).settled

pub back-requires-clause-logged : goal.back-requires-clause-logged
back-requires-clause-logged g c =
    subst (λ (l : List Row). IsOlder l c.call_batch-result.new.self.log)
    (ap (λ l. l.log) c.deref_mut.ensures.value ∙ sym c.turn-turn.ensures.log) c.call_batch-result.ensures.told

pub back-requires-clause-owned : goal.back-requires-clause-owned
back-requires-clause-owned g c =
    (serving-givable (serving g (goal.at.back-requires-clause-owned g c).After-own_places-turn)).accounts

-- and when it was given back
served : (g : _) (c : goal.After-back g) → IsServed g.D.Disk.count c.args.pass.now c.back.new.pass
    c.turn-turn.result.before c.deref_mut.result.now.store c.call_batch-result.new.self.store c.own_places-turn.result
    c.has_failed.result
served g c = record {
  serving = serving g (goal.at.returns-clause-had g c).After-own_places-turn;
  lock = c.args.lock.now;
  log = c.call_batch-result.new.self.log;
  new_is = c.back.ensures.pass;
}

pub returns-clause-had : goal.returns-clause-had
unfolding served
returns-clause-had g c =
    let answer = c.call_batch-result in
    let asks = c.args.asks.now in
    had-turn g.D.Disk.count c.args.lock.now asks answer.result (served g c) refl c.has_failed.ensures
    (says-alone c.args.pass.now.lock asks answer.result c.deref_mut.result.now.store answer.new.self.store
    answer.ensures.says)
    answer.ensures.cause

pub returns-clause-over : goal.returns-clause-over
returns-clause-over g c =
    let left = c.call_batch-result.new.self in
    let asked = c.passed-over in
    over-after g.D.DatedDisk.dated (g.D.Over.Past.at asked.result) c.back.new.pass left c.deref-2.result.now
    c.turn-turn.result.before.pass.rows c.deref-2.ensures asked.ensures.newest asked.ensures.over
    (ap (λ (k : Known). k.rows) c.back.ensures.pass)
    (omega (arith, ap (λ (k : Known). length k.seen) c.back.ensures.pass))
