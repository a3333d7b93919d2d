use denote.Param.Send.{IsSend}
use Rattle.std.proofs.Common.{ap, subst, sym, ◌∙◌, ◌<◌, Bool, List, length, arith}
use Rattle.std.proofs.lemmas.List.{take_all}
use Rattle.farm_entry.specs.declared.entry.Entry.{Entry}
use Rattle.farm_store.specs.Answering.{BatchSays}
use Rattle.farm_store.specs.declared.asking.Ask.{Ask}
use Rattle.common_types.specs.Rows.{IsOlder}
use Rattle.common_types.specs.declared.row.Row.{Row}
use Rattle.turn_lock.specs.Known.{AccountsFor, Known}
use Rattle.shared_farm.specs.Outcomes.{HadTurn}
use Rattle.shared_farm.specs.Answered.{own_places}
use Rattle.shared_farm.proofs.Accounting.{IsTold, batch-told}
use Rattle.shared_farm.proofs.Handing.{IsTakenFirst, taken-first}
use Rattle.shared_farm.proofs.Members.{had-turn}
use Rattle.shared_farm.proofs.Turning.{IsServed, IsServing, over-after, says-alone, serving-givable, taken-whole}
use Rattle.shared_farm.proofs.round.+ask_each.Goals.{After-is_empty, After-own_places-turn, After-remove-asks}
use Rattle.shared_farm.specs.contracts.round.ask_each.{D-Over-row}
use Rattle.shared_farm.proofs.round.+ask_each.Goals as goal

-- the first errand with its part, and those of the others
first : (g : _) (t : _) (c : After-remove-asks g t) → IsTakenFirst c.args.lock.now c.args.errands.now
    c.args.parts.now.items c.remove-asks.result c.remove-asks.new.self.items c.remove-taken.result
    c.remove-taken.new.self.items
first g t c =
    let some : 0 < length c.args.group.now.items = omega arith in
    taken-first c.args.lock.now c.args.errands.now c.args.parts.now.items c.remove-asks.new.self.items
    c.args.group.now.items c.remove-taken.new.self.items c.remove-asks.result c.remove-taken.result c.requires.helped
    some c.remove-asks.ensures.value c.remove-asks.ensures.items c.remove-taken.ensures.value
    c.remove-taken.ensures.items

-- whose pass has a part of the farm
has_part : (g : _) (t : _) (c : After-remove-asks g t) → 0 < c.remove-taken.result.pass.stake.parts
has_part g t c =
    let f = first g t c in
    subst (λ (k : Known). 0 < k.stake.parts) (sym f.first.pass) f.first.errand.ready.some

-- all entries are shown
pub hand_on-turn-requires-clause-owned : goal.hand_on-turn-requires-clause-owned
hand_on-turn-requires-clause-owned g t c =
    let turn = c.args.turn in
    let store = turn.value.value.store in
    let shown = length c.history-shown.result.now in
    let is = ap length (c.history-shown.ensures.value ∙ ap (λ l. l.store.history) c.deref.ensures) in
    subst (λ (l : List Entry). AccountsFor turn.before.taken l store.pending turn.own turn.failed)
    (sym (take_all shown store.history (omega (arith, is)))) c.requires.owned

-- what the store answered
asked : (g : _) (t : _) (c : After-own_places-turn g t) → BatchSays c.remove-asks.result.asks.items
    c.call_batch-result.result c.deref_mut.result.now.store c.call_batch-result.new.self.store
asked g t c =
    subst (λ (l : List Ask). BatchSays l c.call_batch-result.result c.deref_mut.result.now.store
    c.call_batch-result.new.self.store) c.deref-2.ensures.value c.call_batch-result.ensures.says

-- the turn of the errand's pass, when the store has answered: it went on with the store that did
serving : (g : _) (t : _) (c : After-own_places-turn g t) → 0 < c.remove-taken.result.pass.stake.parts
    → IsServing g.D.Disk.count c.remove-taken.result.pass
    c.hand_on-turn.result.before c.deref_mut.result.now.store c.call_batch-result.new.self.store
    c.own_places-turn.result c.has_failed.result
serving g t c some =
    let hand = c.hand_on-turn in
    record {
      held_is = hand.ensures.before;
      some = some;
      places = hand.ensures.mine;
      taken = taken-whole g.D.Disk.count c.remove-taken.result.pass hand.result.before c.args.turn.value.value.store
          c.deref_mut.result.now.store (length c.history-shown.result.now)
          ((ap (λ l. l.store) c.deref_mut.ensures.value) ∙ ap (λ b. b.value.store) hand.ensures.value)
          (ap length (c.history-shown.ensures.value ∙ ap (λ l. l.store.history) c.deref.ensures)) hand.ensures.taken
          hand.ensures.settled hand.ensures.seen hand.ensures.faults;
      answered = c.call_batch-result.ensures.goes_on;
      own_is = c.own_places-turn.ensures ∙ ap (λ l. own_places l.store) c.deref-3.ensures;
      told = subst (λ (b : Bool). IsTold c.call_batch-result.new.self.store b) (sym c.has_failed.ensures)
          (batch-told c.deref-2.result.now c.call_batch-result.result c.deref_mut.result.now.store
          c.call_batch-result.new.self.store c.call_batch-result.ensures.says);
    }

-- what the bound says of the disk's moments, at the first place: a search looks at few records
moment-send : (g : _) (t : _) (c : After-is_empty g t) → IsSend (D-Over-row g.row.D g.row.B g.row.D-Over)
moment-send g t c = search

pub ask_each-requires : goal.ask_each-requires
ask_each-requires g t c κs within =
    let hand = c.hand_on-turn in
    let f = first g t (goal.at.ask_each-requires g t c).After-remove-asks in
    let on = serving-givable (serving g t (goal.at.ask_each-requires g t c).After-own_places-turn
    (has_part g t (goal.at.ask_each-requires g t c).After-remove-asks)) in
    let fewer : length c.remove-taken.new.self.items < length c.args.group.now.items = omega arith in
    let older : IsOlder hand.result.before.log c.call_batch-result.new.self.log =
    subst (λ (l : List Row). IsOlder l c.call_batch-result.new.self.log)
    (ap (λ l. l.log) c.deref_mut.ensures.value ∙ ap (λ b. b.value.log) hand.ensures.value ∙ sym hand.ensures.log)
    c.call_batch-result.ensures.told in
    let ready = ap (λ (k : Known). k.lock) (hand.ensures.before ∙ f.first.pass) ∙ f.first.errand.ready.own in (
      omega (arith, fewer, c.decreases),
      (
        within.0,
        (
          within.1.0,
          (
            within.1.1,
            (
              moment-send g t (goal.at.ask_each-requires g t c).After-is_empty,
              (
                c.requires.key,
                (
                  ready,
                  (
                    hand.ensures.out,
                    (
                      on.grown,
                      (
                        on.faults,
                        (on.settled, (on.places, (older, (f.others, on.accounts)))),
                      ),
                    ),
                  ),
                ),
              ),
            ),
          ),
        ),
      ),
    )

-- and when it went on or was given back
served : (g : _) (t : _) (c : goal.After-ask_each g t) → IsServed g.D.Disk.count c.remove-taken.result.pass
    c.ask_each.new.pass c.hand_on-turn.result.before c.deref_mut.result.now.store c.call_batch-result.new.self.store
    c.own_places-turn.result c.has_failed.result
served g t c = record {
  serving = serving g t (goal.at.answer-requires-clause-says g t c).After-own_places-turn
      (has_part g t (goal.at.answer-requires-clause-says g t c).After-remove-asks);
  lock = c.args.lock.now;
  log = c.call_batch-result.new.self.log;
  new_is = c.ask_each.ensures.pass;
}

pub answer-requires-clause-says : goal.answer-requires-clause-says
unfolding served
answer-requires-clause-says g t c =
    let answer = c.call_batch-result in
    let count = g.D.Disk.count in
    let key = c.args.errands.now.key in
    let asks = c.remove-asks.result.asks.items in
    let new = c.ask_each.new.pass in
    let pass = c.remove-taken.result.pass in
    let at = goal.at.answer-requires-clause-says g t c in
    let f = first g t at.After-remove-asks in
    let had : HadTurn count key asks answer.result pass new =
    had-turn count key asks answer.result (served g t c) (sym c.requires.key) c.has_failed.ensures
    (says-alone pass.lock asks answer.result c.deref_mut.result.now.store answer.new.self.store
    (asked g t at.After-own_places-turn)) answer.ensures.cause in
    record {
      asks = f.first.asks;
      had = subst (λ (l : List Ask). HadTurn count key l answer.result c.remove-taken.result.taken.job.pass new)
          f.first.asks (subst (λ (k : Known). HadTurn count key asks answer.result k new) f.first.pass had);
      over = over-after g.D.DatedDisk.dated (g.D.Over.Past.at c.passed-over.result) new answer.new.self
          c.deref-4.result.now c.hand_on-turn.result.before.pass.rows c.deref-4.ensures c.passed-over.ensures.newest
          c.passed-over.ensures.over (ap (λ (k : Known). k.rows) c.ask_each.ensures.pass)
          (omega (arith, ap (λ (k : Known). length k.seen) c.ask_each.ensures.pass));
    }
