-- The turns of those whose asks were answered in one record, by the lemmas of `Members` and `Handing`.
use denote.Param.Send.{IsSend, sendable}
use Rattle.std.proofs.Crossing.{crosses}
use Rattle.std.proofs.Common.{◌≡◌, ◌∙◌, ◌∷◌, List, ℕ, Ok, length, take, ap, sym, subst, arith, ◌<◌, ◌≤◌}
use Rattle.atomic_table.specs.Seated.{TableId}
use Rattle.farm_store.specs.declared.asking.Ask.{Ask}
use Rattle.farm_entry.specs.declared.entry.Entry.{Entry}
use Rattle.farm_store.specs.State.{StoreState}
use Rattle.farm_store.specs.declared.asking.Part.{Part}
use Rattle.common_types.proofs.Prefixes.{IsPrefix-length, IsPrefix-trans}
use Rattle.common_types.proofs.Rows.{IsOlder-refl}
use Rattle.common_types.specs.Rows.{IsOlder}
use Rattle.common_types.specs.declared.row.Row.{Row}
use Rattle.turn_lock.specs.Known.{AccountsFor, Known, known_after}
use Rattle.turn_lock.specs.Places.{ArePlaces}
use Rattle.shared_farm.specs.Rounds.{IsShared}
use Rattle.shared_farm.specs.Outcomes.{HadTurn}
use Rattle.shared_farm.proofs.Handing.{IsTakenFirst, taken-first, whole-shown}
use Rattle.shared_farm.proofs.Members.{AreStored, IsOnward, shared-on, store_at, stored-had, stored-on, stored-onward, take-begins}
use Rattle.shared_farm.proofs.Turning.{over-after}
use Rattle.shared_farm.proofs.round.+share_out.Goals.{After-is_empty, After-remove-asks}
use Rattle.shared_farm.specs.contracts.round.share_out.{D-Over-row}
use Rattle.shared_farm.proofs.round.+share_out.Goals as goal

pub back-requires-clause-grown : goal.back-requires-clause-grown
back-requires-clause-grown g t c =
    let H = c.args.turn.value.value.store.history in
    IsPrefix-trans c.args.turn.before.taken.entries (take c.args.shown H) H c.requires.grown
    (take-begins c.args.shown H)

pub back-requires-clause-places : goal.back-requires-clause-places
back-requires-clause-places g t c =
    subst (λ (l : List Entry). ArePlaces (length c.args.turn.before.taken.entries) (length l) c.args.turn.own)
    (whole-shown c.args.lock.now c.args.errands.now c.args.turn.value.value.store c.args.shown c.args.parts.now
    c.args.group.now c.is_empty.result c.requires.shared c.requires.helped c.is_empty.ensures c.if-is_empty.true)
    c.requires.places

pub returns-then-is_empty-clause-pass : goal.returns-then-is_empty-clause-pass
returns-then-is_empty-clause-pass g t c =
    let turn = c.args.turn in
    let store = turn.value.value.store in
    subst (λ (l : List Entry). c.back.new.pass
    ≡ known_after c.args.lock.now turn.before l turn.own (g.D.Disk.count store.disk) store.pending
    turn.value.value.log turn.failed)
    (sym (whole-shown c.args.lock.now c.args.errands.now store c.args.shown c.args.parts.now c.args.group.now
    c.is_empty.result c.requires.shared c.requires.helped c.is_empty.ensures c.if-is_empty.true)) c.back.ensures.pass

pub back-requires-clause-owned : goal.back-requires-clause-owned
back-requires-clause-owned g t c =
    let turn = c.args.turn in
    let store = turn.value.value.store in
    subst (λ (l : List Entry). AccountsFor turn.before.taken l store.pending turn.own turn.failed)
    (whole-shown c.args.lock.now c.args.errands.now store c.args.shown c.args.parts.now c.args.group.now
    c.is_empty.result c.requires.shared c.requires.helped c.is_empty.ensures c.if-is_empty.true)
    c.requires.owned

-- the first errand with its part, and those of the others
first : (g : _) (t : _) (c : After-remove-asks g t) → IsTakenFirst c.args.lock.now c.args.errands.now
    c.args.parts.now.items c.remove-asks.result c.remove-asks.new.self.items c.remove-taken.result
    c.remove-taken.new.self.items
first g t c =
    let some : 0 < length c.args.group.now.items = omega arith in
    taken-first c.args.lock.now c.args.errands.now c.args.parts.now.items c.remove-asks.new.self.items
    c.args.group.now.items c.remove-taken.new.self.items c.remove-asks.result c.remove-taken.result c.requires.helped
    some c.remove-asks.ensures.value c.remove-asks.ensures.items c.remove-taken.ensures.value
    c.remove-taken.ensures.items

-- the record that its part shares with those of the others, as its turn finds it
stored : (g : _) (t : _) (c : After-remove-asks g t) → AreStored g.D.Disk.count
    (store_at c.args.turn.value.value.store c.args.shown 0) c.args.turn.value.value.store c.args.shown
    (c.remove-asks.result ∷ c.remove-asks.new.self.items)
stored g t c =
    let store = c.args.turn.value.value.store in
    stored-on g.D.Disk.count store c.args.shown (c.remove-asks.result ∷ c.remove-asks.new.self.items)
    (subst (λ (l : List Part). IsShared store c.args.shown l) (first g t c).parts_are c.requires.shared)

pub overflow_sub-end : goal.overflow_sub-end
overflow_sub-end g t c =
    let s = stored g t (goal.at.overflow_sub-end g t c).After-remove-asks in
    (shared-on c.args.turn.value.value.store c.args.shown c.remove-asks.result c.remove-asks.new.self.items s.shared).1

-- what the bound says of the disk's moments, at the first place: a search looks at few records
moment-send : (g : _) (t : _) (c : After-is_empty g t) → IsSend (D-Over-row g.row.D g.row.B g.row.D-Over)
moment-send g t c = search (sendable, crosses) depth 20

pub share_out-requires : goal.share_out-requires
share_out-requires g t c κs within =
    let f = first g t (goal.at.share_out-requires g t c).After-remove-asks in
    let s = stored g t (goal.at.share_out-requires g t c).After-remove-asks in
    let count = g.D.Disk.count in
    let store = c.args.turn.value.value.store in
    let part = c.remove-asks.result in
    let later = c.remove-asks.new.self.items in
    let turn = c.hand_on-turn in
    let now : store ≡ turn.result.value.value.store = ap (λ b. b.value.store) (sym turn.ensures.value) in
    let gone : length c.remove-taken.new.self.items < length c.args.group.now.items =
    omega (arith, c.remove-taken.ensures.len, c.args.group.now.ok.0, c.remove-taken.new.self.ok.0) in
    let on : IsOnward count turn.result.value.value.store part later turn.result.before.taken c.run-turn.result =
    subst (λ (x : StoreState g.row.D.Denot). IsOnward count x part later turn.result.before.taken c.run-turn.result)
    now (stored-onward count (store_at store c.args.shown 0) store c.args.shown part later turn.result.before.taken
    c.run-turn.result s turn.ensures.taken c.run-turn.ensures) in
    let older : IsOlder turn.result.before.log turn.result.value.value.log =
    subst (λ (l : List Row). IsOlder turn.result.before.log l)
    (turn.ensures.log ∙ ap (λ b. b.value.log) (sym turn.ensures.value)) (IsOlder-refl turn.result.before.log) in
    let own = ap (λ (k : Known). k.lock) turn.ensures.before ∙ ap (λ (k : Known). k.lock) f.first.pass
    ∙ f.first.errand.ready.own in (
      subst (λ (n : ℕ). length c.remove-taken.new.self.items < n) c.decreases gone,
      (
        within.0,
        (
          within.1.0,
          (
            within.1.1,
            (
              moment-send g t (goal.at.share_out-requires g t c).After-is_empty,
              (
                c.requires.key,
                (
                  own,
                  (
                    turn.ensures.out,
                    (
                      on.grown,
                      (
                        on.faults,
                        (
                          on.settled,
                          (
                            on.places,
                            (on.shared, (older, (f.others, on.accounts turn.result.failed))),
                          ),
                        ),
                      ),
                    ),
                  ),
                ),
              ),
            ),
          ),
        ),
      ),
    )

pub answer-requires-clause-says : goal.answer-requires-clause-says
answer-requires-clause-says g t c =
    let f = first g t (goal.at.answer-requires-clause-says g t c).After-remove-asks in
    let s = stored g t (goal.at.answer-requires-clause-says g t c).After-remove-asks in
    let count = g.D.Disk.count in
    let lock = c.args.lock.now in
    let store = c.args.turn.value.value.store in
    let part = c.remove-asks.result in
    let later = c.remove-asks.new.self.items in
    let turn = c.hand_on-turn in
    let held = turn.result.before in
    let pass = c.remove-taken.result.pass in
    let new = c.share_out.new.pass in
    let now : turn.result.value.value.store ≡ store = ap (λ b. b.value.store) turn.ensures.value in
    let log = turn.result.value.value.log in
    let H = turn.result.value.value.store.history in
    let new_is = subst (λ (x : StoreState g.row.D.Denot). new
    ≡ known_after lock held (take part.end x.history) c.run-turn.result (count x.disk) x.pending log
    turn.result.failed) now
    c.share_out.ensures.pass in
    let had = stored-had count (store_at store c.args.shown 0) store c.args.shown part later pass new held
    c.run-turn.result lock s turn.ensures.before
    (record {
      took = turn.ensures.taken;
      settled = turn.ensures.settled;
      begins = turn.ensures.seen;
      faults = turn.ensures.faults;
    }) turn.ensures.mine c.run-turn.ensures
    (subst (λ (k : Known). 0 < k.stake.parts) (sym f.first.pass) f.first.errand.ready.some) turn.result.failed
    turn.ensures.failed log new_is in
    let job = c.remove-taken.result.taken.job in
    record {
      asks = f.first.asks;
      had = subst (λ (l : TableId). HadTurn count l job.asks.items (Ok part.answers) job.pass new)
          (sym c.requires.key)
          (subst (λ (l : List Ask). HadTurn count lock l (Ok part.answers) job.pass new) f.first.asks
          (subst (λ (k : Known). HadTurn count lock part.asks.items (Ok part.answers) k new) f.first.pass had));
      over = over-after g.D.DatedDisk.dated (g.D.Over.Past.at c.passed-over.result) new turn.result.value.value
          c.deref.result.now held.pass.rows c.deref.ensures c.passed-over.ensures.newest c.passed-over.ensures.over
          (ap (λ (k : Known). k.rows) c.share_out.ensures.pass)
          (subst (λ (l : List Entry). length l ≤ length H) (sym (ap (λ (k : Known). k.seen) c.share_out.ensures.pass))
          (IsPrefix-length (take part.end H) H (take-begins part.end H)));
    }
